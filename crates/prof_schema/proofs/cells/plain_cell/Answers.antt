use Rattle.prof_schema.proofs.Begun.{null_kept, true_kept, other_kept}
use Rattle.prof_schema.proofs.cells.plain_cell.Goals as goal

pub returns-in-Number : goal.returns-in-Number
returns-in-Number g c = λ v s object start. c.number_cell.ensures v s start

pub returns-in-Null : goal.returns-in-Null
returns-in-Null g c = λ v s object start. null_kept c.args.first c.args.feed.now v start c.requires c.in-Null.is s

pub returns-in-True : goal.returns-in-True
returns-in-True g c = λ v s object start. true_kept c.args.first c.args.feed.now v start c.requires c.in-True.is s

pub returns-in_default : goal.returns-in_default
returns-in_default g c = λ v s object start. other_kept c.args.first c.args.feed.now v start c.requires c.in_default.not-Number c.in_default.not-Null c.in_default.not-True s object
