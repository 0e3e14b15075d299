use Rattle.std.proofs.Common.{◌++◌, sym, subst, ap, ◌∙◌, arith, append-nil}
use Rattle.std.proofs.lemmas.List.{take_all}
use Rattle.prof_address.specs.Views.{HasPaths}
use Rattle.prof_path.specs.Views.{ViewLists}
use Rattle.prof_keep.specs.Saved.{lines_text}
use Rattle.prof_keep.proofs.WritingLemmas.{lines_more, each_get}
use Rattle.prof_keep.proofs.writing.push_lines.Goals as goal

pub lines-init : goal.lines-init
lines-init c = sym (append-nil c.args.text.now)

pub push_line-requires : goal.push_line-requires
push_line-requires c = subst (λ (v : ViewLists). HasPaths v) (sym c.view-item.is) (each_get HasPaths c.args.views.now c.lines.view-index c.view-item.result c.requires c.lines-test.true)

pub lines-preserved : goal.lines-preserved
lines-preserved c = lines_more c.args.views.now c.lines.view-index c.view-item.result c.args.text.now c.lines.text c.push_line.new.text c.lines-test.true c.view-item.is c.lines.invariant c.in_ok-push_line.ensures

pub returns : goal.returns
returns c = c.lines.invariant ∙ ap (λ t. c.args.text.now ++ lines_text t) (take_all c.lines.view-index c.args.views.now (omega arith))
