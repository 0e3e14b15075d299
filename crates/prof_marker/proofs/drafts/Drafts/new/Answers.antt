use Rattle.prof_marker.proofs.Keeping.{keeps-none}
use Rattle.prof_marker.proofs.drafts.Drafts.new.Goals as goal

pub returns-clause-kept : goal.returns-clause-kept
returns-clause-kept c = rw (c.in_ok-with_capacity.ensures.items, c.in_ok-with_capacity-2.ensures.items, c.in_ok-nones.ensures, c.in_ok-nones-2.ensures) (keeps-none c.args.strings.now c.count-count.result c.count-count.ensures)
