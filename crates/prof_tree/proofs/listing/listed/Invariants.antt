use Rattle.std.proofs.Common.{◌-◌, length}
use Rattle.prof_tree.proofs.Steps.{Pending}
use Rattle.prof_tree.proofs.listing.listed.Given as goal

abbrev pub invariant-loop-row : goal.invariant-loop-row
invariant-loop-row l = Pending l.rows l.children.next.items l.out.items l.stack.items

abbrev pub decreases-loop-row : goal.decreases-loop-row
decreases-loop-row l = length l.rows - length l.out.items
