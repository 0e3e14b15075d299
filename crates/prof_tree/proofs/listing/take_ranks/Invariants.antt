use Rattle.std.proofs.Common.{◌-◌, length}
use Rattle.prof_tree.proofs.Kids.{Taken}
use Rattle.prof_tree.proofs.listing.take_ranks.Given as goal

abbrev pub invariant-loop-at : goal.invariant-loop-at
invariant-loop-at l = Taken l.rows l.next l.fn.head l.at l.ranks.items

abbrev pub decreases-loop-at : goal.decreases-loop-at
decreases-loop-at l = length l.rows - length l.ranks.items
