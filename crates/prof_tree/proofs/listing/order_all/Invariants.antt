use Rattle.prof_tree.proofs.Kids.{HasRanked}
use Rattle.prof_tree.proofs.listing.order_all.Given as goal

abbrev pub invariant-loop-head : goal.invariant-loop-head
invariant-loop-head l = HasRanked l.rows l.head-index l.first l.next
