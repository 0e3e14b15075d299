use Rattle.std.proofs.Common.{◌≡◌}
use Rattle.prof_tree_calls.proofs.trees.settle_changes.Given as goal

abbrev pub invariant-loop-change : goal.invariant-loop-change
invariant-loop-change g l = l.layers.settled ≡ l.transforms.items
