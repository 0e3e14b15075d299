use Rattle.std.proofs.Common.{ℕ, List, take}
use Rattle.std.specs.HashMap.{get}
use Rattle.prof_tree.specs.Nodes.{Weighed}
use Rattle.prof_tree.specs.Growing.{IsGrown, pair_eq, steps_from}
use Rattle.prof_tree.proofs.Turns.{Walk}
use Rattle.prof_tree.proofs.growing.walk.Given as goal

abbrev pub invariant-loop-depth : goal.invariant-loop-depth
invariant-loop-depth l = (xs : List Weighed) (ks : List (List ℕ)) → IsGrown xs ks l.fn.rows.items (get pair_eq l.fn.index) → (ks' : List (List ℕ)) × Walk xs xs l.weight (take l.depth (steps_from l.from l.path)) ks' l.rows.items (get pair_eq l.index) l.at
