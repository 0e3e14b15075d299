use Rattle.std.proofs.Common.{ℤ, ℕ, List, Option}
use Rattle.std.specs.HashMap.{get}
use Rattle.prof_tree.specs.Growing.{pair_eq}
use Rattle.prof_view_tree.specs.Sprouting.{AreSprouted, AreWeighed}
use Rattle.prof_view_tree.specs.Weighing.{AreThrough}
use Rattle.prof_view_tree.proofs.sprouting.sprout_all.Given as goal

abbrev pub invariant-loop-place : goal.invariant-loop-place
invariant-loop-place l = (own : List (Option ℤ)) → AreWeighed l.stacks own → AreThrough l.stacks own l.through
    → (ks : List (List ℕ)) × AreSprouted l.stacks own l.place ks l.rows.items (get pair_eq l.index) l.nodes.items
