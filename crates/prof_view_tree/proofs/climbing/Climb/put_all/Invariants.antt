use Rattle.std.proofs.Common.{◌≡◌, ◌≤◌, ℕ, List, [], length, take}
use Rattle.std.specs.HashMap.{get}
use Rattle.prof_view_tree.specs.Climbing.{AreAbove, AreComing}
use Rattle.prof_tree.specs.Forest.{key_above}
use Rattle.prof_tree.specs.Growing.{pair_eq}
use Rattle.prof_tree.specs.Nodes.{Weighed, node_limit}
use Rattle.prof_view_tree.proofs.climbing.Climb.put_all.Given as goal

abbrev pub invariant-loop-entry : goal.invariant-loop-entry
invariant-loop-entry l = record {
  rows : length l.self.rows.items ≤ node_limit;
  coming : (zs : List Weighed) (n : ℕ) (ks : List (List ℕ))
      → AreComing l.stacks zs n l.parent (length l.fn.self.rows.items) [] ks l.fn.self.rows.items (get pair_eq l.fn.self.index) l.fn.self.groups.items
      → AreAbove l.stacks zs l.parent ks l.entries → l.depth ≡ length (key_above ks l.parent)
      → (ks' : List (List ℕ)) × AreComing l.stacks zs n l.parent (length l.fn.self.rows.items) (take l.entry-index l.entries) ks' l.self.rows.items (get pair_eq l.self.index) l.self.groups.items
      × (key_above ks' l.parent ≡ key_above ks l.parent);
}
