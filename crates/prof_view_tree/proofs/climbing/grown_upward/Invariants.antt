use Rattle.std.proofs.Common.{◌≡◌, ◌≤◌, ◌-◌, ℕ, List, length}
use Rattle.std.specs.HashMap.{get}
use Rattle.prof_view_tree.specs.Climbing.{AreClimbed}
use Rattle.prof_tree.specs.Growing.{pair_eq}
use Rattle.prof_tree.specs.Nodes.{node_limit}
use Rattle.prof_view_tree.specs.Weighing.{back_path, held}
use Rattle.prof_view_tree.proofs.climbing.grown_upward.Given as goal

abbrev pub invariant-loop-node : goal.invariant-loop-node
invariant-loop-node l = record {
  seats : length l.seats.items ≡ length l.stacks;
  rows : length l.climb.rows.items ≤ node_limit;
  climbed : (ks : List (List ℕ)) × AreClimbed l.stacks (held (back_path l.stacks) 0 l.own) l.node ks l.climb.rows.items (get pair_eq l.climb.index) l.climb.groups.items;
}

abbrev pub decreases-loop-node : goal.decreases-loop-node
decreases-loop-node l = node_limit - l.node
