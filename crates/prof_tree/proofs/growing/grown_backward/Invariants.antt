use Rattle.std.proofs.Common.{ℕ, ◌≤◌, List, length, map, take}
use Rattle.std.specs.HashMap.{get}
use Rattle.prof_tree.specs.Nodes.{weighed, reversed, node_limit}
use Rattle.prof_tree.specs.Forest.{EachOf}
use Rattle.prof_tree.specs.Growing.{IsGrown, IsSmall, pair_eq}
use Rattle.prof_tree.proofs.growing.grown_backward.Given as goal

abbrev pub invariant-loop-place : goal.invariant-loop-place
invariant-loop-place l = record {
  grown : (ks : List (List ℕ)) × IsGrown (map reversed (weighed (take l.place l.paths) (take l.place l.weights))) ks l.rows.items (get pair_eq l.index);
  small : EachOf IsSmall (weighed (take l.place l.paths) (take l.place l.weights));
  within : length l.rows.items ≤ node_limit;
}
