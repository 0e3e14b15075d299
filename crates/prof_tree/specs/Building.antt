-- What a tree that grows by one path after another holds.
use Rattle.std.specs.Prelude.{◌≡◌, ℕ, List}
use Rattle.std.specs.HashMap.{get}
use Rattle.prof_tree.specs.declared.builder.TreeBuilder.{TreeBuilder}
use Rattle.prof_tree.specs.Forest.{EachOf}
use Rattle.prof_tree.specs.Growing.{IsGrown, IsSmall, pair_eq}
use Rattle.prof_tree.specs.Nodes.{Weighed, total, dropped_of}

-- the builder holds the nodes of these paths, and the sums of their weights, which are of 64 bits
pub record Holds (xs : List Weighed) (b : TreeBuilder) : Type 0 where
  pub keys : List (List ℕ)
  pub grown : IsGrown xs keys b.rows.items (get pair_eq b.index)
  pub small : EachOf IsSmall xs
  pub selected : b.selected ≡ total xs
  pub dropped : b.dropped ≡ dropped_of xs
