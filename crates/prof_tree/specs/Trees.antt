-- A tree as clauses see it
use Rattle.std.specs.Prelude.{ℤ, List}
use Rattle.prof_tree.specs.declared.node.Node.{Node}

-- the nodes in preorder, the weight of all paths, and that of the paths without a step
pub record TreeLists : Type 0 where
  pub nodes : List Node
  pub selected : ℤ
  pub dropped : ℤ
