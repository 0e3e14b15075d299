-- The lines of replies.
use Rattle.std.specs.Prelude.{ℕ, ℤ, List, [], ◌∷◌, ◌++◌, codes}
use Rattle.std.specs.Fmt.{decimal, signed_decimal}
use Rattle.prof_marker.specs.declared.list.Marker.{Marker}
use Rattle.prof_tree.specs.declared.node.Node.{Node}

-- a line
abbrev pub line : List ℕ → List ℕ
line text = text ++ 10 ∷ []

-- what stands before a node's name: its depth, total, self weight, category and function
unfoldable pub node_head : Node → List ℕ
node_head node = decimal node.depth ++ codes " " ++ signed_decimal node.total ++ codes " " ++ signed_decimal node.own
    ++ codes " " ++ decimal node.category ++ codes " " ++ decimal node.func ++ codes " "

-- the first line of a tree: its kind, its unit, the number of its nodes, and the weights
unfoldable pub tree_head : List ℕ → List ℕ → ℕ → ℤ → ℤ → List ℕ
tree_head kind unit nodes selected dropped = codes "tree " ++ kind ++ codes " unit " ++ unit ++ codes " nodes " ++ decimal nodes
    ++ codes " selected " ++ signed_decimal selected ++ codes " dropped " ++ signed_decimal dropped ++ codes "\n"

-- the first line of markers: their number
unfoldable pub markers_head : ℕ → List ℕ
markers_head markers = codes "markers " ++ decimal markers ++ codes "\n"

-- what stands before a marker's name: when it starts and when it ends
unfoldable pub marker_head : Marker → List ℕ
marker_head marker = signed_decimal marker.start ++ codes " " ++ signed_decimal marker.end ++ codes " "
