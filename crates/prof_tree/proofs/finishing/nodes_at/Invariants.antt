use Rattle.std.proofs.Common.{◌≡◌, map, take}
use Rattle.prof_tree.specs.Forest.{branch}
use Rattle.prof_tree.specs.Growing.{node_from}
use Rattle.prof_tree.proofs.finishing.nodes_at.Given as goal

abbrev pub invariant-loop-row : goal.invariant-loop-row
invariant-loop-row l = l.nodes.items ≡ map (λ row. node_from l.default (branch l.rows row)) (take l.row-index l.order)
