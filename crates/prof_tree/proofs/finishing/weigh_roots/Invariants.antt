use Rattle.std.proofs.Common.{◌≡◌, ◌++◌, map, take, drop}
use Rattle.prof_tree.specs.Nodes.{at_roots}
use Rattle.prof_tree.proofs.finishing.weigh_roots.Given as goal

abbrev pub invariant-loop-node : goal.invariant-loop-node
invariant-loop-node l = l.nodes ≡ map at_roots (take l.node-index l.initial.nodes) ++ drop l.node-index l.initial.nodes
