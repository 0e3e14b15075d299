use Rattle.std.proofs.Common.{take}
use Rattle.prof_tree.specs.Building.{Holds}
use Rattle.prof_tree.specs.Nodes.{weighed}
use Rattle.prof_tree.proofs.tree.of_paths.Given as goal

abbrev pub invariant-loop-place : goal.invariant-loop-place
invariant-loop-place l = Holds (weighed (take l.place l.paths) (take l.place l.weights)) l.builder
