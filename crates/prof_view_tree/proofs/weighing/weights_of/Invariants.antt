use Rattle.std.proofs.Common.{map, take}
use Rattle.prof_view_tree.specs.Weighing.{Weighs, own_path}
use Rattle.prof_view_tree.proofs.weighing.weights_of.Given as goal

abbrev pub invariant-loop-k : goal.invariant-loop-k
invariant-loop-k l = Weighs l.thread.shared.stacks (map (own_path l.thread) (take l.k l.thread.samples)) l.weights
