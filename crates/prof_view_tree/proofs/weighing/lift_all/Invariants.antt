use Rattle.prof_view_tree.proofs.Lifting.{AreLifted}
use Rattle.prof_view_tree.proofs.weighing.lift_all.Given as goal

abbrev pub invariant-loop-row : goal.invariant-loop-row
invariant-loop-row l = AreLifted l.stacks l.initial.weights l.row l.weights
