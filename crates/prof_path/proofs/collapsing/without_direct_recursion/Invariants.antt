use Rattle.std.proofs.Common.{◌≡◌, ◌++◌, drop, false}
use Rattle.prof_path.specs.Rewriting.{without_repeats}
use Rattle.prof_path.proofs.collapsing.without_direct_recursion.Given as goal

abbrev pub invariant-loop-step : goal.invariant-loop-step
invariant-loop-step l = l.kept.items ++ without_repeats l.thread.shared l.filter l.func l.called (drop l.step-index l.path) ≡ without_repeats l.thread.shared l.filter l.func false l.path
