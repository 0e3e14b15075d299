use Rattle.std.proofs.Common.{◌≡◌, ◌++◌, drop, false}
use Rattle.prof_path.specs.Rewriting.{collapsed}
use Rattle.prof_path.proofs.collapsing.with_resource.Given as goal

abbrev pub invariant-loop-step : goal.invariant-loop-step
invariant-loop-step l = l.kept.items ++ collapsed l.thread.shared l.filter l.resource l.inside (drop l.step-index l.path) ≡ collapsed l.thread.shared l.filter l.resource false l.path
