use Rattle.std.proofs.Common.{◌≡◌, take, false}
use Rattle.std.specs.List.{list_any}
use Rattle.prof_path.specs.Rewriting.{is_func}
use Rattle.prof_path.proofs.functions.unless_function.Given as goal

abbrev pub invariant-loop-step : goal.invariant-loop-step
invariant-loop-step l = list_any (is_func l.func) (take l.step-index l.path) ≡ false
