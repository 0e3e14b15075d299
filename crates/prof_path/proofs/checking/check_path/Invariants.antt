use Rattle.std.proofs.Common.{◌≡◌, drop}
use Rattle.prof_path.specs.Refusals.{first_out}
use Rattle.prof_path.proofs.checking.check_path.Given as goal

abbrev pub invariant-loop-func : goal.invariant-loop-func
invariant-loop-func l = first_out l.thread.shared (drop l.func-index l.funcs) ≡ first_out l.thread.shared l.funcs
