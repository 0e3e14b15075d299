use Rattle.std.proofs.Common.{arith}
use Rattle.std.proofs.lemmas.Bool.Decides.{nat_tests}
use Rattle.prof_path.specs.Rewriting.{is_func}
use Rattle.prof_path.proofs.Places.{position-first, position-none}
use Rattle.prof_path.proofs.functions.first_of_function.Goals as goal

pub returns-then-step-func : goal.returns-then-step-func
returns-then-step-func c = position-first (is_func c.args.func) c.args.path.now c.loop-place.place (record { func = 0; category = 0 }) c.loop-place-test.true (grind (arith, nat_tests)) c.loop-place.invariant

pub returns : goal.returns
returns c = position-none (is_func c.args.func) c.args.path.now (λ k d h. c.loop-place.invariant k d (omega arith))
