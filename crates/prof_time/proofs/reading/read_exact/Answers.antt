use Rattle.std.proofs.Common.{◌≡◌, arith}
use Rattle.std.specs.Prelude.{pos, unsigned_abs}
use Rattle.std.proofs.lemmas.Int.{ints}
use Rattle.prof_time.proofs.Shorts.{plain_exact, plain_multiple}
use Rattle.prof_time.proofs.reading.read_exact.Goals as goal

pub returns-in_err-size-clause-none : goal.returns-in_err-size-clause-none
returns-in_err-size-clause-none c =
    rw c.from_residual.ensures
    (λ z x. absurd (c.in_err-size.ensures.none (unsigned_abs z) (plain_multiple c.args.text.now c.requires.0 c.in-Some.short z c.requires.1 c.in-Some.ensures x)))

pub returns-clause-exact : goal.returns-clause-exact
returns-clause-exact c =
    let size = c.in_ok-size.size in
    let z : _ ≡ pos size = omega (arith, ints) in
    plain_exact c.args.text.now c.requires.0 c.in-Some.short size _ c.requires.1 c.in-Some.ensures c.in_ok-size.ensures.some z
