use Rattle.std.proofs.Common.{◌≡◌, true, false, sym, ap, ◌∙◌, arith}
use Rattle.std.specs.Prelude.{unsigned_abs}
use Rattle.std.proofs.lemmas.Int.{ints}
use Rattle.prof_time.specs.Scaled.{signed}
use Rattle.prof_time.proofs.Bridges.{taken_digits, exact_size, exact_parts, exact_from, exact_is, exact_abs}
use Rattle.prof_time.proofs.reading.any_exact.Goals as goal

pub whole_size-requires : goal.whole_size-requires
whole_size-requires c =
    record { digits = taken_digits c.args.text.now c.requires.0 c.of-number.result c.requires.1 c.of-number.ensures }

pub returns-in_err-size-clause-none : goal.returns-in_err-size-clause-none
returns-in_err-size-clause-none c =
    let text = c.args.text.now in
    let m = c.requires.0 in
    let d = c.of-number.result in
    rw c.from_residual.ensures
    (λ z x. let parts = exact_parts text m d (unsigned_abs z) c.requires.1 c.of-number.ensures (omega arith) (exact_is text m z c.requires.1 x) in
    absurd (c.in_err-size.ensures.none parts.0 parts.1))

pub returns-then-size-from-clause-none : goal.returns-then-size-from-clause-none
returns-then-size-from-clause-none c z x =
    let text = c.args.text.now in
    let m = c.requires.0 in
    let d = c.of-number.result in
    let exact = exact_size text m d c.in_ok-size.size c.requires.1 c.of-number.ensures (omega arith) c.in_ok-size.ensures.some in
    omega (arith, exact.2, exact_abs text m exact.0 z c.requires.1 exact.1 x)

pub returns-then-number-clause-exact : goal.returns-then-number-clause-exact
returns-then-number-clause-exact c =
    let text = c.args.text.now in
    let m = c.requires.0 in
    let d = c.of-number.result in
    let size = c.in_ok-size.size in
    let exact = exact_size text m d size c.requires.1 c.of-number.ensures (omega arith) c.in_ok-size.ensures.some in
    let same : exact.0 ≡ size = omega (arith, exact.2) in
    let z : _ ≡ signed true size = omega (arith, ints) in
    exact_from text m d exact.0 _ c.requires.1 c.of-number.ensures exact.1 (z ∙ ap (signed true) (sym same) ∙ ap (λ b. signed b exact.0) (sym c.if-number.true))

pub returns-else-number-clause-exact : goal.returns-else-number-clause-exact
returns-else-number-clause-exact c =
    let text = c.args.text.now in
    let m = c.requires.0 in
    let d = c.of-number.result in
    let size = c.in_ok-size.size in
    let exact = exact_size text m d size c.requires.1 c.of-number.ensures (omega arith) c.in_ok-size.ensures.some in
    let same : exact.0 ≡ size = omega (arith, exact.2) in
    let z : _ ≡ signed false size = omega (arith, ints) in
    exact_from text m d exact.0 _ c.requires.1 c.of-number.ensures exact.1 (z ∙ ap (signed false) (sym same) ∙ ap (λ b. signed b exact.0) (sym c.if-number.false))
