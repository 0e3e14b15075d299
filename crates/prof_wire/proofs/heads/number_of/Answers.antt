use Rattle.std.proofs.Common.{ℕ, suc, ap, ◌∙◌, ◌≡◌, ◌≤◌, ◌+◌, ◌-◌, ◌*◌, ◌^◌, get_or, arith}
use Rattle.std.proofs.Math.Nat.{pow-le-pow_right, pow-succ'}
use Rattle.std.proofs.lemmas.Int.Digits.{digits_value_more}
use Rattle.prof_wire.proofs.Fields.{digit_at, digit_is}
use Rattle.prof_wire.proofs.heads.number_of.Goals as goal

pub overflow_mul-number : goal.overflow_mul-number
overflow_mul-number c =
    let tens : 10 ^ c.loop-digit.digit-index ≤ 10 ^ 17 = pow-le-pow_right {n = 10} (omega arith) {i = c.loop-digit.digit-index} {j = 17} (omega arith) in
    omega arith

pub overflow_add-number : goal.overflow_add-number
overflow_add-number c =
    let tens : 10 ^ c.loop-digit.digit-index ≤ 10 ^ 17 = pow-le-pow_right {n = 10} (omega arith) {i = c.loop-digit.digit-index} {j = 17} (omega arith) in
    let digit = digit_is (get_or c.args.digits.now c.loop-digit.digit-index 0) (digit_at c.args.digits.now c.loop-digit.digit-index c.requires.digits (omega arith)) in
    omega (arith, digit.1)

pub loop-digit-preserved : goal.loop-digit-preserved
loop-digit-preserved c =
    let digit = digit_is (get_or c.args.digits.now c.loop-digit.digit-index 0) (digit_at c.args.digits.now c.loop-digit.digit-index c.requires.digits (omega arith)) in
    let more = digits_value_more 10 c.args.digits.now c.loop-digit.digit-index (omega arith) in
    let next : c.loop-digit.digit-index + 1 ≡ suc c.loop-digit.digit-index = omega arith in
    let ten_times : 10 ^ (c.loop-digit.digit-index + 1) ≡ 10 * 10 ^ c.loop-digit.digit-index = ap (λ (k : ℕ). 10 ^ k) next ∙ pow-succ' 10 c.loop-digit.digit-index in
    record { value = omega (arith, digit.0, more); small = omega (arith, digit.1, ten_times) }
