use Rattle.std.proofs.Common.{◌≡◌, ℕ, ◌+◌, ◌-◌, ◌^◌, min, drop, length, take_while, ap, sym, ◌∙◌, arith}
use Rattle.std.specs.Char.{is_ascii_digit}
use Rattle.prof_time.specs.Scaled.{digits_value}
use Rattle.prof_time.specs.TakenApart.{numeral_of, is_minus, without_sign, behind_digits, fraction_in_front, behind_fraction}
use Rattle.prof_time.proofs.decimal.Decimal.of.Goals as goal
use Rattle.prof_time.proofs.decimal.Decimal.of.Goals.{then-is_down, else-is_down}

clip : (E v x : ℕ) → v ≡ min E (2 ^ 128 - 1) → x ≡ min v (2 ^ 100) → x ≡ min E (2 ^ 100)
clip E v x e f = omega arith

pub returns : goal.returns
unfolding numeral_of
returns c =
    let behind_sign = c.split_sign-negative.ensures.rest in
    let behind_whole = c.split_digits.ensures.rest ∙ ap behind_digits behind_sign in
    let tail = ap (drop 1) (c.split_fraction.ensures.rest ∙ ap behind_fraction behind_whole) in
    let down = c.split_exponent-is_down.ensures.down ∙ ap is_minus tail in
    let digits = c.split_exponent-is_down.ensures.digits ∙ ap without_sign tail in
    let fraction = c.split_fraction.ensures.digits ∙ ap fraction_in_front behind_whole in
    let exponent = clip _ _ _ c.value_behind.ensures c.min-exponent.ensures ∙ ap (λ ds. min (digits_value ds) (2 ^ 100)) digits in
    let len = ap length fraction in
    record {
      negative = c.split_sign-negative.ensures.negative;
      whole = c.split_digits.ensures.digits ∙ ap (take_while is_ascii_digit) behind_sign;
      fraction = fraction;
      up = elim c.if-is_down.branch [
        | then-is_down w ↦ rw (sym down ∙ w.if-is_down.true) (ap (λ (p : ℕ × ℕ). p.0) w.up-is)
        | else-is_down w ↦ rw (sym down ∙ w.if-is_down.false) (ap (λ (p : ℕ × ℕ). p.0) w.up-is ∙ exponent)
      ];
      down = elim c.if-is_down.branch [
        | then-is_down w ↦ rw (sym down ∙ w.if-is_down.true) (ap (λ (p : ℕ × ℕ). p.1) w.up-is ∙ ap (λ n. n + c.min-exponent.result) len ∙ ap (λ n. length (fraction_in_front (behind_digits (without_sign c.args.text.now))) + n) exponent)
        | else-is_down w ↦ rw (sym down ∙ w.if-is_down.false) (ap (λ (p : ℕ × ℕ). p.1) w.up-is ∙ len ∙ omega arith)
      ];
    }
