-- When a number is whole, from its digits.
use Rattle.std.proofs.Common.{◌≡◌, ℕ, ◌+◌, ◌-◌, ◌*◌, ◌^◌, ◌<◌, min, List, length, take, drop, sym, ap, ◌∙◌, arith, inl, inr}
use Rattle.std.specs.List.{All}
use Rattle.std.proofs.Math.Nat.{mul_assoc, eq_of_mul-eq-mul_right, zero-mul}
use Rattle.std.proofs.lemmas.Bool.{cases_lt}
use Rattle.std.proofs.lemmas.List.{length-drop}
use Rattle.prof_time.specs.Numeral.{AreDigits}
use Rattle.prof_time.specs.Scaled.{digits_value}
use Rattle.prof_time.proofs.Values.{read_split, read_lt, read_zeros, zeros_read, AreDigits-drop, ten_pos}
use Rattle.prof_time.proofs.Nearest.{ten_split, rest_zero}

-- the number is its front, moved up, and its last digits
front_and_rest : (ds : List ℕ) (cut kept : ℕ) → kept + cut ≡ length ds → digits_value ds ≡ digits_value (take kept ds) * 10 ^ cut + digits_value (drop kept ds)
front_and_rest ds cut kept e =
    let len : length (drop kept ds) ≡ cut = length-drop kept ds ∙ omega arith in
    read_split kept ds ∙ ap (λ k. digits_value (take kept ds) * 10 ^ k + digits_value (drop kept ds)) len

-- Digits that are cut off, and are zeros, leave a whole number: either as many as the divisor has were cut off, or all were.
pub zeros_whole : (ds : List ℕ) (up down cut kept : ℕ) → up < down → kept + cut ≡ length ds → cut ≡ min (down - up) (length ds) → All (λ d. d ≡ 48) (drop kept ds) → digits_value ds * 10 ^ up ≡ digits_value (take kept ds) * 10 ^ down
zeros_whole ds up down cut kept lt e c zeros =
    let F = digits_value (take kept ds) in
    let value : digits_value ds ≡ F * 10 ^ cut = front_and_rest ds cut kept e ∙ ap (λ r. F * 10 ^ cut + r) (zeros_read (drop kept ds) zeros) ∙ omega arith in
    elim (cases_lt (length ds) (down - up)) [
      | inl all ↦
          let none : kept ≡ 0 = omega arith in
          let front : F ≡ 0 = ap (λ k. digits_value (take k ds)) none in
          let nothing : digits_value ds ≡ 0 = value ∙ ap (λ n. n * 10 ^ cut) front ∙ zero-mul (10 ^ cut) in
          ap (λ n. n * 10 ^ up) nothing ∙ zero-mul (10 ^ up) ∙ sym (zero-mul (10 ^ down)) ∙ ap (λ n. n * 10 ^ down) (sym front)
      | inr some ↦
          let same : cut ≡ down - up = omega arith in
          ap (λ n. n * 10 ^ up) value ∙ mul_assoc F (10 ^ cut) (10 ^ up)
          ∙ ap (λ y. F * y) (ap (λ k. 10 ^ k * 10 ^ up) same ∙ sym (ten_split down up (omega arith)))
    ]

pub whole_zeros : (ds : List ℕ) (up down cut kept n : ℕ) → AreDigits ds → up < down → kept + cut ≡ length ds → cut ≡ min (down - up) (length ds) → digits_value ds * 10 ^ up ≡ n * 10 ^ down → All (λ d. d ≡ 48) (drop kept ds)
whole_zeros ds up down cut kept n digits lt e c is =
    let k = down - up in
    let one : digits_value ds * 10 ^ up ≡ n * 10 ^ k * 10 ^ up = is ∙ ap (λ y. n * y) (ten_split down up (omega arith)) ∙ sym (mul_assoc n (10 ^ k) (10 ^ up)) in
    let value : digits_value ds ≡ n * 10 ^ k = eq_of_mul-eq-mul_right (10 ^ up) (ten_pos up) (digits_value ds) (n * 10 ^ k) one in
    let many : n * 10 ^ k ≡ n * 10 ^ (k - cut) * 10 ^ cut = ap (λ y. n * y) (ten_split k cut (omega arith)) ∙ sym (mul_assoc n (10 ^ (k - cut)) (10 ^ cut)) in
    let rest = drop kept ds in
    let len : length rest ≡ cut = length-drop kept ds ∙ omega arith in
    let below : digits_value rest < 10 ^ cut = rw len at (read_lt rest (AreDigits-drop kept ds digits)) in
    read_zeros rest (AreDigits-drop kept ds digits)
    (rest_zero (n * 10 ^ (k - cut)) (digits_value (take kept ds)) (10 ^ cut) (digits_value rest) (sym many ∙ sym value ∙ front_and_rest ds cut kept e) below)
