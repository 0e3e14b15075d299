-- A number's text stands for what its relations say.
use Rattle.std.proofs.Common.{◌≡◌, ℕ, ◌+◌, ◌*◌, ◌/◌, ◌%◌, ◌<◌, cond, eqb, inl, inr, true, Option, Some, None, List, length, refl, sym, ap, ◌∙◌, arith, subst}
use Rattle.std.specs.Prelude.{ℤ}
use Rattle.std.proofs.Math.Nat.{mul-mod_left, mul-div_cancel, mul_assoc, mul_comm, mul-add, add-mul}
use Rattle.std.proofs.lemmas.Nat.{div-add-mod', mod_below}
use Rattle.std.proofs.lemmas.Bool.{cases_Bool}
use Rattle.std.proofs.lemmas.Bool.Decides.{nat_tests}
use Rattle.prof_time.specs.Numeral.{Numeral, IsNumber}
use Rattle.prof_time.specs.Scaled.{digits_value, over, under, IsNearest, IsScaled, IsExact, signed}
use Rattle.prof_time.proofs.Readings.{reading_is}
use Rattle.prof_time.proofs.Meanings.{same_scaled}
use Rattle.prof_time.proofs.Values.{ten_pos}
use Rattle.prof_layout.specs.Numbers.{nearest_of, scaled_of, whole_value, whole_of}

under_pos : (m : Numeral) → 0 < under m
unfolding under
under_pos m = ten_pos (length m.fraction + cond m.down (digits_value m.exponent) 0)

-- a quotient's nearest whole number
nearest_is : (a b : ℕ) → 0 < b → IsNearest a b ((2 * a + b) / (2 * b))
nearest_is a b h =
    let n = (2 * a + b) / (2 * b) in
    let r = (2 * a + b) % (2 * b) in
    let parts : n * (2 * b) + r ≡ 2 * a + b = div-add-mod' (2 * a + b) (2 * b) in
    let below : r < 2 * b = mod_below (2 * a + b) (2 * b) (omega arith) in
    let low : 2 * n * b ≡ n * (2 * b) = ap (λ x. x * b) (mul_comm 2 n) ∙ mul_assoc n 2 b in
    let high : 2 * (n + 1) * b ≡ 2 * n * b + 2 * b = ap (λ x. x * b) (mul-add 2 n 1) ∙ add-mul (2 * n) (2 * 1) b in
    record { low = omega arith; high = omega arith }

nearest_of_is : (text : List ℕ) (m : Numeral) (d : ℕ) → IsNumber text m → IsScaled text d (nearest_of m d)
nearest_of_is text m d h = record { numeral = m; reads = h; size = (2 * over m d + under m) / (2 * under m); nearest = nearest_is (over m d) (under m) (under_pos m); is = refl }

pub scaled_is : (text : List ℕ) (m : Numeral) (d : ℕ) → IsNumber text m → IsScaled text d (scaled_of text d)
unfolding scaled_of
scaled_is text m d h = subst (λ n. IsScaled text d (nearest_of n d)) (sym (reading_is text m h)) (nearest_of_is text m d h)

pub scaled_one : (text : List ℕ) (d : ℕ) (z : ℤ) → IsScaled text d z → z ≡ scaled_of text d
scaled_one text d z h = same_scaled text d z (scaled_of text d) h (scaled_is text h.numeral d h.reads)

-- a multiple leaves nothing
multiple : (a b n : ℕ) → 0 < b → a ≡ n * b → (a % b ≡ 0) × (a / b ≡ n)
multiple a b n h e = (ap (λ x. x % b) e ∙ mul-mod_left n b, ap (λ x. x / b) e ∙ mul-div_cancel n h)

whole_value_is : (m : Numeral) (n : ℕ) → over m 0 ≡ n * under m → whole_value m ≡ Some (signed m.negative n)
whole_value_is m n e =
    let parts = multiple (over m 0) (under m) n (under_pos m) e in
    let test : eqb (over m 0 % under m) 0 ≡ true = ap (λ x. eqb x 0) parts.0 in
    rw test (ap (λ x. let o : Option ℤ = Some (signed m.negative x) in o) parts.1)

pub whole_is : (text : List ℕ) (z : ℤ) → IsExact text z → whole_of text ≡ Some z
unfolding whole_of
whole_is text z h =
    ap whole_value (reading_is text h.numeral h.reads) ∙ whole_value_is h.numeral h.size h.exact ∙ ap (λ x. let o : Option ℤ = Some x in o) (sym h.is)

-- where nothing is left the quotient is the value
whole_from : (text : List ℕ) (m : Numeral) (z : ℤ) → IsNumber text m → whole_value m ≡ Some z → IsExact text z
whole_from text m z h e = elim (cases_Bool (eqb (over m 0 % under m) 0)) [
  | inl t ↦
      let none : over m 0 % under m ≡ 0 = grind (arith, nat_tests) in
      let parts : over m 0 / under m * under m + over m 0 % under m ≡ over m 0 = div-add-mod' (over m 0) (under m) in
      let is : Some (signed m.negative (over m 0 / under m)) ≡ Some z = rw t at e in
      record { numeral = m; reads = h; size = over m 0 / under m; exact = omega arith; is = let k = is in cc }
  | inr f ↦ (let k : None ≡ Some z = rw f at e in cc)
]

pub whole_exact : (text : List ℕ) (m : Numeral) (z : ℤ) → IsNumber text m → whole_of text ≡ Some z → IsExact text z
unfolding whole_of
whole_exact text m z h e = whole_from text m z h (ap whole_value (sym (reading_is text m h)) ∙ e)

-- no whole number is the value of a text without one
pub whole_none : (text : List ℕ) (z : ℤ) → whole_of text ≡ None → IsExact text z → ⊥
whole_none text z e h = let k = whole_is text z h in cc
