-- A text's number as a whole one and as a time.
use Rattle.std.proofs.Common.{◌≡◌, ℕ, zero, suc, ◌++◌, ◌+◌, ◌*◌, ◌/◌, ◌%◌, ◌^◌, ◌-◌, ◌<◌, ◌≤◌, cond, eqb, inl, inr, Bool, true, false, Option, Some, None, Ok, Err, List, length, refl, sym, ap, ◌∙◌, subst, arith, to_z, of_z, w64}
use Rattle.std.specs.Prelude.{Result, ℤ, pos, negsuc, neg_ℤ, ◌*ℤ◌, unsigned_abs, nat_le}
use Rattle.std.proofs.Math.IntN.{pos-*ℤ-pos, negsuc-*ℤ-pos}
use Rattle.std.proofs.Math.Nat.{mul_assoc, mul_comm}
use Rattle.std.proofs.lemmas.Int.{ints}
use Rattle.std.proofs.lemmas.Nat.{div-add-mod', div-mul-add, pow-add}
use Rattle.std.proofs.lemmas.Bool.{cases_Bool}
use Rattle.std.proofs.lemmas.Bool.Decides.{nat_tests}
use Rattle.prof_time.specs.Numeral.{Numeral}
use Rattle.prof_time.specs.Scaled.{digits_value, over, under, signed}
use Rattle.prof_time.specs.TakenApart.{numeral_of}
use Rattle.prof_time.proofs.Values.{ten_pos}
use Rattle.prof_raw.specs.declared.rule.Rule.{Rule}
use Rattle.prof_raw.specs.declared.rule.Rule.TheVariants as rule
use Rattle.prof_raw.specs.declared.limits.TheConstants.{GREATEST}
use Rattle.prof_layout.specs.Columns.{clamped, scaled_cell}
use Rattle.prof_layout.specs.Numbers.{nearest_of, scaled_of, whole_value, whole_of}

under_pos : (m : Numeral) → 0 < under m
unfolding under
under_pos m = ten_pos (length m.fraction + cond m.down (digits_value m.exponent) 0)

-- six decimals more
over-six : (m : Numeral) → over m 6 ≡ over m 0 * 10 ^ 6
unfolding over
over-six m =
    let e = cond m.down 0 (digits_value m.exponent) in
    let n = digits_value (m.whole ++ m.fraction) in
    let none : 0 + e ≡ e = omega arith in
    ap (λ (k : ℕ). n * k) (pow-add 10 6 e ∙ mul_comm (10 ^ 6) (10 ^ e))
    ∙ sym (mul_assoc n (10 ^ e) (10 ^ 6))
    ∙ ap (λ (k : ℕ). n * 10 ^ k * 10 ^ 6) (sym none)

-- the nearest to a multiple
nearest-multiple : (u k : ℕ) → 0 < u → (2 * (k * u) + u) / (2 * u) ≡ k
nearest-multiple u k h =
    let e : 2 * (k * u) + u ≡ k * (2 * u) + u = ap (λ (n : ℕ). n + u) (sym (mul_assoc 2 k u) ∙ ap (λ (n : ℕ). n * u) (mul_comm 2 k) ∙ mul_assoc k 2 u) in
    ap (λ (n : ℕ). n / (2 * u)) e ∙ div-mul-add k (2 * u) u (omega arith)

million : (negative : Bool) (n : ℕ) → signed negative (n * 10 ^ 6) ≡ signed negative n *ℤ pos (10 ^ 6)
million false n = sym (pos-*ℤ-pos n (10 ^ 6))
million true zero = refl
million true (suc n) = sym (negsuc-*ℤ-pos n (10 ^ 6))

scaled-multiple : (m : Numeral) (q : ℕ) → over m 0 ≡ q * under m → nearest_of m 6 ≡ signed m.negative (q * 10 ^ 6)
scaled-multiple m q e =
    let u = under m in
    let top : over m 6 ≡ q * 10 ^ 6 * u = over-six m ∙ ap (λ (n : ℕ). n * 10 ^ 6) e ∙ mul_assoc q u (10 ^ 6) ∙ ap (λ (n : ℕ). q * n) (mul_comm u (10 ^ 6)) ∙ sym (mul_assoc q (10 ^ 6) u) in
    ap (λ (n : ℕ). signed m.negative ((2 * n + u) / (2 * u))) top ∙ ap (signed m.negative) (nearest-multiple u (q * 10 ^ 6) (under_pos m))

whole-scaled : (m : Numeral) (n : ℤ) → whole_value m ≡ Some n → nearest_of m 6 ≡ n *ℤ pos (10 ^ 6)
whole-scaled m n e = elim (cases_Bool (eqb (over m 0 % under m) 0)) [
  | inl t ↦
      let none : over m 0 % under m ≡ 0 = grind (arith, nat_tests) in
      let parts : over m 0 / under m * under m + over m 0 % under m ≡ over m 0 = div-add-mod' (over m 0) (under m) in
      let is : Some (signed m.negative (over m 0 / under m)) ≡ Some n = rw t at e in
      let same : signed m.negative (over m 0 / under m) ≡ n = cc in
      scaled-multiple m (over m 0 / under m) (omega arith) ∙ million m.negative (over m 0 / under m) ∙ ap (λ (z : ℤ). z *ℤ pos (10 ^ 6)) same
  | inr f ↦ (let k : None ≡ Some n = rw f at e in cc)
]

-- a whole number of milliseconds is a million times that many nanoseconds
pub whole_scaled : (text : List ℕ) (n : ℤ) → whole_of text ≡ Some n → scaled_of text 6 ≡ n *ℤ pos (10 ^ 6)
unfolding whole_of scaled_of
whole_scaled text n e = whole-scaled (numeral_of text) n e

-- ---- the time of a whole number, of which the nearest of 64 bits is kept

abs-neg : (n : ℕ) → unsigned_abs (neg_ℤ (pos n)) ≡ n
abs-neg zero = refl
abs-neg (suc n) = refl

pub abs-million : (z : ℤ) → unsigned_abs (z *ℤ pos (10 ^ 6)) ≡ unsigned_abs z * 10 ^ 6
abs-million (pos n) = ap unsigned_abs (pos-*ℤ-pos n (10 ^ 6))
abs-million (negsuc n) = ap unsigned_abs (negsuc-*ℤ-pos n (10 ^ 6)) ∙ abs-neg (suc n * 10 ^ 6)

clamped-near : (z : ℤ) → unsigned_abs (clamped z) < 2 ^ 63 - 1 → clamped z ≡ z
clamped-near (pos n) h = ap pos (omega arith)
clamped-near (negsuc n) h = ap negsuc (omega arith)

clamped-least : (z : ℤ) → unsigned_abs (clamped z) ≤ unsigned_abs z
clamped-least (pos n) = omega arith
clamped-least (negsuc n) = omega arith

-- in the range it is the time of the number itself
pub time_within : (text : List ℕ) (n whole : ℤ) → whole_of text ≡ Some n → whole ≡ clamped n → unsigned_abs (whole *ℤ pos (10 ^ 6)) ≤ GREATEST → Ok (Some (whole *ℤ pos (10 ^ 6))) ≡ scaled_cell (scaled_of text 6)
time_within text n whole e is le =
    let size : unsigned_abs (whole *ℤ pos (10 ^ 6)) ≡ unsigned_abs whole * 10 ^ 6 = abs-million whole in
    let near : unsigned_abs (clamped n) < 2 ^ 63 - 1 = subst (λ (z : ℤ). unsigned_abs z < 2 ^ 63 - 1) is (omega arith) in
    let same : whole ≡ n = is ∙ clamped-near n near in
    let time : scaled_of text 6 ≡ whole *ℤ pos (10 ^ 6) = whole_scaled text n e ∙ ap (λ (z : ℤ). z *ℤ pos (10 ^ 6)) (sym same) in
    let test : nat_le (unsigned_abs (whole *ℤ pos (10 ^ 6))) GREATEST ≡ true = grind (arith, nat_tests) in
    sym (ap scaled_cell time ∙ rw test refl)

-- and out of it that is out of it too
pub time_far : (text : List ℕ) (n whole : ℤ) → whole_of text ≡ Some n → whole ≡ clamped n → GREATEST < unsigned_abs (whole *ℤ pos (10 ^ 6)) → Err rule.NumberRange ≡ scaled_cell (scaled_of text 6)
time_far text n whole e is lt =
    let size : unsigned_abs (whole *ℤ pos (10 ^ 6)) ≡ unsigned_abs whole * 10 ^ 6 = abs-million whole in
    let all : unsigned_abs (n *ℤ pos (10 ^ 6)) ≡ unsigned_abs n * 10 ^ 6 = abs-million n in
    let least : unsigned_abs whole ≤ unsigned_abs n = subst (λ (z : ℤ). unsigned_abs z ≤ unsigned_abs n) (sym is) (clamped-least n) in
    let time : scaled_of text 6 ≡ n *ℤ pos (10 ^ 6) = whole_scaled text n e in
    let over : GREATEST < unsigned_abs (n *ℤ pos (10 ^ 6)) = omega arith in
    let test : nat_le (unsigned_abs (n *ℤ pos (10 ^ 6))) GREATEST ≡ false = grind (arith, nat_tests) in
    sym (ap scaled_cell time ∙ rw test refl)

same : (z : ℤ) → unsigned_abs z ≤ GREATEST → to_z w64 (of_z w64 z) ≡ z
same z h = omega (arith, ints)

-- by the size of the whole number
pub time_near : (text : List ℕ) (n whole : ℤ) → whole_of text ≡ Some n → whole ≡ clamped n → unsigned_abs whole ≤ 9 * 10 ^ 12 → Ok (Some (to_z w64 (of_z w64 (whole *ℤ pos (10 ^ 6))))) ≡ scaled_cell (scaled_of text 6)
time_near text n whole e is le =
    let size : unsigned_abs (whole *ℤ pos (10 ^ 6)) ≡ unsigned_abs whole * 10 ^ 6 = abs-million whole in
    let within : unsigned_abs (whole *ℤ pos (10 ^ 6)) ≤ GREATEST = omega arith in
    ap (λ (z : ℤ). let o : Result (Option ℤ) Rule = Ok (Some z) in o) (same (whole *ℤ pos (10 ^ 6)) within) ∙ time_within text n whole e is within

pub time_past : (text : List ℕ) (n whole : ℤ) → whole_of text ≡ Some n → whole ≡ clamped n → 9 * 10 ^ 12 < unsigned_abs whole → Err rule.NumberRange ≡ scaled_cell (scaled_of text 6)
time_past text n whole e is lt =
    let size : unsigned_abs (whole *ℤ pos (10 ^ 6)) ≡ unsigned_abs whole * 10 ^ 6 = abs-million whole in
    time_far text n whole e is (omega arith)
