-- An exponent of 2^100 does for each greater one.
use Rattle.std.proofs.Common.{◌≡◌, ℕ, suc, zero, ◌+◌, ◌-◌, ◌*◌, ◌^◌, ◌<◌, ◌≤◌, min, Bool, true, false, List, ◌++◌, length, refl, sym, ap, ◌∙◌, arith, inl, inr, lit≤}
use Rattle.std.specs.Prelude.{if◌then◌else◌}
use Rattle.std.proofs.Math.Nat.{mul-le-mul_right, eq_of_mul-eq-mul_right, zero-mul, pow-le-pow_right}
use Rattle.std.proofs.lemmas.Bool.{cases_lt}
use Rattle.prof_time.specs.Numeral.{Numeral, AreDigits}
use Rattle.prof_time.specs.Scaled.{digits_value, over, under, IsNearest}
use Rattle.prof_time.proofs.Values.{read_lt, ten_pos}
use Rattle.prof_time.proofs.Nearest.{nearest_up_power, nearest_down_power, nearest_none, up_whole}

pub nearest_same : (a b n k : ℕ) → IsNearest a b n → IsNearest a b k → n ≡ k
nearest_same a b n k h g =
    elim (cases_lt n k) [
      | inl lt ↦ absurd (omega (arith, h.high, g.low, mul-le-mul_right {m = 2 * (n + 1)} {n = 2 * k} b (omega arith)))
      | inr ge ↦ elim (cases_lt k n) [
        | inl lt ↦ absurd (omega (arith, g.high, h.low, mul-le-mul_right {m = 2 * (k + 1)} {n = 2 * n} b (omega arith)))
        | inr le ↦ omega arith
      ]
    ]

-- two powers of ten past the range take every number but 0 past it
past_range : (D p q : ℕ) → 39 ≤ p → 39 ≤ q → min (D * 10 ^ p) (2 ^ 128 - 1) ≡ min (D * 10 ^ q) (2 ^ 128 - 1)
past_range zero p q h k = ap (λ y. min y (2 ^ 128 - 1)) (zero-mul (10 ^ p) ∙ sym (zero-mul (10 ^ q)))
past_range (suc D) p q h k =
    let a : 10 ^ 39 ≤ 10 ^ p = pow-le-pow_right {n = 10} (omega arith) {i = 39} {j = p} h in
    let b : 10 ^ 39 ≤ 10 ^ q = pow-le-pow_right {n = 10} (omega arith) {i = 39} {j = q} k in
    let c : 10 ^ 39 ≤ suc D * 10 ^ p = omega (arith, mul-le-mul_right {m = 1} {n = suc D} (10 ^ p) (omega arith)) in
    let d : 10 ^ 39 ≤ suc D * 10 ^ q = omega (arith, mul-le-mul_right {m = 1} {n = suc D} (10 ^ q) (omega arith)) in
    let e : 2 ^ 128 - 1 ≤ 10 ^ 39 = lit≤ tt in
    omega arith

abbrev pub far_up : Numeral → ℕ
far_up m = if m.down then 0 else min (digits_value m.exponent) (2 ^ 100)

abbrev pub far_down : Numeral → ℕ
far_down m = length m.fraction + (if m.down then min (digits_value m.exponent) (2 ^ 100) else 0)

-- the divisor is past every digit
nearest_far : (ds : List ℕ) (k down : ℕ) → AreDigits ds → length ds + k < down → IsNearest (digits_value ds * 10 ^ k) (10 ^ down) 0
nearest_far ds k down h lt = nearest_down_power (digits_value ds) k down 0 (omega arith) (nearest_none ds (down - k) h (omega arith))

abbrev SameNearest : List ℕ → ℕ → ℕ → ℕ → ℕ → ℕ → Type 0
SameNearest ds up down up' down' n =
    IsNearest (digits_value ds * 10 ^ up) (10 ^ down) n → (k : ℕ) × IsNearest (digits_value ds * 10 ^ up') (10 ^ down') k × (min n (2 ^ 128 - 1) ≡ min k (2 ^ 128 - 1))

same_up : (ds : List ℕ) (k f E n : ℕ) → AreDigits ds → f ≤ length ds → length ds < 2 ^ 64 → SameNearest ds (k + min E (2 ^ 100)) (f + 0) (k + E) (f + 0) n
same_up ds k f E n h le fits near =
    elim (cases_lt (2 ^ 100) E) [
      | inl lt ↦
          let D = digits_value ds in
          let big : 2 ^ 64 + 39 ≤ 2 ^ 100 = lit≤ tt in
          let e : n ≡ D * 10 ^ (k + min E (2 ^ 100) - (f + 0)) = nearest_same _ _ _ _ near (nearest_up_power D (k + min E (2 ^ 100)) (f + 0) (omega arith)) in (
            D * 10 ^ (k + E - (f + 0)),
            nearest_up_power D (k + E) (f + 0) (omega arith),
            ap (λ x. min x (2 ^ 128 - 1)) e ∙ past_range D (k + min E (2 ^ 100) - (f + 0)) (k + E - (f + 0)) (omega arith) (omega arith),
          )
      | inr le ↦
          let e : min E (2 ^ 100) ≡ E = omega arith in
          (n, (rw e at near), refl)
    ]

same_down : (ds : List ℕ) (k f E n : ℕ) → AreDigits ds → k ≤ 6 → f ≤ length ds → length ds < 2 ^ 64 → SameNearest ds (k + 0) (f + min E (2 ^ 100)) (k + 0) (f + E) n
same_down ds k f E n h six le fits near =
    elim (cases_lt (2 ^ 100) E) [
      | inl lt ↦
          let big : 2 ^ 64 + 39 ≤ 2 ^ 100 = lit≤ tt in
          let e : n ≡ 0 = nearest_same _ _ _ _ near (nearest_far ds (k + 0) (f + min E (2 ^ 100)) h (omega arith)) in
          (0, nearest_far ds (k + 0) (f + E) h (omega arith), ap (λ x. min x (2 ^ 128 - 1)) e)
      | inr le ↦
          let e : min E (2 ^ 100) ≡ E = omega arith in
          (n, (rw e at near), refl)
    ]

-- the nearest number with the exponent cut to 2^100 is the nearest number, as far as it is told
pub nearest_cut : (m : Numeral) (k n : ℕ) → AreDigits (m.whole ++ m.fraction) → k ≤ 6 → length (m.whole ++ m.fraction) < 2 ^ 64 → length m.fraction ≤ length (m.whole ++ m.fraction) →
    IsNearest (digits_value (m.whole ++ m.fraction) * 10 ^ (k + far_up m)) (10 ^ far_down m) n → (size : ℕ) × IsNearest (over m k) (under m) size × (min n (2 ^ 128 - 1) ≡ min size (2 ^ 128 - 1))
unfolding over under
nearest_cut m k n h six fits le near =
    let ds = m.whole ++ m.fraction in
    let E = digits_value m.exponent in
    let f = length m.fraction in
    let P : Bool → Type 0 = λ b.
    IsNearest (digits_value ds * 10 ^ (k + (if b then 0 else min E (2 ^ 100)))) (10 ^ (f + (if b then min E (2 ^ 100) else 0))) n →
    (size : ℕ) × IsNearest (digits_value ds * 10 ^ (k + (if b then 0 else E))) (10 ^ (f + (if b then E else 0))) size × (min n (2 ^ 128 - 1) ≡ min size (2 ^ 128 - 1)) in
    let both : (b : Bool) → P b = λ b. elim b as P [
      | true ↦ same_down ds k f E n h six le fits
      | false ↦ same_up ds k f E n h le fits
    ] in
    both m.down near

-- fewer digits than the divisor has are a multiple of it only as 0
exact_far : (ds : List ℕ) (n down : ℕ) → AreDigits ds → length ds < down → digits_value ds * 10 ^ 0 ≡ n * 10 ^ down → n ≡ 0
exact_far ds zero down h lt e = refl
exact_far ds (suc n) down h lt e =
    absurd (omega (arith, read_lt ds h, pow-le-pow_right {n = 10} (omega arith) {i = length ds} {j = down} (omega arith), mul-le-mul_right {m = 1} {n = suc n} (10 ^ down) (omega arith)))

zero_exact : (ds : List ℕ) (n down other : ℕ) → n ≡ 0 → digits_value ds * 10 ^ 0 ≡ n * 10 ^ down → digits_value ds * 10 ^ 0 ≡ 0 * 10 ^ other
zero_exact ds n down other z e = e ∙ ap (λ k. k * 10 ^ down) z ∙ zero-mul (10 ^ down) ∙ sym (zero-mul (10 ^ other))

abbrev SameExact : List ℕ → ℕ → ℕ → ℕ → ℕ → ℕ → Type 0
SameExact ds up down up' down' n =
    digits_value ds * 10 ^ up ≡ n * 10 ^ down → (k : ℕ) × (digits_value ds * 10 ^ up' ≡ k * 10 ^ down') × (min n (2 ^ 128 - 1) ≡ min k (2 ^ 128 - 1))

exact_up : (ds : List ℕ) (f E n : ℕ) → f ≤ length ds → length ds < 2 ^ 64 → SameExact ds (min E (2 ^ 100)) (f + 0) (0 + E) (f + 0) n
exact_up ds f E n le fits is =
    elim (cases_lt (2 ^ 100) E) [
      | inl lt ↦
          let D = digits_value ds in
          let big : 2 ^ 64 + 39 ≤ 2 ^ 100 = lit≤ tt in
          let whole : D * 10 ^ min E (2 ^ 100) ≡ D * 10 ^ (min E (2 ^ 100) - (f + 0)) * 10 ^ (f + 0) = up_whole D (min E (2 ^ 100)) (f + 0) (omega arith) in
          let e : n ≡ D * 10 ^ (min E (2 ^ 100) - (f + 0)) = eq_of_mul-eq-mul_right (10 ^ (f + 0)) (ten_pos (f + 0)) n (D * 10 ^ (min E (2 ^ 100) - (f + 0))) (sym is ∙ whole) in (
            D * 10 ^ (0 + E - (f + 0)),
            up_whole D (0 + E) (f + 0) (omega arith),
            ap (λ x. min x (2 ^ 128 - 1)) e ∙ past_range D (min E (2 ^ 100) - (f + 0)) (0 + E - (f + 0)) (omega arith) (omega arith),
          )
      | inr le ↦
          let e : min E (2 ^ 100) ≡ 0 + E = omega arith in
          (n, (rw e at is), refl)
    ]

exact_down : (ds : List ℕ) (f E n : ℕ) → AreDigits ds → f ≤ length ds → length ds < 2 ^ 64 → SameExact ds 0 (f + min E (2 ^ 100)) (0 + 0) (f + E) n
exact_down ds f E n h le fits is =
    elim (cases_lt (2 ^ 100) E) [
      | inl lt ↦
          let big : 2 ^ 64 + 39 ≤ 2 ^ 100 = lit≤ tt in
          let z : n ≡ 0 = exact_far ds n (f + min E (2 ^ 100)) h (omega arith) is in
          (0, zero_exact ds n (f + min E (2 ^ 100)) (f + E) z is, ap (λ x. min x (2 ^ 128 - 1)) z)
      | inr le ↦
          let e : min E (2 ^ 100) ≡ E = omega arith in
          (n, (rw e at is), refl)
    ]

-- a whole number with the exponent cut to 2^100 is the whole number, as far as it is told
pub exact_cut : (m : Numeral) (n : ℕ) → AreDigits (m.whole ++ m.fraction) → length (m.whole ++ m.fraction) < 2 ^ 64 → length m.fraction ≤ length (m.whole ++ m.fraction) →
    digits_value (m.whole ++ m.fraction) * 10 ^ far_up m ≡ n * 10 ^ far_down m → (size : ℕ) × (over m 0 ≡ size * under m) × (min n (2 ^ 128 - 1) ≡ min size (2 ^ 128 - 1))
unfolding over under
exact_cut m n h fits le is =
    let ds = m.whole ++ m.fraction in
    let E = digits_value m.exponent in
    let f = length m.fraction in
    let P : Bool → Type 0 = λ b.
    digits_value ds * 10 ^ (if b then 0 else min E (2 ^ 100)) ≡ n * 10 ^ (f + (if b then min E (2 ^ 100) else 0)) →
    (size : ℕ) × (digits_value ds * 10 ^ (0 + (if b then 0 else E)) ≡ size * 10 ^ (f + (if b then E else 0))) × (min n (2 ^ 128 - 1) ≡ min size (2 ^ 128 - 1)) in
    let both : (b : Bool) → P b = λ b. elim b as P [
      | true ↦ exact_down ds f E n h le fits
      | false ↦ exact_up ds f E n le fits
    ] in
    both m.down is

-- and a whole number is one with the exponent cut
pub exact_uncut : (m : Numeral) (size : ℕ) → AreDigits (m.whole ++ m.fraction) → length (m.whole ++ m.fraction) < 2 ^ 64 → length m.fraction ≤ length (m.whole ++ m.fraction) →
    over m 0 ≡ size * under m → (n : ℕ) × (digits_value (m.whole ++ m.fraction) * 10 ^ far_up m ≡ n * 10 ^ far_down m)
unfolding over under
exact_uncut m size h fits le is =
    let ds = m.whole ++ m.fraction in
    let D = digits_value ds in
    let E = digits_value m.exponent in
    let f = length m.fraction in
    let big : 2 ^ 64 + 39 ≤ 2 ^ 100 = lit≤ tt in
    let P : Bool → Type 0 = λ b.
    digits_value ds * 10 ^ (0 + (if b then 0 else E)) ≡ size * 10 ^ (f + (if b then E else 0)) →
    (n : ℕ) × (digits_value ds * 10 ^ (if b then 0 else min E (2 ^ 100)) ≡ n * 10 ^ (f + (if b then min E (2 ^ 100) else 0))) in
    let down : P true = λ e. elim (cases_lt (2 ^ 100) E) [
      | inl lt ↦ (0, zero_exact ds size (f + E) (f + min E (2 ^ 100)) (exact_far ds size (f + E) h (omega arith) e) e)
      | inr small ↦ let c : min E (2 ^ 100) ≡ E = omega arith in (size, rw c e)
    ] in
    let up : P false = λ e. elim (cases_lt (2 ^ 100) E) [
      | inl lt ↦ (D * 10 ^ (min E (2 ^ 100) - (f + 0)), up_whole D (min E (2 ^ 100)) (f + 0) (omega arith))
      | inr small ↦ let c : min E (2 ^ 100) ≡ 0 + E = omega arith in (size, rw c e)
    ] in
    let both : (b : Bool) → P b = λ b. elim b as P [ true ↦ down | false ↦ up ] in
    both m.down is

pub exact_same : (m : Numeral) (n k : ℕ) → over m 0 ≡ n * under m → over m 0 ≡ k * under m → n ≡ k
unfolding under
exact_same m n k e f = eq_of_mul-eq-mul_right (under m) (ten_pos (length m.fraction + (if m.down then digits_value m.exponent else 0))) n k (sym e ∙ f)
