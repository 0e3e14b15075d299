-- The spelling of a number, and what it reads as.
use Rattle.std.proofs.Common.{◌≡◌, ◌≢◌, ℕ, suc, zero, ◌+◌, ◌-◌, ◌*◌, ◌/◌, ◌%◌, ◌^◌, ◌<◌, ◌≤◌, Bool, true, false, cond, eqb, List, [], ◌∷◌, ◌++◌, length, refl, sym, ap, ◌∙◌, arith, inl, inr}
use Rattle.std.specs.Prelude.{decimal, ℤ, pos, negsuc, unsigned_abs}
use Rattle.std.specs.Char.{IsAsciiDigit}
use Rattle.std.proofs.Math.Nat.{mul_assoc, mul_comm, add-mul, zero-mul, mul-le-mul_left}
use Rattle.std.proofs.lemmas.Nat.{div-add-mod', div_below, mod_below}
use lib.Signed.{lt_z}
use Rattle.std.proofs.lemmas.Bool.{cases_lt}
use Rattle.std.proofs.lemmas.Bool.Decides.{nat_tests}
use Rattle.std.proofs.lemmas.List.{append-nil, append_assoc, length_push}
use Rattle.std.proofs.lemmas.List.Sums.{fold-append, fold_push}
use Rattle.std.proofs.lemmas.Fmt.{decimal_by_steps, decimal_digit}
use Rattle.prof_time.specs.Numeral as n
use Rattle.prof_time.specs.Numeral.{Numeral, AreDigits, digits, IsSign, no_sign, IsInt, zero_int, int, IsFraction, no_fraction, fraction, no_exponent, IsNumber, number}
use Rattle.prof_time.specs.Scaled.{digits_value, over, under, IsNearest, IsScaled, signed}
use Rattle.prof_time.specs.Spelling.{is_below_zero, IsSpelling, sign_text, fraction_digits, with_point, scaled_text}
use Rattle.prof_time.proofs.Values.{read_behind, ten_pos, ten_suc, AreDigits-append}
use Rattle.prof_time.proofs.Nearest.{nearest_whole}

-- ---- the fraction

not_zero : (r : ℕ) → 0 < r → eqb r 0 ≡ false
not_zero r h = grind (arith, nat_tests)

pub fraction_step : (places r : ℕ) → 0 < places → 0 < r → fraction_digits places r ≡ (48 + r / 10 ^ (places - 1)) ∷ fraction_digits (places - 1) (r % 10 ^ (places - 1))
fraction_step zero r h k = absurd (omega arith)
fraction_step (suc p) r h k =
    let e : suc p - 1 ≡ p = omega arith in
    rw (not_zero r k, e) refl

first_below : (p r : ℕ) → r < 10 ^ suc p → r / 10 ^ p < 10
first_below p r h = div_below r (10 ^ p) 10 (ten_pos p) (omega (arith, ten_suc p))

rest_below : (p r : ℕ) → r % 10 ^ p < 10 ^ p
rest_below p r = mod_below r (10 ^ p) (ten_pos p)

pub fraction_are_digits : (d r : ℕ) → r < 10 ^ d → AreDigits (fraction_digits d r)
fraction_are_digits zero r h = tt
fraction_are_digits (suc d) r h =
    elim (eqb r 0) as (λ b. AreDigits (cond b [] ((48 + r / 10 ^ d) ∷ fraction_digits d (r % 10 ^ d)))) [
      | true ↦ tt
      | false ↦ ((omega arith, omega (arith, first_below d r h)), fraction_are_digits d (r % 10 ^ d) (rest_below d r))
    ]

-- a rest without digits is 0
no_digits : (d r : ℕ) → r < 10 ^ d → fraction_digits d r ≡ [] → r ≡ 0
no_digits zero r h e = omega arith
no_digits (suc d) r h e =
    elim (cases_lt 0 r) [
      | inl some ↦ let step : (48 + r / 10 ^ d) ∷ fraction_digits d (r % 10 ^ d) ≡ [] = rw (not_zero r some) at e in absurd (cc)
      | inr z ↦ omega arith
    ]

split_whole : (p r : ℕ) → r / 10 ^ p ≡ 0 → r % 10 ^ p ≡ 0 → r ≡ 0
split_whole p r q m = sym (div-add-mod' r (10 ^ p)) ∙ ap (λ x. x * 10 ^ p + r % 10 ^ p) q ∙ ap (λ x. 0 * 10 ^ p + x) m ∙ omega (arith, zero-mul (10 ^ p))

first_is : {x y : ℕ} {xs ys : List ℕ} → x ∷ xs ≡ y ∷ ys → x ≡ y
first_is e = cc

rest_is : {x y : ℕ} {xs ys : List ℕ} → x ∷ xs ≡ y ∷ ys → xs ≡ ys
rest_is e = cc

-- no 0 is the last digit
pub fraction_trimmed : (d r : ℕ) → r < 10 ^ d → (ds : List ℕ) → fraction_digits d r ≢ ds ++ 48 ∷ []
fraction_trimmed zero r h [] e = cc
fraction_trimmed zero r h (x ∷ ds) e = cc
fraction_trimmed (suc d) r h ds e =
    elim (cases_lt 0 r) [
      | inl some ↦
          let step : (48 + r / 10 ^ d) ∷ fraction_digits d (r % 10 ^ d) ≡ ds ++ 48 ∷ [] = rw (not_zero r some) at e in
          elim ds as (λ ds. (48 + r / 10 ^ d) ∷ fraction_digits d (r % 10 ^ d) ≡ ds ++ 48 ∷ [] → ⊥) [
            | [] ↦ λ f.
                let digit : 48 + r / 10 ^ d ≡ 48 = first_is f in
                let none : r % 10 ^ d ≡ 0 = no_digits d (r % 10 ^ d) (rest_below d r) (rest_is f) in
                let zero_ : r ≡ 0 = split_whole d r (omega arith) none in
                omega arith
            | x ∷ xs ↦ λ f. fraction_trimmed d (r % 10 ^ d) (rest_below d r) xs (rest_is f)
          ] step
      | inr z ↦
          let is : r ≡ 0 = omega arith in
          let none : [] ≡ ds ++ 48 ∷ [] = rw is at e in
          elim ds as (λ ds. [] ≡ ds ++ 48 ∷ [] → ⊥) [ [] ↦ λ f. cc | x ∷ xs ↦ λ f. cc ] none
    ]

-- the fraction's digits behind a number
pub fraction_value : (a d r : ℕ) → r < 10 ^ d → read_behind a (fraction_digits d r) * 10 ^ d ≡ (a * 10 ^ d + r) * 10 ^ length (fraction_digits d r)
fraction_value a zero r h = let z : r ≡ 0 = omega arith in rw z (omega arith)
fraction_value a (suc d) r h =
    elim (cases_lt 0 r) [
      | inl some ↦
          let P = 10 ^ d in
          let q = r / P in
          let s = r % P in
          let f = fraction_digits d s in
          let T = 10 ^ length f in
          let ih : read_behind (10 * a + q) f * P ≡ ((10 * a + q) * P + s) * T = fraction_value (10 * a + q) d s (rest_below d r) in
          let parts : q * P + s ≡ r = div-add-mod' r P in
          let up : (10 * a + q) * P ≡ 10 * (a * P) + q * P = add-mul (10 * a) q P ∙ ap (λ x. x + q * P) (mul_assoc 10 a P) in
          let ten : 10 ^ suc d ≡ 10 * P = ten_suc d in
          let long : 10 ^ suc (length f) ≡ 10 * T = ten_suc (length f) in
          let a_ten : a * 10 ^ suc d ≡ 10 * (a * P) = ap (λ x. a * x) (ten ∙ mul_comm 10 P) ∙ sym (mul_assoc a P 10) ∙ mul_comm (a * P) 10 in
          let value : (10 * a + q) * P + s ≡ a * 10 ^ suc d + r = omega arith in
          let digit : 10 * a + (48 + q - 48) ≡ 10 * a + q = omega arith in
          let left : read_behind (10 * a + q) f * 10 ^ suc d ≡ (a * 10 ^ suc d + r) * 10 ^ suc (length f) =
          ap (λ x. read_behind (10 * a + q) f * x) (ten ∙ mul_comm 10 P) ∙ sym (mul_assoc (read_behind (10 * a + q) f) P 10)
          ∙ ap (λ x. x * 10) (ih ∙ ap (λ x. x * T) value) ∙ mul_assoc (a * 10 ^ suc d + r) T 10
          ∙ ap (λ x. (a * 10 ^ suc d + r) * x) (mul_comm T 10 ∙ sym long) in
          rw (not_zero r some) (ap (λ x. read_behind x f * 10 ^ suc d) digit ∙ left)
      | inr le ↦
          let z : r ≡ 0 = omega arith in
          rw z (omega arith)
    ]

-- ---- the whole part

-- the digits write n, and the first one isn't 0 unless n is
record Writes (n : ℕ) (ds : List ℕ) : Type 0 where
  first : ℕ
  others : List ℕ
  is : ds ≡ first ∷ others
  digit : IsAsciiDigit first
  positive : 0 < n → first ≢ 48
  rest : AreDigits others
  value : digits_value ds ≡ n

one_digit : (n : ℕ) → n < 10 → Writes n ((48 + n) ∷ [])
one_digit n h = record { first = 48 + n; others = []; is = refl; digit = (omega arith, omega arith); positive = λ p e. omega arith; rest = tt; value = omega arith }

more_digits : (n : ℕ) (ds : List ℕ) → 10 ≤ n → Writes (n / 10) ds → Writes n (ds ++ (48 + n % 10) ∷ [])
more_digits n ds h w =
    let last = 48 + n % 10 in
    let e : digits_value (ds ++ last ∷ []) ≡ 10 * digits_value ds + (last - 48) = fold_push (λ (n d : ℕ). 10 * n + (d - 48)) 0 ds last in
    record {
      first = w.first;
      others = w.others ++ last ∷ [];
      is = ap (λ xs. xs ++ last ∷ []) w.is;
      digit = w.digit;
      positive = λ p. w.positive (omega arith);
      rest = AreDigits-append w.others (last ∷ []) w.rest ((omega arith, omega arith), tt);
      value = e ∙ omega (arith, w.value);
    }

writes : (n : ℕ) → n < 2 ^ 64 → Writes n (decimal n)
writes n h = decimal_by_steps Writes one_digit more_digits n h

pub decimal_value : (n : ℕ) → n < 2 ^ 64 → digits_value (decimal n) ≡ n
decimal_value n h = (writes n h).value

pub decimal_int : (n : ℕ) → n < 2 ^ 64 → IsInt (decimal n)
decimal_int n h =
    elim (cases_lt 0 n) [
      | inl some ↦ let w = writes n h in rw w.is (int w.digit (w.positive some) w.rest)
      | inr z ↦ let e : n ≡ 0 = omega arith in rw (e, decimal_digit 0 (omega arith)) zero_int
    ]

mul_pos_le : (q d : ℕ) → q ≤ q * 10 ^ d
mul_pos_le q d = omega (arith, mul-le-mul_left {m = 1} {n = 10 ^ d} q (ten_pos d))

-- ---- the whole text

sign_is : (b : Bool) → IsSign (sign_text b) b
sign_is true = n.IsSign.minus
sign_is false = no_sign

point_is : (ds : List ℕ) → AreDigits ds → IsFraction (with_point ds) ds
point_is [] h = no_fraction
point_is (d ∷ ds) h = fraction (digits h.0 h.1)

pub scaled_is_spelling : (d : ℕ) (z : ℤ) → unsigned_abs z < 2 ^ 64 → IsSpelling d z (scaled_text d z)
unfolding scaled_text over under
scaled_is_spelling d z h =
    let size = unsigned_abs z in
    let q = size / 10 ^ d in
    let r = size % 10 ^ d in
    let f = fraction_digits d r in
    let parts : q * 10 ^ d + r ≡ size = div-add-mod' size (10 ^ d) in
    let q_small : q < 2 ^ 64 = omega (arith, mul_pos_le q d) in
    let behind : IsNumber (sign_text (is_below_zero z) ++ (decimal q ++ (with_point f ++ []))) (record { negative = is_below_zero z; whole = decimal q; fraction = f; down = false; exponent = [] }) =
    number (sign_is (is_below_zero z)) (decimal_int q q_small) (point_is f (fraction_are_digits d r (rest_below d size))) no_exponent in
    record {
      numeral = record { negative = is_below_zero z; whole = decimal q; fraction = f; down = false; exponent = [] };
      reads = rw append-nil at behind;
      plain = refl;
      trimmed = fraction_trimmed d r (rest_below d size);
      sign = refl;
      size =
          let value : digits_value (decimal q ++ f) ≡ read_behind q f = fold-append (λ (n d : ℕ). 10 * n + (d - 48)) 0 (decimal q) f ∙ ap (λ x. read_behind x f) (decimal_value q q_small) in
          let d_is : d + 0 ≡ d = omega arith in
          let f_is : length f + 0 ≡ length f = omega arith in
          rw (value, d_is, f_is) (fraction_value q d r (rest_below d size) ∙ ap (λ x. x * 10 ^ length f) parts);
    }

signed_is : (z : ℤ) → z ≡ signed (is_below_zero z) (unsigned_abs z)
signed_is (pos n) = refl
signed_is (negsuc n) = refl

-- a spelling reads as its number
pub spelling_is_scaled : (d : ℕ) (z : ℤ) (text : List ℕ) → IsSpelling d z text → IsScaled text d z
unfolding under
spelling_is_scaled d z text s =
    let m = s.numeral in
    let near : IsNearest (unsigned_abs z * under m) (under m) (unsigned_abs z) = nearest_whole (unsigned_abs z) (under m) (ten_pos (length m.fraction + cond m.down (digits_value m.exponent) 0)) in
    record {
      numeral = m;
      reads = s.reads;
      size = unsigned_abs z;
      nearest = rw s.size near;
      is = signed_is z ∙ ap (λ b. signed b (unsigned_abs z)) (sym s.sign);
    }

-- ---- the loop over the digits behind the point

-- so much is written, and the digits of the rest are to come
pub record IsPushing (bytes : List ℕ) (places rest : ℕ) (before : List ℕ) (all whole : ℕ) : Type 0 where
  pub below : rest < 10 ^ places
  pub few : places ≤ 6
  pub text : bytes ++ fraction_digits places rest ≡ before ++ fraction_digits all whole
  pub room : length bytes + places ≤ length before + all
  pub start : length before ≤ 22
  pub count : all ≤ 6

has_place : (places rest : ℕ) → rest < 10 ^ places → 0 < rest → 0 < places
has_place zero rest h k = absurd (omega arith)
has_place (suc p) rest h k = omega arith

pub digit_below : (places rest : ℕ) → rest < 10 ^ places → 0 < rest → rest / 10 ^ (places - 1) < 10
digit_below zero rest h k = absurd (omega arith)
digit_below (suc p) rest h k = let e : suc p - 1 ≡ p = omega arith in rw e (first_below p rest h)

pub pushing_more : (bytes new : List ℕ) (places rest : ℕ) (before : List ℕ) (all whole : ℕ) → IsPushing bytes places rest before all whole → 0 < rest → new ≡ bytes ++ (48 + rest / 10 ^ (places - 1)) ∷ [] →
    IsPushing new (places - 1) (rest % 10 ^ (places - 1)) before all whole
pushing_more bytes new places rest before all whole i left e =
    let some : 0 < places = has_place places rest i.below left in
    let digit = 48 + rest / 10 ^ (places - 1) in
    let len : length new ≡ length bytes + 1 = ap length e ∙ length_push bytes digit in
    record {
      below = rest_below (places - 1) rest;
      few = omega (arith, i.few);
      text = ap (λ xs. xs ++ fraction_digits (places - 1) (rest % 10 ^ (places - 1))) e
          ∙ append_assoc bytes (digit ∷ []) (fraction_digits (places - 1) (rest % 10 ^ (places - 1)))
          ∙ ap (λ xs. bytes ++ xs) (sym (fraction_step places rest some left)) ∙ i.text;
      room = omega (arith, i.room);
      start = i.start;
      count = i.count;
    }

-- ---- the sign

pub below_zero : (z : ℤ) → is_below_zero z ≡ lt_z z (pos 0)
below_zero (pos n) = grind (arith, nat_tests)
below_zero (negsuc n) = refl
