-- From the parts of a text to its numeral.
use Rattle.std.proofs.Common.{◌≡◌, ℕ, suc, zero, ◌+◌, ◌-◌, ◌*◌, ◌^◌, ◌<◌, ◌≤◌, min, Bool, true, false, List, ◌++◌, length, refl, sym, ap, ◌∙◌, arith, subst, length-append}
use Rattle.std.specs.Prelude.{Option, Some, None, IfSome, IfNone, is_some, ℤ, unsigned_abs}
use Rattle.std.proofs.lemmas.Bool.{false≢true}
use Rattle.prof_time.specs.Numeral.{Numeral, AreDigits, IsNumber}
use Rattle.prof_time.specs.Scaled.{digits_value, over, under, IsNearest, IsScaled, IsExact, signed}
use Rattle.prof_time.specs.Parts.{IsTakenApart, digits_of}
use Rattle.prof_time.specs.TakenApart.{numeral_of}
use Rattle.prof_time.specs.declared.decimal.Decimal.{Decimal}
use Rattle.prof_time.proofs.Readings.{reading_is, number_digits, same_numeral}
use Rattle.prof_time.proofs.Scaling.{far_up, far_down, nearest_cut, exact_cut, exact_uncut, exact_same}

pub taken_apart : (text : List ℕ) (m : Numeral) (d : Decimal) → IsNumber text m → IsTakenApart (numeral_of text) d → IsTakenApart m d
taken_apart text m d h t = let P : Numeral → Type 0 = λ n. IsTakenApart n d in subst P (reading_is text m h) t

same_digits : (m : Numeral) (d : Decimal) → IsTakenApart m d → digits_of d ≡ m.whole ++ m.fraction
same_digits m d t = ap (λ w. w ++ d.fraction.now) t.whole ∙ ap (λ f. m.whole ++ f) t.fraction

pub taken_digits : (text : List ℕ) (m : Numeral) (d : Decimal) → IsNumber text m → IsTakenApart (numeral_of text) d → AreDigits (digits_of d)
taken_digits text m d h t = subst AreDigits (sym (same_digits m d (taken_apart text m d h t))) (number_digits text m h)

pub nearest_size : (text : List ℕ) (m : Numeral) (d : Decimal) (k size : ℕ) → IsNumber text m → IsTakenApart (numeral_of text) d → length d.whole.now + length d.fraction.now < 2 ^ 64 → k ≤ 6 →
    ((n : ℕ) × IsNearest (digits_value (digits_of d) * 10 ^ (k + d.up)) (10 ^ d.down) n × (size ≡ min n (2 ^ 128 - 1))) →
    (n : ℕ) × IsNearest (over m k) (under m) n × (size ≡ min n (2 ^ 128 - 1))
nearest_size text m d k size h t fits six near =
    let apart = taken_apart text m d h t in
    let same = same_digits m d apart in
    let len : length (m.whole ++ m.fraction) ≡ length d.whole.now + length d.fraction.now = ap length (sym same) ∙ length-append d.whole.now d.fraction.now in
    let back : length m.fraction ≤ length (m.whole ++ m.fraction) = omega (arith, length-append m.whole m.fraction) in
    let is : IsNearest (digits_value (m.whole ++ m.fraction) * 10 ^ (k + far_up m)) (10 ^ far_down m) near.0 =
    rw (sym same, sym apart.up, sym apart.down) near.1 in
    let cut = nearest_cut m k near.0 (number_digits text m h) six (omega arith) back is in
    (cut.0, cut.1, near.2 ∙ cut.2)

pub exact_size : (text : List ℕ) (m : Numeral) (d : Decimal) (size : ℕ) → IsNumber text m → IsTakenApart (numeral_of text) d → length d.whole.now + length d.fraction.now < 2 ^ 64 →
    ((n : ℕ) × (digits_value (digits_of d) * 10 ^ d.up ≡ n * 10 ^ d.down) × (size ≡ min n (2 ^ 128 - 1))) →
    (n : ℕ) × (over m 0 ≡ n * under m) × (size ≡ min n (2 ^ 128 - 1))
exact_size text m d size h t fits exact =
    let apart = taken_apart text m d h t in
    let same = same_digits m d apart in
    let len : length (m.whole ++ m.fraction) ≡ length d.whole.now + length d.fraction.now = ap length (sym same) ∙ length-append d.whole.now d.fraction.now in
    let back : length m.fraction ≤ length (m.whole ++ m.fraction) = omega (arith, length-append m.whole m.fraction) in
    let is : digits_value (m.whole ++ m.fraction) * 10 ^ far_up m ≡ exact.0 * 10 ^ far_down m =
    rw (sym same, sym apart.up, sym apart.down) exact.1 in
    let cut = exact_cut m exact.0 (number_digits text m h) (omega arith) back is in
    (cut.0, cut.1, exact.2 ∙ cut.2)

pub exact_parts : (text : List ℕ) (m : Numeral) (d : Decimal) (size : ℕ) → IsNumber text m → IsTakenApart (numeral_of text) d → length d.whole.now + length d.fraction.now < 2 ^ 64 →
    over m 0 ≡ size * under m → (n : ℕ) × (digits_value (digits_of d) * 10 ^ d.up ≡ n * 10 ^ d.down)
exact_parts text m d size h t fits exact =
    let apart = taken_apart text m d h t in
    let same = same_digits m d apart in
    let len : length (m.whole ++ m.fraction) ≡ length d.whole.now + length d.fraction.now = ap length (sym same) ∙ length-append d.whole.now d.fraction.now in
    let back : length m.fraction ≤ length (m.whole ++ m.fraction) = omega (arith, length-append m.whole m.fraction) in
    let uncut = exact_uncut m size (number_digits text m h) (omega arith) back exact in
    let P : List ℕ → ℕ → ℕ → Type 0 = λ ds up down. digits_value ds * 10 ^ up ≡ uncut.0 * 10 ^ down in
    (uncut.0, subst (λ (x : ℕ). P (digits_of d) d.up x) (sym apart.down) (subst (λ (x : ℕ). P (digits_of d) x (far_down m)) (sym apart.up) (subst (λ (x : List ℕ). P x (far_up m) (far_down m)) (sym same) uncut.1)))

pub signed_size : (b : Bool) (n : ℕ) → unsigned_abs (signed b n) ≡ n
signed_size true zero = refl
signed_size true (suc n) = refl
signed_size false n = refl

pub scaled_from : (text : List ℕ) (m : Numeral) (d : Decimal) (k n : ℕ) (z : ℤ) → IsNumber text m → IsTakenApart (numeral_of text) d → IsNearest (over m k) (under m) n → z ≡ signed d.negative n → IsScaled text k z
scaled_from text m d k n z h t near is =
    record { numeral = m; reads = h; size = n; nearest = near; is = is ∙ ap (λ b. signed b n) (taken_apart text m d h t).negative }

pub exact_from : (text : List ℕ) (m : Numeral) (d : Decimal) (n : ℕ) (z : ℤ) → IsNumber text m → IsTakenApart (numeral_of text) d → over m 0 ≡ n * under m → z ≡ signed d.negative n → IsExact text z
exact_from text m d n z h t exact is =
    record { numeral = m; reads = h; size = n; exact = exact; is = is ∙ ap (λ b. signed b n) (taken_apart text m d h t).negative }

-- the size of a whole value
pub exact_is : (text : List ℕ) (m : Numeral) (z : ℤ) → IsNumber text m → IsExact text z → over m 0 ≡ unsigned_abs z * under m
exact_is text m z h x =
    let size : x.size ≡ unsigned_abs z = sym (ap unsigned_abs x.is ∙ signed_size x.numeral.negative x.size) in
    let P : Numeral → Type 0 = λ n. over n 0 ≡ unsigned_abs z * under n in
    subst P (same_numeral text x.numeral m x.reads h) (x.exact ∙ ap (λ n. n * under x.numeral) size)

pub exact_abs : (text : List ℕ) (m : Numeral) (n : ℕ) (z : ℤ) → IsNumber text m → over m 0 ≡ n * under m → IsExact text z → unsigned_abs z ≡ n
exact_abs text m n z h e x = exact_same m (unsigned_abs z) n (exact_is text m z h x) e

-- a test of an optional value for a fact
pub tested : (r : Option ℕ) (S : ℕ → Type 0) (T N : Type 0) → IfSome r S → IfNone r N → ((n : ℕ) → S n → T) → (N → T → ⊥) → (is_some r ≡ true → T) × (T → is_some r ≡ true)
tested None S T N some none to from = (λ e. absurd (false≢true e), λ t. absurd (from none t))
tested (Some n) S T N some none to from = (λ _. to n some, λ _. refl)
