-- What short numbers mean.
use Rattle.std.proofs.Common.{◌≡◌, ℕ, ◌+◌, ◌-◌, ◌*◌, ◌%◌, ◌^◌, ◌<◌, ◌≤◌, Bool, true, false, cond, List, [], ◌∷◌, ◌++◌, length, take, drop, get_or, take_while, refl, sym, ap, ◌∙◌, arith, subst}
use Rattle.std.specs.Prelude.{pos, unsigned_abs, ℤ}
use Rattle.std.specs.Char.{is_ascii_digit, IsAsciiDigit}
use Rattle.std.specs.List.{prefix_len}
use Rattle.std.proofs.Math.Nat.{mul-mod_left}
use Rattle.std.proofs.Math.Seq.{take-length}
use Rattle.std.proofs.lemmas.Bool.Decides.{nat_tests}
use Rattle.std.proofs.lemmas.List.{take-append-drop, append-nil}
use Rattle.std.proofs.lemmas.List.Sums.{fold-append}
use Rattle.prof_time.specs.Numeral.{Numeral, IsNumber}
use Rattle.prof_time.specs.Scaled.{digits_value, over, under, IsNearest, IsScaled, IsExact, signed}
use Rattle.prof_time.specs.Parts.{IsPlain}
use Rattle.prof_time.specs.TakenApart.{is_minus, without_sign, behind_digits, numeral_of}
use Rattle.prof_time.specs.declared.short.Short.{Short}
use Rattle.prof_time.proofs.Values.{read_behind}
use Rattle.prof_time.proofs.Readings.{digit_is_no_sign, reading_is}
use Rattle.prof_time.proofs.Bridges.{exact_is}

pub not_multiple : (v u n : ℕ) → v ≡ n * u → v % u ≡ 0
not_multiple v u n e = ap (λ x. x % u) e ∙ mul-mod_left n u

is_digit : (b : ℕ) → is_ascii_digit b ≡ true → IsAsciiDigit b
is_digit b h = grind (arith, nat_tests)

-- a text with no sign behind its digits has none before them
no_sign_before : (text rest : List ℕ) → behind_digits text ≡ rest → is_minus rest ≡ false → without_sign rest ≡ rest → (is_minus text ≡ false) × (without_sign text ≡ text)
no_sign_before [] rest e m w = (refl, refl)
no_sign_before (b ∷ bs) rest e m w =
    let at = λ (t : Bool). is_ascii_digit b ≡ t → (is_minus (b ∷ bs) ≡ false) × (without_sign (b ∷ bs) ≡ b ∷ bs) in
    elim (is_ascii_digit b) as at [
      | true ↦ λ h. digit_is_no_sign b bs (is_digit b h)
      | false ↦ λ h.
          let same : behind_digits (b ∷ bs) ≡ b ∷ bs = ap (λ t. drop (cond t (1 + prefix_len is_ascii_digit bs) 0) (b ∷ bs)) h in
          let is : rest ≡ b ∷ bs = sym e ∙ same in
          (ap is_minus (sym is) ∙ m, ap without_sign (sym is) ∙ w ∙ is)
    ] refl

-- digits alone
pub plain_whole : (text rest : List ℕ) (s : Short) → behind_digits text ≡ rest → length rest < 1 → s.value ≡ read_behind 0 (take_while is_ascii_digit text) → s.places ≡ 0 → IsPlain (numeral_of text) s
unfolding numeral_of
plain_whole text [] s e lt value places =
    let sign = no_sign_before text [] e refl refl in
    rw sign.1 (rw e (record {
      negative = sign.0;
      down = refl;
      exponent = refl;
      value = value ∙ ap (read_behind 0) (sym (append-nil (take_while is_ascii_digit text)));
      places = places;
    }))
plain_whole text (b ∷ bs) s e lt value places = absurd (omega arith)

all_digits : (fs : List ℕ) → behind_digits fs ≡ [] → take_while is_ascii_digit fs ≡ fs
all_digits fs e = sym (append-nil (take_while is_ascii_digit fs)) ∙ ap (λ r. take_while is_ascii_digit fs ++ r) (sym e) ∙ take-append-drop (prefix_len is_ascii_digit fs) fs

-- digits, a point and digits
point_digits : (text fs : List ℕ) (s : Short) → behind_digits text ≡ 46 ∷ fs → behind_digits fs ≡ [] → s.value ≡ read_behind (read_behind 0 (take_while is_ascii_digit text)) (take_while is_ascii_digit fs) → s.places ≡ length fs → IsPlain (numeral_of text) s
unfolding numeral_of
point_digits text fs s e none value places =
    let sign = no_sign_before text (46 ∷ fs) e refl refl in
    let whole = take_while is_ascii_digit text in
    rw sign.1 (rw e (rw none (record {
      negative = sign.0;
      down = refl;
      exponent = refl;
      value = value ∙ sym (fold-append (λ (n d : ℕ). 10 * n + (d - 48)) 0 whole (take_while is_ascii_digit fs));
      places = places ∙ ap length (sym (all_digits fs none));
    })))

pub plain_point : (text rest end : List ℕ) (s : Short) → behind_digits text ≡ rest → 1 ≤ length rest → get_or rest 0 0 ≡ 46 → behind_digits (take (length rest - 1) (drop 1 rest)) ≡ end → length end ≡ 0 →
    s.value ≡ read_behind (read_behind 0 (take_while is_ascii_digit text)) (take_while is_ascii_digit (take (length rest - 1) (drop 1 rest))) → s.places ≡ length (take (length rest - 1) (drop 1 rest)) → IsPlain (numeral_of text) s
plain_point text [] end s e le first none len value places = absurd (omega arith)
plain_point text (b ∷ bs) (x ∷ xs) s e le first none len value places = absurd (omega arith)
plain_point text (b ∷ bs) [] s e le first none len value places =
    let all : take (length (b ∷ bs) - 1) bs ≡ bs = ap (λ k. take k bs) (omega arith) ∙ take-length bs in
    let dot : behind_digits text ≡ 46 ∷ bs = e ∙ ap (λ d. d ∷ bs) first in
    point_digits text bs s dot (rw all at none) (rw all at value) (rw all at places)

-- a short number's size over its divisor
plain_over : (m : Numeral) (s : Short) (k : ℕ) → IsPlain m s → over m k ≡ s.value * 10 ^ k
unfolding over
plain_over m s k p =
    ap (λ b. digits_value (m.whole ++ m.fraction) * 10 ^ (k + cond b 0 (digits_value m.exponent))) p.down
    ∙ ap (λ ds. digits_value (m.whole ++ m.fraction) * 10 ^ (k + digits_value ds)) p.exponent
    ∙ ap (λ x. digits_value (m.whole ++ m.fraction) * 10 ^ x) (omega arith)
    ∙ ap (λ v. v * 10 ^ k) (sym p.value)

plain_under : (m : Numeral) (s : Short) → IsPlain m s → under m ≡ 10 ^ s.places
unfolding under
plain_under m s p =
    ap (λ b. 10 ^ (length m.fraction + cond b (digits_value m.exponent) 0)) p.down
    ∙ ap (λ x. 10 ^ x) (omega (arith, p.places))

plain_reading : (text : List ℕ) (m : Numeral) (s : Short) → IsNumber text m → IsPlain (numeral_of text) s → IsPlain m s
plain_reading text m s h p = let P : Numeral → Type 0 = λ n. IsPlain n s in subst P (reading_is text m h) p

pub plain_scaled : (text : List ℕ) (m : Numeral) (s : Short) (k n : ℕ) (z : ℤ) → IsNumber text m → IsPlain (numeral_of text) s → IsNearest (s.value * 10 ^ k) (10 ^ s.places) n → z ≡ pos n → IsScaled text k z
plain_scaled text m s k n z h plain near is =
    let p = plain_reading text m s h plain in
    let P : ℕ → ℕ → Type 0 = λ a b. IsNearest a b n in
    record {
      numeral = m;
      reads = h;
      size = n;
      nearest = subst (λ (a : ℕ). P a (under m)) (sym (plain_over m s k p)) (subst (λ (b : ℕ). P (s.value * 10 ^ k) b) (sym (plain_under m s p)) near);
      is = is ∙ ap (λ b. signed b n) (sym p.negative);
    }

pub plain_exact : (text : List ℕ) (m : Numeral) (s : Short) (n : ℕ) (z : ℤ) → IsNumber text m → IsPlain (numeral_of text) s → s.value ≡ n * 10 ^ s.places → z ≡ pos n → IsExact text z
plain_exact text m s n z h plain e is =
    let p = plain_reading text m s h plain in
    record {
      numeral = m;
      reads = h;
      size = n;
      exact = plain_over m s 0 p ∙ omega arith ∙ e ∙ ap (λ y. n * y) (sym (plain_under m s p));
      is = is ∙ ap (λ b. signed b n) (sym p.negative);
    }

pub plain_multiple : (text : List ℕ) (m : Numeral) (s : Short) (z : ℤ) → IsNumber text m → IsPlain (numeral_of text) s → IsExact text z → s.value ≡ unsigned_abs z * 10 ^ s.places
plain_multiple text m s z h plain x =
    let p = plain_reading text m s h plain in
    let e : s.value * 10 ^ 0 ≡ unsigned_abs z * 10 ^ s.places = sym (plain_over m s 0 p) ∙ exact_is text m z h x ∙ ap (λ y. unsigned_abs z * y) (plain_under m s p) in
    omega arith
