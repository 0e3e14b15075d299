-- A number's text has one reading, which is found from the left.
use Rattle.std.proofs.Common.{◌≡◌, ℕ, suc, ◌+◌, ◌-◌, ◌≤◌, Bool, true, false, cond, List, [], ◌∷◌, ◌++◌, length, take, drop, get_or, take_while, refl, sym, ap, ◌∙◌, arith, eqb, lit≤}
use Rattle.std.specs.Char.{is_ascii_digit, IsAsciiDigit}
use Rattle.std.specs.List.{prefix_len}
use Rattle.std.proofs.Math.Seq.{take-append_seam, drop-append_seam, take-length}
use Rattle.std.proofs.lemmas.List.{append-nil}
use Rattle.std.proofs.lemmas.Bool.Decides.{nat_tests}
use Rattle.prof_time.specs.Numeral as n
use Rattle.prof_time.specs.Numeral.{Numeral, AreDigits, IsDigits, digits, IsSign, no_sign, IsInt, zero_int, int, IsFraction, no_fraction, fraction, IsE, small, capital, IsExponentSign, none, plus, IsExponent, no_exponent, exponent, IsNumber, number}
use Rattle.prof_time.specs.TakenApart.{is_minus, without_sign, behind_digits, fraction_in_front, behind_fraction, numeral_of}
use Rattle.prof_time.proofs.Values.{AreDigits-append}

-- behind digits a text goes on with none
Stops : List ℕ → Type 0
Stops rest = prefix_len is_ascii_digit rest ≡ 0

digit_test : (d : ℕ) → IsAsciiDigit d → is_ascii_digit d ≡ true
digit_test d h = grind (arith, nat_tests)

digits_len : (ds rest : List ℕ) → AreDigits ds → Stops rest → prefix_len is_ascii_digit (ds ++ rest) ≡ length ds
unfolding Stops
digits_len [] rest h stops = stops
digits_len (d ∷ ds) rest (p, ps) stops =
    rw (digit_test d p) (ap (λ n. 1 + n) (digits_len ds rest ps stops) ∙ omega arith)

digits_front : (ds rest : List ℕ) → AreDigits ds → Stops rest → take_while is_ascii_digit (ds ++ rest) ≡ ds
digits_front ds rest h stops = ap (λ n. take n (ds ++ rest)) (digits_len ds rest h stops) ∙ take-append_seam ds rest

digits_rest : (ds rest : List ℕ) → AreDigits ds → Stops rest → behind_digits (ds ++ rest) ≡ rest
digits_rest ds rest h stops = ap (λ n. drop n (ds ++ rest)) (digits_len ds rest h stops) ∙ drop-append_seam ds rest

-- The digits that a text begins with are its first byte, if it is a digit, and those behind it.
pub first_digit : (text : List ℕ) → 1 ≤ length text → is_ascii_digit (get_or text 0 0) ≡ true →
    (take_while is_ascii_digit text ≡ get_or text 0 0 ∷ take_while is_ascii_digit (take (length text - 1) (drop 1 text)))
    × (behind_digits text ≡ behind_digits (take (length text - 1) (drop 1 text)))
    × (length text ≡ suc (length (take (length text - 1) (drop 1 text))))
first_digit [] h test = absurd (omega arith)
first_digit (b ∷ bs) h test =
    let all : take (length (b ∷ bs) - 1) bs ≡ bs = ap (λ k. take k bs) (omega arith) ∙ take-length bs in
    let len : prefix_len is_ascii_digit (b ∷ bs) ≡ suc (prefix_len is_ascii_digit bs) = ap (λ t. cond t (1 + prefix_len is_ascii_digit bs) 0) test ∙ omega arith in (
      ap (λ k. take k (b ∷ bs)) len ∙ ap (λ ds. b ∷ take_while is_ascii_digit ds) (sym all),
      ap (λ k. drop k (b ∷ bs)) len ∙ ap behind_digits (sym all),
      ap (λ ds. suc (length ds)) (sym all),
    )

-- the first byte is a digit
pub record BeginsWithDigit (text : List ℕ) : Type 0 where
  byte : ℕ
  rest : List ℕ
  is : text ≡ byte ∷ rest
  digit : IsAsciiDigit byte

not_sign : (text : List ℕ) → BeginsWithDigit text → (is_minus text ≡ false) × (without_sign text ≡ text)
not_sign text b =
    let h = b.digit in
    let minus : eqb b.byte 45 ≡ false = grind (arith, nat_tests) in
    let plus : eqb b.byte 43 ≡ false = grind (arith, nat_tests) in
    (rw b.is (rw minus), rw b.is (rw (minus, plus)))

pub digit_is_no_sign : (b : ℕ) (bs : List ℕ) → IsAsciiDigit b → (is_minus (b ∷ bs) ≡ false) × (without_sign (b ∷ bs) ≡ b ∷ bs)
digit_is_no_sign b bs h = not_sign (b ∷ bs) (record { byte = b; rest = bs; is = refl; digit = h })

begins_digits : (ds rest : List ℕ) → IsDigits ds → BeginsWithDigit (ds ++ rest)
begins_digits ds rest (digits {d = d} {ds = es} p ps) = record { byte = d; rest = es ++ rest; is = refl; digit = p }

begins_int : (w rest : List ℕ) → IsInt w → BeginsWithDigit (w ++ rest)
begins_int w rest zero_int = record { byte = 48; rest = rest; is = refl; digit = (lit≤ tt, lit≤ tt) }
begins_int w rest (int {d = d} {ds = ds} p q ps) = record { byte = d; rest = ds ++ rest; is = refl; digit = p }

int_digits : (w : List ℕ) → IsInt w → AreDigits w
int_digits w zero_int = ((lit≤ tt, lit≤ tt), tt)
int_digits w (int p q ps) = (p, ps)

are_digits : (ds : List ℕ) → IsDigits ds → AreDigits ds
are_digits ds (digits p ps) = (p, ps)

fraction_digits : (f fs : List ℕ) → IsFraction f fs → AreDigits fs
fraction_digits f fs no_fraction = tt
fraction_digits f fs (fraction h) = are_digits fs h

-- a sign, then digits
signed_is : (s rest : List ℕ) (negative : Bool) → IsSign s negative → BeginsWithDigit rest → (is_minus (s ++ rest) ≡ negative) × (without_sign (s ++ rest) ≡ rest)
signed_is s rest negative no_sign b = not_sign rest b
signed_is s rest negative n.IsSign.minus b = (refl, refl)

exponent_is : (s ds : List ℕ) (down : Bool) → IsExponentSign s down → IsDigits ds → (is_minus (s ++ ds) ≡ down) × (without_sign (s ++ ds) ≡ ds)
exponent_is s ds down none h = not_sign ds (rw append-nil at (begins_digits ds [] h))
exponent_is s ds down plus h = (refl, refl)
exponent_is s ds down n.IsExponentSign.minus h = (refl, refl)

exponent_stops : (e es : List ℕ) (down : Bool) → IsExponent e down es → Stops e
unfolding Stops
exponent_stops e es down no_exponent = refl
exponent_stops e es down (exponent small s ds) = refl
exponent_stops e es down (exponent capital s ds) = refl

fraction_stops : (f fs e es : List ℕ) (down : Bool) → IsFraction f fs → IsExponent e down es → Stops (f ++ e)
unfolding Stops
fraction_stops f fs e es down no_fraction h = exponent_stops e es down h
fraction_stops f fs e es down (fraction p) h = refl

no_point : (e es : List ℕ) (down : Bool) → IsExponent e down es → (fraction_in_front e ≡ []) × (behind_fraction e ≡ e)
no_point e es down no_exponent = (refl, refl)
no_point e es down (exponent small s ds) = (refl, refl)
no_point e es down (exponent capital s ds) = (refl, refl)

fraction_is : (f fs e es : List ℕ) (down : Bool) → IsFraction f fs → IsExponent e down es → (fraction_in_front (f ++ e) ≡ fs) × (behind_fraction (f ++ e) ≡ e)
fraction_is f fs e es down no_fraction h = no_point e es down h
fraction_is f fs e es down (fraction p) h =
    (digits_front fs e (are_digits fs p) (exponent_stops e es down h), digits_rest fs e (are_digits fs p) (exponent_stops e es down h))

tail_is : (e es : List ℕ) (down : Bool) → IsExponent e down es → (is_minus (drop 1 e) ≡ down) × (without_sign (drop 1 e) ≡ es)
tail_is e es down no_exponent = (refl, refl)
tail_is e es down (exponent {s = s} k sign ds) = exponent_is s es down sign ds

-- the number's text is read as its numeral
pub reading_is : (text : List ℕ) (m : Numeral) → IsNumber text m → numeral_of text ≡ m
unfolding numeral_of
reading_is text m (number {s = s} {w = w} {f = f} {fs = fs} {e = e} {es = es} {negative = negative} {down = down} sign i frac expo) =
    let rest = f ++ e in
    let front = signed_is s (w ++ rest) negative sign (begins_int w rest i) in
    let stops = fraction_stops f fs e es down frac expo in
    let whole : take_while is_ascii_digit (w ++ rest) ≡ w = digits_front w rest (int_digits w i) stops in
    let behind : behind_digits (w ++ rest) ≡ rest = digits_rest w rest (int_digits w i) stops in
    let point = fraction_is f fs e es down frac expo in
    let tail = tail_is e es down expo in
    rw front.0 (rw front.1 (rw (whole, behind) (rw point.0 (rw point.1 (rw (tail.0, tail.1))))))

-- a text has one reading
pub same_numeral : (text : List ℕ) (m n : Numeral) → IsNumber text m → IsNumber text n → m ≡ n
same_numeral text m n h k = sym (reading_is text m h) ∙ reading_is text n k

pub number_digits : (text : List ℕ) (m : Numeral) → IsNumber text m → AreDigits (m.whole ++ m.fraction)
number_digits text m (number {w = w} {f = f} {fs = fs} sign i frac expo) = AreDigits-append w fs (int_digits w i) (fraction_digits f fs frac)
