-- The stages of a number against its grammar.
use Rattle.std.proofs.Common.{◌≡◌, ℕ, ◌≤◌, Bool, true, false, List, [], ◌∷◌, ◌++◌, refl, sym, subst, ap, arith, lit≤, inl, inr}
use Rattle.std.specs.Prelude.{◌==◌, nat_lt, Some, ◌⊎◌, codes}
use Rattle.std.specs.Char.{IsAsciiDigit}
use Rattle.std.proofs.lemmas.Bool.Decides.{nat_tests}
use Rattle.std.proofs.lemmas.List.{append-nil}
use Rattle.prof_time.specs.Numeral.{AreDigits, IsDigits, Numeral, IsSign, IsInt, IsFraction, IsE, IsExponentSign, IsExponent, IsNumber}
use Rattle.prof_time.specs.Numeral as n
use Rattle.prof_grammar.specs.Machine.{Stage, Class, class, next_stage, may_end, after_minus, after_zero, in_whole, after_point, in_fraction, after_e, after_sign, in_exponent}
use Rattle.prof_grammar.specs.Machine as m
use Rattle.prof_grammar.proofs.Language.{Fits, class_fits, Follows, IfNext, eqb_is}
use Rattle.prof_grammar.proofs.Language as l

-- ---- what the stages take is a number

exponent_digits : (t : List ℕ) → Follows in_exponent t → AreDigits t
exponent_digits [] h = tt
exponent_digits (b ∷ bs) h = go (class_fits b) h (exponent_digits bs)
  where
    go : {b : ℕ} {c : Class} → Fits b c → IfNext (next_stage in_exponent c) (λ k. Follows k bs) → (Follows in_exponent bs → AreDigits bs) → AreDigits (b ∷ bs)
    go l.zero_digit i r = ((lit≤ tt, lit≤ tt), r i)
    go (l.digit lo hi) i r = ((omega arith, hi), r i)
    go f i r = absurd i

sign_digits : (t : List ℕ) → Follows after_sign t → IsDigits t
sign_digits [] h = absurd cc
sign_digits (b ∷ bs) h = go (class_fits b) h
  where
    go : {b : ℕ} {c : Class} → Fits b c → IfNext (next_stage after_sign c) (λ k. Follows k bs) → IsDigits (b ∷ bs)
    go l.zero_digit i = n.digits (lit≤ tt, lit≤ tt) (exponent_digits bs i)
    go (l.digit lo hi) i = n.digits (omega arith, hi) (exponent_digits bs i)
    go f i = absurd i

-- an exponent that begins so, with some sign and digits
abbrev AnExponent : List ℕ → Type 0
AnExponent t = (down : Bool) × (ds : List ℕ) × IsExponent t down ds

exponent_from : {e : ℕ} → IsE e → (t : List ℕ) → Follows after_e t → AnExponent (e ∷ t)
exponent_from ie [] h = absurd cc
exponent_from {e = e} ie (b ∷ bs) h = go (class_fits b) h
  where
    go : {b : ℕ} {c : Class} → Fits b c → IfNext (next_stage after_e c) (λ k. Follows k bs) → AnExponent (e ∷ b ∷ bs)
    go l.zero_digit i = (false, 48 ∷ bs, n.exponent {s = []} ie n.none (n.digits (lit≤ tt, lit≤ tt) (exponent_digits bs i)))
    go (l.digit {b = d} lo hi) i = (false, d ∷ bs, n.exponent {s = []} ie n.none (n.digits (omega arith, hi) (exponent_digits bs i)))
    go l.plus i = (false, bs, n.exponent {s = codes "+"} ie n.plus (sign_digits bs i))
    go l.minus i = (true, bs, n.exponent {s = codes "-"} ie n.minus (sign_digits bs i))
    go f i = absurd i

data FractionEnd : List ℕ → Type 0 where
  fraction_end : (ds : List ℕ) {e es : List ℕ} {down : Bool} → AreDigits ds → IsExponent e down es → FractionEnd (ds ++ e)

more_fraction : {t : List ℕ} {d : ℕ} → IsAsciiDigit d → FractionEnd t → FractionEnd (d ∷ t)
more_fraction {d = d} h (fraction_end ds a e) = fraction_end (d ∷ ds) (h, a) e

fraction_from : (t : List ℕ) → Follows in_fraction t → FractionEnd t
fraction_from [] h = fraction_end [] tt n.no_exponent
fraction_from (b ∷ bs) h = go (class_fits b) h (fraction_from bs)
  where
    go : {b : ℕ} {c : Class} → Fits b c → IfNext (next_stage in_fraction c) (λ k. Follows k bs) → (Follows in_fraction bs → FractionEnd bs) → FractionEnd (b ∷ bs)
    go l.zero_digit i r = more_fraction (lit≤ tt, lit≤ tt) (r i)
    go (l.digit lo hi) i r = more_fraction (omega arith, hi) (r i)
    go l.small_e i r = fraction_end [] tt (exponent_from n.small bs i).2
    go l.capital_e i r = fraction_end [] tt (exponent_from n.capital bs i).2
    go f i r = absurd i

-- a fraction or none, and an exponent or none
data NumberEnd : List ℕ → Type 0 where
  number_end : {f fs e es : List ℕ} {down : Bool} → IsFraction f fs → IsExponent e down es → NumberEnd (f ++ e)

point_digit : {t : List ℕ} {d : ℕ} → IsAsciiDigit d → FractionEnd t → NumberEnd (46 ∷ d ∷ t)
point_digit h (fraction_end ds a e) = number_end (n.fraction (n.digits h a)) e

point_from : (t : List ℕ) → Follows after_point t → NumberEnd (46 ∷ t)
point_from [] h = absurd cc
point_from (b ∷ bs) h = go (class_fits b) h
  where
    go : {b : ℕ} {c : Class} → Fits b c → IfNext (next_stage after_point c) (λ k. Follows k bs) → NumberEnd (46 ∷ b ∷ bs)
    go l.zero_digit i = point_digit (lit≤ tt, lit≤ tt) (fraction_from bs i)
    go (l.digit lo hi) i = point_digit (omega arith, hi) (fraction_from bs i)
    go f i = absurd i

zero_from : (t : List ℕ) → Follows after_zero t → NumberEnd t
zero_from [] h = number_end n.no_fraction n.no_exponent
zero_from (b ∷ bs) h = go (class_fits b) h
  where
    go : {b : ℕ} {c : Class} → Fits b c → IfNext (next_stage after_zero c) (λ k. Follows k bs) → NumberEnd (b ∷ bs)
    go l.point i = point_from bs i
    go l.small_e i = number_end n.no_fraction (exponent_from n.small bs i).2
    go l.capital_e i = number_end n.no_fraction (exponent_from n.capital bs i).2
    go f i = absurd i

data WholeEnd : List ℕ → Type 0 where
  whole_end : (ds : List ℕ) {t : List ℕ} → AreDigits ds → NumberEnd t → WholeEnd (ds ++ t)

more_whole : {t : List ℕ} {d : ℕ} → IsAsciiDigit d → WholeEnd t → WholeEnd (d ∷ t)
more_whole {d = d} h (whole_end ds a e) = whole_end (d ∷ ds) (h, a) e

whole_from : (t : List ℕ) → Follows in_whole t → WholeEnd t
whole_from [] h = whole_end [] tt (number_end n.no_fraction n.no_exponent)
whole_from (b ∷ bs) h = go (class_fits b) h (whole_from bs)
  where
    go : {b : ℕ} {c : Class} → Fits b c → IfNext (next_stage in_whole c) (λ k. Follows k bs) → (Follows in_whole bs → WholeEnd bs) → WholeEnd (b ∷ bs)
    go l.zero_digit i r = more_whole (lit≤ tt, lit≤ tt) (r i)
    go (l.digit lo hi) i r = more_whole (omega arith, hi) (r i)
    go l.point i r = whole_end [] tt (point_from bs i)
    go l.small_e i r = whole_end [] tt (number_end n.no_fraction (exponent_from n.small bs i).2)
    go l.capital_e i r = whole_end [] tt (number_end n.no_fraction (exponent_from n.capital bs i).2)
    go f i r = absurd i

abbrev ANumber : List ℕ → Type 0
ANumber t = (k : Numeral) × IsNumber t k

zero_number : {s t : List ℕ} {negative : Bool} → IsSign s negative → NumberEnd t → ANumber (s ++ (48 ∷ t))
zero_number sg (number_end f e) = (_, n.number sg n.zero_int f e)

whole_number : {s t : List ℕ} {negative : Bool} {d : ℕ} → IsSign s negative → 49 ≤ d → d ≤ 57 → WholeEnd t → ANumber (s ++ (d ∷ t))
whole_number sg lo hi (whole_end ds a (number_end f e)) = (_, n.number sg (n.int (omega arith, hi) (λ h. omega (arith, h)) a) f e)

pub number_zero : (t : List ℕ) → Follows after_zero t → ANumber (48 ∷ t)
number_zero t h = zero_number n.no_sign (zero_from t h)

pub number_digit : (d : ℕ) (t : List ℕ) → 49 ≤ d → d ≤ 57 → Follows in_whole t → ANumber (d ∷ t)
number_digit d t lo hi h = whole_number n.no_sign lo hi (whole_from t h)

pub number_minus : (t : List ℕ) → Follows after_minus t → ANumber (45 ∷ t)
number_minus [] h = absurd cc
number_minus (b ∷ bs) h = go (class_fits b) h
  where
    go : {b : ℕ} {c : Class} → Fits b c → IfNext (next_stage after_minus c) (λ k. Follows k bs) → ANumber (45 ∷ b ∷ bs)
    go l.zero_digit i = zero_number n.minus (zero_from bs i)
    go (l.digit lo hi) i = whole_number n.minus lo hi (whole_from bs i)
    go f i = absurd i

-- ---- the stages take each number

pub digit_class : (d : ℕ) → 49 ≤ d → d ≤ 57 → class d ≡ m.digit
digit_class d lo hi =
    let low : nat_lt d 48 ≡ false = grind (arith, nat_tests) in
    let zero : (d == 48) ≡ false = grind (arith, nat_tests) in
    let high : nat_lt d 58 ≡ true = grind (arith, nat_tests) in
    simp (low, zero, high)

pub digit_or_zero : (d : ℕ) → IsAsciiDigit d → (class d ≡ m.zero_digit) ⊎ (class d ≡ m.digit)
digit_or_zero d h = go (d == 48) refl
  where
    go : (t : Bool) → (d == 48) ≡ t → (class d ≡ m.zero_digit) ⊎ (class d ≡ m.digit)
    go true e = inl (ap class (eqb_is d 48 e))
    go false e = let lo = h.0 in let hi = h.1 in let not_zero : 49 ≤ d = grind (arith, nat_tests) in inr (digit_class d not_zero hi)

pub by_class : (k k' : Stage) (c : Class) → (c ≡ m.zero_digit) ⊎ (c ≡ m.digit) → next_stage k m.zero_digit ≡ Some k' → next_stage k m.digit ≡ Some k' → next_stage k c ≡ Some k'
by_class k k' c (inl e) z d = rw e z
by_class k k' c (inr e) z d = rw e d

follows_digit : (k k' : Stage) (d : ℕ) (t : List ℕ) → IsAsciiDigit d → next_stage k m.zero_digit ≡ Some k' → next_stage k m.digit ≡ Some k' → Follows k' t → Follows k (d ∷ t)
follows_digit k k' d t h z e f = subst (λ r. IfNext r (λ j. Follows j t)) (sym (by_class k k' (class d) (digit_or_zero d h) z e)) f

digits_follow : (k : Stage) (ds t : List ℕ) → next_stage k m.zero_digit ≡ Some k → next_stage k m.digit ≡ Some k → AreDigits ds → Follows k t → Follows k (ds ++ t)
digits_follow k [] t z e a f = f
digits_follow k (d ∷ ds) t z e a f = follows_digit k k d (ds ++ t) a.0 z e (digits_follow k ds t z e a.1 f)

exponent_ends : (ds : List ℕ) → AreDigits ds → Follows in_exponent ds
exponent_ends ds a = rw append-nil at (digits_follow in_exponent ds [] refl refl a refl)

sign_follows : {ds : List ℕ} → IsDigits ds → Follows after_sign ds
sign_follows (n.digits {d = d} {ds = ds} h a) = follows_digit after_sign in_exponent d ds h refl refl (exponent_ends ds a)

e_follows : {s ds : List ℕ} {down : Bool} → IsExponentSign s down → IsDigits ds → Follows after_e (s ++ ds)
e_follows n.none (n.digits {d = d} {ds = ds} h a) = follows_digit after_e in_exponent d ds h refl refl (exponent_ends ds a)
e_follows n.plus i = sign_follows i
e_follows n.minus i = sign_follows i

exponent_follows : {e es : List ℕ} {down : Bool} → IsExponent e down es → (k : Stage) → may_end k ≡ true → next_stage k m.letter_e ≡ Some after_e → Follows k e
exponent_follows n.no_exponent k over next = over
exponent_follows (n.exponent {s = s} {ds = ds} n.small sg i) k over next = subst (λ r. IfNext r (λ j. Follows j (s ++ ds))) (sym next) (e_follows sg i)
exponent_follows (n.exponent {s = s} {ds = ds} n.capital sg i) k over next = subst (λ r. IfNext r (λ j. Follows j (s ++ ds))) (sym next) (e_follows sg i)

point_follows : {ds e es : List ℕ} {down : Bool} → IsDigits ds → IsExponent e down es → Follows after_point (ds ++ e)
point_follows {e = e} (n.digits {d = d} {ds = ds} h a) x = follows_digit after_point in_fraction d (ds ++ e) h refl refl (digits_follow in_fraction ds e refl refl a (exponent_follows x in_fraction refl refl))

fraction_follows : {f fs e es : List ℕ} {down : Bool} → IsFraction f fs → IsExponent e down es → (k : Stage) → may_end k ≡ true → next_stage k m.point ≡ Some after_point → next_stage k m.letter_e ≡ Some after_e → Follows k (f ++ e)
fraction_follows n.no_fraction x k over point next = exponent_follows x k over next
fraction_follows {e = e} (n.fraction {ds = ds} i) x k over point next = subst (λ r. IfNext r (λ j. Follows j (ds ++ e))) (sym point) (point_follows i x)

pub zero_follows : {f fs e es : List ℕ} {down : Bool} → IsFraction f fs → IsExponent e down es → Follows after_zero (f ++ e)
zero_follows f e = fraction_follows f e after_zero refl refl refl

pub whole_follows : {f fs e es : List ℕ} {down : Bool} (ds : List ℕ) → AreDigits ds → IsFraction f fs → IsExponent e down es → Follows in_whole (ds ++ (f ++ e))
whole_follows {f = f} {e = e} ds a i x = digits_follow in_whole ds (f ++ e) refl refl a (fraction_follows i x in_whole refl refl refl)

pub minus_follows : {w f fs e es : List ℕ} {down : Bool} → IsInt w → IsFraction f fs → IsExponent e down es → Follows after_minus (w ++ (f ++ e))
minus_follows n.zero_int i x = zero_follows i x
minus_follows {f = f} {e = e} (n.int {d = d} {ds = ds} h not_zero a) i x =
    let lo = h.0 in
    let big : 49 ≤ d = grind (arith, not_zero) in
    subst (λ c. IfNext (next_stage after_minus c) (λ j. Follows j (ds ++ (f ++ e)))) (sym (digit_class d big h.1)) (whole_follows ds a i x)
