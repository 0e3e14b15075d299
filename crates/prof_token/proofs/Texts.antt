-- Texts that grow.
use Rattle.std.proofs.Common.{◌≡◌, ◌≢◌, inl, inr, ℕ, Bool, true, false, List, [], ◌∷◌, ◌++◌, refl, sym, ap, ◌∙◌, arith}
use Rattle.std.specs.Prelude.{codes, ◌==◌, ◌||◌, ◌⊎◌}
use Rattle.std.proofs.lemmas.List.{append_assoc, append-nil}
use Rattle.std.proofs.lemmas.Bool.Decides.{nat_tests}
use Rattle.std.specs.Char.{IsAsciiDigit}
use Rattle.prof_time.specs.Numeral as n
use Rattle.prof_time.specs.Numeral.{AreDigits, IsDigits, IsInt}
use Rattle.prof_token.specs.Bytes.{Each, none, more, is_digit, is_e}
use Rattle.prof_token.specs.Kept.{Kept, Adds, Gains, with}
use Rattle.prof_token.specs.Numbers.{IsNumeral, IsFractionText, IsSignText, IsExponentText, IsUnsigned}

with_nil : (k : Kept) → k ≡ with k []
unfolding with
with_nil k = go k.bytes k.keeping
  where
    go : (b : List ℕ) (t : Bool) → record { bytes = b; keeping = t } ≡ with (record { bytes = b; keeping = t }) []
    go b true = ap (λ u. record { bytes = u; keeping = true }) (sym (append-nil b))
    go b false = refl

with_with : (k : Kept) (x y : List ℕ) → with (with k x) y ≡ with k (x ++ y)
unfolding with
with_with k x y = go k.bytes k.keeping
  where
    go : (b : List ℕ) (t : Bool) → with (with (record { bytes = b; keeping = t }) x) y ≡ with (record { bytes = b; keeping = t }) (x ++ y)
    go b true = ap (λ u. record { bytes = u; keeping = true }) (append_assoc b x y)
    go b false = refl

pub gains_none : {k : Kept} → Gains k [] k
gains_none {k} = record { is = with_nil k }

pub gains_on : {k l m : Kept} {x y : List ℕ} → Gains k x l → Gains l y m → Gains k (x ++ y) m
gains_on {k} {l} {m} {x} {y} e f = record { is = f.is ∙ ap (λ u. with u y) e.is ∙ with_with k x y }

pub is_ascii_digit_of : (b : ℕ) → is_digit b ≡ true → IsAsciiDigit b
is_ascii_digit_of b h = (grind (arith, nat_tests), grind (arith, nat_tests))

pub each_digits : {xs : List ℕ} → Each is_digit xs → AreDigits xs
each_digits none = tt
each_digits (more {b} p a) = (is_ascii_digit_of b p, each_digits a)

pub digits_append : (xs ys : List ℕ) → AreDigits xs → AreDigits ys → AreDigits (xs ++ ys)
digits_append [] ys h k = k
digits_append (x ∷ xs) ys h k = (h.0, digits_append xs ys h.1 k)

pub adds_none : {k : Kept} → Adds AreDigits k k
adds_none {k} = record { piece = []; is = tt; text = gains_none }

pub adds_digits : {k l m : Kept} {ds : List ℕ} → Adds AreDigits k l → Each is_digit ds → Gains l ds m → Adds AreDigits k m
adds_digits {ds = ds} h a e = record { piece = h.piece ++ ds; is = digits_append h.piece ds h.is (each_digits a); text = gains_on h.text e }

-- digits behind the first ones, which were added at once
pub adds_some : {k l m : Kept} {b : ℕ} (ds : List ℕ) → is_digit b ≡ true → AreDigits ds → Gains k (b ∷ ds) l → Adds AreDigits l m → Adds IsDigits k m
adds_some {b = b} ds p d e h = record { piece = b ∷ (ds ++ h.piece); is = n.digits (is_ascii_digit_of b p) (digits_append ds h.piece d h.is); text = gains_on e h.text }

pub adds_int : {k l m : Kept} {b : ℕ} (ds : List ℕ) → b ≢ 48 → is_digit b ≡ true → AreDigits ds → Gains k (b ∷ ds) l → Adds AreDigits l m → Adds IsInt k m
adds_int {b = b} ds z p d e h = record { piece = b ∷ (ds ++ h.piece); is = n.int (is_ascii_digit_of b p) z (digits_append ds h.piece d h.is); text = gains_on e h.text }

pub adds_zero : {k l : Kept} {b : ℕ} → b ≡ 48 → Gains k (b ∷ []) l → Adds IsInt k l
adds_zero {k} {l} {b} e f = record { piece = codes "0"; is = n.zero_int; text = rw e at f }

pub no_fraction : {k : Kept} → Adds IsFractionText k k
no_fraction {k} = record { piece = []; is = record { digits = []; reads = n.no_fraction }; text = gains_none }

pub adds_fraction : {k l m : Kept} → Gains k (46 ∷ []) l → Adds IsDigits l m → Adds IsFractionText k m
adds_fraction e h = record { piece = 46 ∷ h.piece; is = record { digits = h.piece; reads = n.fraction h.is }; text = gains_on e h.text }

pub no_sign : {k : Kept} → Adds IsSignText k k
no_sign {k} = record { piece = []; is = record { down = false; reads = n.none }; text = gains_none }

adds_plus : {k l : Kept} {b : ℕ} → b ≡ 43 → Gains k (b ∷ []) l → Adds IsSignText k l
adds_plus e f = record { piece = codes "+"; is = record { down = false; reads = n.plus }; text = rw e at f }

adds_minus : {k l : Kept} {b : ℕ} → b ≡ 45 → Gains k (b ∷ []) l → Adds IsSignText k l
adds_minus e f = record { piece = codes "-"; is = record { down = true; reads = n.minus }; text = rw e at f }

pub adds_sign : {k l : Kept} {b : ℕ} → ((b ≡ 43) ⊎ (b ≡ 45)) → Gains k (b ∷ []) l → Adds IsSignText k l
adds_sign (inl e) f = adds_plus e f
adds_sign (inr e) f = adds_minus e f

pub no_exponent : {k : Kept} → Adds IsExponentText k k
no_exponent {k} = record { piece = []; is = record { down = false; digits = []; reads = n.no_exponent }; text = gains_none }

pub adds_exponent : {k l m o : Kept} {b : ℕ} → n.IsE b → Gains k (b ∷ []) l → Adds IsSignText l m → Adds IsDigits m o → Adds IsExponentText k o
adds_exponent {b = b} x e h j = record {
  piece = b ∷ h.piece ++ j.piece;
  is = record { down = h.is.down; digits = j.piece; reads = n.exponent {s = h.piece} x h.is.reads j.is };
  text = gains_on e (gains_on h.text j.text);
}

pub adds_unsigned : {k l m o : Kept} → Adds IsInt k l → Adds IsFractionText l m → Adds IsExponentText m o → Adds IsUnsigned k o
adds_unsigned h i j = record {
  piece = h.piece ++ (i.piece ++ j.piece);
  is = record { whole = h.piece; fraction = i.piece; exponent = j.piece; is = refl; begins = h.is; goes_on = i.is; ends = j.is };
  text = gains_on h.text (gains_on i.text j.text);
}

pub adds_number : {k l : Kept} → Adds IsUnsigned k l → Adds IsNumeral k l
adds_number h = let u = h.is in record {
  piece = h.piece;
  is = record {
    numeral = record { negative = false; whole = u.whole; fraction = u.goes_on.digits; down = u.ends.down; exponent = u.ends.digits };
    reads = rw u.is (n.number {s = []} n.no_sign u.begins u.goes_on.reads u.ends.reads);
  };
  text = h.text;
}

pub adds_negative : {k l m : Kept} {b : ℕ} → b ≡ 45 → Gains k (b ∷ []) l → Adds IsUnsigned l m → Adds IsNumeral k m
adds_negative {b = b} e f h = let u = h.is in record {
  piece = 45 ∷ h.piece;
  is = record {
    numeral = record { negative = true; whole = u.whole; fraction = u.goes_on.digits; down = u.ends.down; exponent = u.ends.digits };
    reads = rw u.is (n.number {s = codes "-"} n.minus u.begins u.goes_on.reads u.ends.reads);
  };
  text = gains_on (rw e at f) h.text;
}

pub e_of : (b : ℕ) → is_e b ≡ true → n.IsE b
e_of b h = go (b == 101) (b == 69) refl refl h
  where
    go : (t u : Bool) → (b == 101) ≡ t → (b == 69) ≡ u → (t || u) ≡ true → n.IsE b
    go true u e _ h = let q : b ≡ 101 = grind (arith, nat_tests) in rw q n.small
    go false true _ e h = let q : b ≡ 69 = grind (arith, nat_tests) in rw q n.capital
    go false false _ _ h = cc
