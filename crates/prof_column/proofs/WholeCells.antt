-- The nearest of 64 bits to a text's whole number, by what is read of the text.
use Rattle.std.proofs.Common.{◌≡◌, ℕ, ◌-◌, ◌^◌, ◌≤◌, Option, None, Some, List, [], ◌∷◌, Bool, refl, sym, ◌∙◌, ap, arith, Bor, nat_eq}
use Rattle.std.specs.Prelude.{ℤ, pos, negsuc, unsigned_abs, if◌then◌else◌, option_map}
use Rattle.std.specs.List.{slice_get}
use Rattle.std.specs.Option.{option_copied, option_eq}
use Rattle.prof_time.specs.Numeral.{Numeral, IsNumber}
use Rattle.prof_time.specs.Scaled.{IsExact}
use Rattle.prof_time.specs.TakenApart.{is_minus}
use Rattle.prof_layout.specs.Numbers.{whole_of}
use Rattle.prof_layout.specs.Columns.{clamped}
use Rattle.prof_layout.proofs.Numbers.{whole_is}
use Rattle.prof_layout.proofs.ReadCells.{whole-none, clamped-far}

pub nearest-read : (text : List ℕ) (n r : ℤ) → IsExact text n → r ≡ clamped n → Some r ≡ option_map clamped (whole_of text)
nearest-read text n r h e = ap Some e ∙ sym (ap (option_map clamped) (whole_is text n h))

pub nearest-none : (text : List ℕ) (m : Numeral) → IsNumber text m → ((n : ℤ) → IsExact text n → ⊥) → None ≡ option_map clamped (whole_of text)
nearest-none text m h none = sym (ap (option_map clamped) (whole-none text m h none))

-- past 64 bits, by the sign
pub nearest-far : (text : List ℕ) (n : ℤ) (minus : Bool) → IsExact text n → 2 ^ 64 ≤ unsigned_abs n → is_minus text ≡ minus →
    Some (if minus then negsuc (2 ^ 63 - 1) else pos (2 ^ 63 - 1)) ≡ option_map clamped (whole_of text)
nearest-far text n minus h le e = nearest-read text n _ h (ap (λ (b : Bool). let z : ℤ = if b then negsuc (2 ^ 63 - 1) else pos (2 ^ 63 - 1) in z) (sym e) ∙ sym (clamped-far text n h (omega arith)))

-- whether the first byte is a minus
pub minus-first : (text : List ℕ) (first : Option (Bor ℕ)) (minus : Bor ℕ) → option_copied first ≡ slice_get text 0 → minus.now ≡ 45 →
    is_minus text ≡ option_eq (λ (x y : Bor ℕ). nat_eq x.now y.now) first (Some minus)
minus-first [] None minus h m = refl
minus-first [] (Some b) minus h m = cc
minus-first (x ∷ xs) None minus h m = cc
minus-first (x ∷ xs) (Some b) minus h m = let e : x ≡ b.now = cc in rw (e, m) refl
