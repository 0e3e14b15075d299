-- The cells of numbers, by what is read of their texts.
use Rattle.std.proofs.Common.{◌≡◌, ℕ, zero, suc, ◌-◌, ◌^◌, ◌<◌, ◌≤◌, Option, None, Some, Ok, Err, List, Bool, true, false, refl, sym, ◌∙◌, ap, arith}
use Rattle.std.specs.Prelude.{ℤ, pos, negsuc, unsigned_abs, nat_le, nat_lt, if◌then◌else◌}
use Rattle.std.proofs.lemmas.Bool.Decides.{nat_tests}
use Rattle.prof_time.specs.Numeral.{Numeral, IsNumber}
use Rattle.prof_time.specs.Scaled.{IsScaled, IsExact, signed}
use Rattle.prof_time.specs.TakenApart.{numeral_of, is_minus}
use Rattle.prof_time.proofs.Readings.{reading_is}
use Rattle.prof_time.proofs.Bridges.{signed_size}
use Rattle.prof_grammar.specs.Value.{Value}
use Rattle.prof_raw.specs.declared.rule.Rule.{Rule}
use Rattle.prof_raw.specs.declared.rule.Rule.TheVariants as rule
use Rattle.prof_raw.specs.declared.raw.TableLength.TheVariants.{Whole, Other}
use Rattle.prof_raw.specs.declared.limits.TheConstants.{GREATEST}
use Rattle.prof_layout.specs.Numbers.{scaled_of, whole_of}
use Rattle.prof_layout.specs.Columns.{clamped, whole_cell, scaled_cell}
use Rattle.prof_layout.specs.Tables.{whole_length, said_by}
use Rattle.prof_layout.proofs.Numbers.{scaled_one, whole_is, whole_exact}

-- the text's number is in the range
pub scaled-within : (text : List ℕ) (d : ℕ) (n : ℤ) → IsScaled text d n → unsigned_abs n ≤ GREATEST → scaled_cell (scaled_of text d) ≡ Ok (Some n)
scaled-within text d n h le =
    let test : nat_le (unsigned_abs n) GREATEST ≡ true = grind (arith, nat_tests) in
    ap scaled_cell (sym (scaled_one text d n h)) ∙ rw test refl

pub scaled-out : (text : List ℕ) (d : ℕ) (n : ℤ) → IsScaled text d n → GREATEST < unsigned_abs n → scaled_cell (scaled_of text d) ≡ Err rule.NumberRange
scaled-out text d n h lt =
    let test : nat_le (unsigned_abs n) GREATEST ≡ false = grind (arith, nat_tests) in
    ap scaled_cell (sym (scaled_one text d n h)) ∙ rw test refl

-- the text's number is whole
pub whole-read : (text : List ℕ) (broken : Rule) (n : ℤ) → IsExact text n → whole_cell broken (whole_of text) ≡ Ok (Some (clamped n))
whole-read text broken n h = ap (whole_cell broken) (whole_is text n h)

none-whole : (text : List ℕ) (m : Numeral) (o : Option ℤ) → whole_of text ≡ o → IsNumber text m → ((n : ℤ) → IsExact text n → ⊥) → o ≡ None
none-whole text m None e h none = refl
none-whole text m (Some n) e h none = absurd (none n (whole_exact text m n h e))

pub whole-none : (text : List ℕ) (m : Numeral) → IsNumber text m → ((n : ℤ) → IsExact text n → ⊥) → whole_of text ≡ None
whole-none text m h none = none-whole text m (whole_of text) refl h none

-- it isn't
pub whole-broken : (text : List ℕ) (m : Numeral) (broken : Rule) → IsNumber text m → ((n : ℤ) → IsExact text n → ⊥) → whole_cell broken (whole_of text) ≡ Err broken
whole-broken text m broken h none = ap (whole_cell broken) (whole-none text m h none)

-- a number reads a minus exactly where its text begins with one
minus-is : (text : List ℕ) (m : Numeral) → IsNumber text m → m.negative ≡ is_minus text
unfolding numeral_of
minus-is text m h = ap (λ (n : Numeral). n.negative) (sym (reading_is text m h))

clamped-great : (negative : Bool) (size : ℕ) → 2 ^ 63 ≤ size → clamped (signed negative size) ≡ (if negative then negsuc (2 ^ 63 - 1) else pos (2 ^ 63 - 1))
clamped-great false size le = ap pos (omega arith)
clamped-great true zero le = absurd (omega arith)
clamped-great true (suc n) le = ap negsuc (omega arith)

-- a whole number past 64 bits stands as the one of its sign that is farthest from 0
pub clamped-far : (text : List ℕ) (n : ℤ) → IsExact text n → 2 ^ 63 ≤ unsigned_abs n → clamped n ≡ (if is_minus text then negsuc (2 ^ 63 - 1) else pos (2 ^ 63 - 1))
clamped-far text n h le =
    let size : unsigned_abs n ≡ h.size = ap unsigned_abs h.is ∙ signed_size h.numeral.negative h.size in
    ap clamped h.is ∙ clamped-great h.numeral.negative h.size (omega arith) ∙ ap (λ (b : Bool). let z : ℤ = if b then negsuc (2 ^ 63 - 1) else pos (2 ^ 63 - 1) in z) (minus-is text h.numeral h.reads)

-- the said number of rows
pub length-whole : (text : List ℕ) (n : ℤ) → IsExact text n → unsigned_abs n < 2 ^ 64 → said_by (Some (Value.number text)) ≡ Whole n
length-whole text n h lt =
    let test : nat_lt (unsigned_abs n) (2 ^ 64) ≡ true = grind (arith, nat_tests) in
    ap whole_length (whole_is text n h) ∙ rw test refl

length-by : (text : List ℕ) (m : Numeral) (o : Option ℤ) → whole_of text ≡ o → IsNumber text m → ((n : ℤ) → IsExact text n → 2 ^ 64 ≤ unsigned_abs n) → whole_length o ≡ Other
length-by text m None e h far = refl
length-by text m (Some n) e h far =
    let le : 2 ^ 64 ≤ unsigned_abs n = far n (whole_exact text m n h e) in
    let test : nat_lt (unsigned_abs n) (2 ^ 64) ≡ false = grind (arith, nat_tests) in
    rw test refl

pub length-other : (text : List ℕ) (m : Numeral) → IsNumber text m → ((n : ℤ) → IsExact text n → 2 ^ 64 ≤ unsigned_abs n) → said_by (Some (Value.number text)) ≡ Other
length-other text m h far = length-by text m (whole_of text) refl h far
