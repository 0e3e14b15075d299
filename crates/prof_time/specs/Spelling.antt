-- The shortest text of a number of small units, as a decimal number without exponent.
use Rattle.std.specs.Prelude.{◌≡◌, ◌≢◌, ℕ, zero, suc, ◌+◌, ◌*◌, ◌/◌, ◌%◌, ◌^◌, ◌==◌, Bool, true, false, List, [], ◌∷◌, ◌++◌, codes, decimal, ℤ, pos, negsuc, unsigned_abs, if◌then◌else◌}
use Rattle.prof_time.specs.Numeral.{Numeral, IsNumber}
use Rattle.prof_time.specs.Scaled.{over, under}

abbrev pub is_below_zero : ℤ → Bool
is_below_zero (pos n) = false
is_below_zero (negsuc n) = true

-- The text is a number's without exponent, whose value times ten to the power d is z. No 0 ends its fraction, so that
-- an empty one has no point, and no minus stands before 0. That no 0 stands before another digit is JSON's own rule.
pub record IsSpelling (d : ℕ) (z : ℤ) (text : List ℕ) : Type 0 where
  pub numeral : Numeral
  pub reads : IsNumber text numeral
  pub plain : numeral.exponent ≡ []
  pub trimmed : (ds : List ℕ) → numeral.fraction ≢ ds ++ 48 ∷ []
  pub sign : numeral.negative ≡ is_below_zero z
  pub size : over numeral d ≡ unsigned_abs z * under numeral

abbrev pub sign_text : Bool → List ℕ
sign_text negative = if negative then codes "-" else []

-- the digits of r / 10^d behind the point, up to the last that isn't 0
abbrev pub fraction_digits : ℕ → ℕ → List ℕ
fraction_digits zero r = []
fraction_digits (suc d) r = if r == 0 then [] else ((48 + r / 10 ^ d) ∷ fraction_digits d (r % 10 ^ d))

-- a point before digits, and nothing where there are none
abbrev pub with_point : List ℕ → List ℕ
with_point [] = []
with_point (d ∷ ds) = 46 ∷ d ∷ ds

-- the spelling of z units, of which ten to the power d are one
unfoldable pub scaled_text : ℕ → ℤ → List ℕ
scaled_text d z = sign_text (is_below_zero z) ++ (decimal (unsigned_abs z / 10 ^ d) ++ with_point (fraction_digits d (unsigned_abs z % 10 ^ d)))
