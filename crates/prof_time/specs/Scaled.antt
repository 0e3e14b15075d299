-- The value of a number's text, and the nearest whole number to it times a power of ten.
use Rattle.std.specs.Prelude.{◌≡◌, ℕ, ◌+◌, ◌-◌, ◌*◌, ◌^◌, ◌<◌, ◌≤◌, Bool, List, ◌++◌, length, fold, ℤ, pos, neg_ℤ, if◌then◌else◌}
use Rattle.prof_time.specs.Numeral.{Numeral, IsNumber}

-- the number that decimal digits write
abbrev pub digits_value : List ℕ → ℕ
digits_value ds = fold (λ n d. 10 * n + (d - 48)) 0 ds

-- The numeral's size times ten to the power d is `over m d / under m`.
unfoldable pub over : Numeral → ℕ → ℕ
over m d = digits_value (m.whole ++ m.fraction) * 10 ^ (d + (if m.down then 0 else digits_value m.exponent))

unfoldable pub under : Numeral → ℕ
under m = 10 ^ (length m.fraction + (if m.down then digits_value m.exponent else 0))

-- n is the whole number nearest to a / b, and of two the greater
pub record IsNearest (a b n : ℕ) : Type 0 where
  pub low : 2 * n * b ≤ 2 * a + b
  pub high : 2 * a + b < 2 * (n + 1) * b

abbrev pub signed : Bool → ℕ → ℤ
signed negative n = if negative then neg_ℤ (pos n) else pos n

-- z is the whole number nearest to the text's value times ten to the power d, ties away from zero
pub record IsScaled (text : List ℕ) (d : ℕ) (z : ℤ) : Type 0 where
  pub numeral : Numeral
  pub reads : IsNumber text numeral
  pub size : ℕ
  pub nearest : IsNearest (over numeral d) (under numeral) size
  pub is : z ≡ signed numeral.negative size

-- z is the text's value, which is a whole number
pub record IsExact (text : List ℕ) (z : ℤ) : Type 0 where
  pub numeral : Numeral
  pub reads : IsNumber text numeral
  pub size : ℕ
  pub exact : over numeral 0 ≡ size * under numeral
  pub is : z ≡ signed numeral.negative size
