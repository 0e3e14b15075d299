-- Numbers, and their parts, as texts.
use Rattle.std.specs.Prelude.{◌≡◌, ℕ, Bool, List, ◌++◌}
use Rattle.prof_time.specs.Numeral.{Numeral, IsNumber, IsInt, IsFraction, IsExponent, IsExponentSign}

-- some numeral has this text
pub record IsNumeral (text : List ℕ) : Type 0 where
  pub numeral : Numeral
  pub reads : IsNumber text numeral

pub record IsFractionText (text : List ℕ) : Type 0 where
  pub digits : List ℕ
  pub reads : IsFraction text digits

pub record IsSignText (text : List ℕ) : Type 0 where
  pub down : Bool
  pub reads : IsExponentSign text down

pub record IsExponentText (text : List ℕ) : Type 0 where
  pub down : Bool
  pub digits : List ℕ
  pub reads : IsExponent text down digits

-- a whole part, a fraction and an exponent
pub record IsUnsigned (text : List ℕ) : Type 0 where
  pub whole : List ℕ
  pub fraction : List ℕ
  pub exponent : List ℕ
  pub is : text ≡ whole ++ (fraction ++ exponent)
  pub begins : IsInt whole
  pub goes_on : IsFractionText fraction
  pub ends : IsExponentText exponent

-- a number without a sign and without an exponent
pub record IsPlain (text : List ℕ) : Type 0 where
  pub whole : List ℕ
  pub fraction : List ℕ
  pub is : text ≡ whole ++ fraction
  pub begins : IsInt whole
  pub goes_on : IsFractionText fraction
