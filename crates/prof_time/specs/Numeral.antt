-- The numbers of JSON texts (RFC 8259, section 6).
use Rattle.std.specs.Prelude.{◌≢◌, ℕ, Bool, true, false, List, [], ◌∷◌, ◌++◌, codes}
use Rattle.std.specs.Char.{IsAsciiDigit}
use Rattle.std.specs.List.{AllByRecursion}

abbrev pub AreDigits : List ℕ → Type 0
AreDigits text = AllByRecursion IsAsciiDigit text

-- one digit or more
pub data IsDigits : List ℕ → Type 0 where
  digits : {d : ℕ} {ds : List ℕ} → IsAsciiDigit d → AreDigits ds → IsDigits (d ∷ ds)

-- a number's sign, and the digits of its parts
pub record Numeral : Type 0 where
  pub negative : Bool
  pub whole : List ℕ
  pub fraction : List ℕ
  pub down : Bool
  pub exponent : List ℕ

pub data IsSign : List ℕ → Bool → Type 0 where
  no_sign : IsSign [] false
  minus : IsSign (codes "-") true

pub data IsInt : List ℕ → Type 0 where
  zero_int : IsInt (codes "0")
  int : {d : ℕ} {ds : List ℕ} → IsAsciiDigit d → d ≢ 48 → AreDigits ds → IsInt (d ∷ ds)

pub data IsFraction : List ℕ → List ℕ → Type 0 where
  no_fraction : IsFraction [] []
  fraction : {ds : List ℕ} → IsDigits ds → IsFraction (46 ∷ ds) ds

-- e or E
pub data IsE : ℕ → Type 0 where
  small : IsE 101
  capital : IsE 69

pub data IsExponentSign : List ℕ → Bool → Type 0 where
  none : IsExponentSign [] false
  plus : IsExponentSign (codes "+") false
  minus : IsExponentSign (codes "-") true

pub data IsExponent : List ℕ → Bool → List ℕ → Type 0 where
  no_exponent : IsExponent [] false []
  exponent : {e : ℕ} {s ds : List ℕ} {down : Bool} → IsE e → IsExponentSign s down → IsDigits ds → IsExponent (e ∷ s ++ ds) down ds

-- a sign, a whole part, a fraction, an exponent
pub data IsNumber : List ℕ → Numeral → Type 0 where
  number : {s w f fs e es : List ℕ} {negative down : Bool} → IsSign s negative → IsInt w → IsFraction f fs → IsExponent e down es →
      IsNumber (s ++ (w ++ (f ++ e))) (record { negative = negative; whole = w; fraction = fs; down = down; exponent = es })
