-- What the parts of a number's text mean.
use Rattle.std.specs.Prelude.{◌≡◌, ℕ, ◌+◌, ◌^◌, false, List, [], ◌++◌, length, take, min, slice_index, nat_le, if◌then◌else◌}
use Rattle.prof_time.specs.Numeral.{Numeral}
use Rattle.prof_time.specs.Scaled.{digits_value}
use Rattle.prof_time.specs.declared.decimal.Decimal.{Decimal}
use Rattle.prof_time.specs.declared.short.Short.{Short}

abbrev pub digits_of : Decimal → List ℕ
digits_of d = d.whole.now ++ d.fraction.now

-- the parts are the numeral's, with an exponent of at most 2^100
pub record IsTakenApart (m : Numeral) (d : Decimal) : Type 0 where
  pub negative : d.negative ≡ m.negative
  pub whole : d.whole.now ≡ m.whole
  pub fraction : d.fraction.now ≡ m.fraction
  pub up : d.up ≡ (if m.down then 0 else min (digits_value m.exponent) (2 ^ 100))
  pub down : d.down ≡ length m.fraction + (if m.down then min (digits_value m.exponent) (2 ^ 100) else 0)

-- the numeral has no minus and no exponent, and its digits write the number
pub record IsPlain (m : Numeral) (s : Short) : Type 0 where
  pub negative : m.negative ≡ false
  pub down : m.down ≡ false
  pub exponent : m.exponent ≡ []
  pub value : s.value ≡ digits_value (m.whole ++ m.fraction)
  pub places : s.places ≡ length m.fraction

-- the first digits as a number, and one more where the digit behind them is 5 or greater
abbrev pub rounded_front : List ℕ → ℕ → ℕ
rounded_front ds len = digits_value (take len ds) + (if nat_le 53 (slice_index ds len) then 1 else 0)
