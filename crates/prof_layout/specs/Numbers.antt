-- What a number's text stands for.
use Rattle.std.specs.Prelude.{ℕ, ◌+◌, ◌*◌, ◌/◌, ◌%◌, ◌==◌, if◌then◌else◌, List, Option, Some, None, ℤ}
use Rattle.prof_time.specs.Numeral.{Numeral}
use Rattle.prof_time.specs.Scaled.{over, under, signed}
use Rattle.prof_time.specs.TakenApart.{numeral_of}

abbrev pub nearest_of : Numeral → ℕ → ℤ
nearest_of m d = signed m.negative ((2 * over m d + under m) / (2 * under m))

-- the whole number nearest to the text's value times ten to the power d, ties away from zero
unfoldable pub scaled_of : List ℕ → ℕ → ℤ
scaled_of text d = nearest_of (numeral_of text) d

abbrev pub whole_value : Numeral → Option ℤ
whole_value m = if over m 0 % under m == 0 then Some (signed m.negative (over m 0 / under m)) else None

-- the text's value where it is whole
unfoldable pub whole_of : List ℕ → Option ℤ
whole_of text = whole_value (numeral_of text)
