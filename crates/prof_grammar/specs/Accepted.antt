-- Texts that are accepted.
use Rattle.std.specs.Prelude.{ℕ, List}
use Rattle.prof_grammar.specs.Reading.{IsReading, finished}
use Rattle.prof_grammar.specs.Value.{Value, flatten}
use Rattle.prof_grammar.specs.declared.TheConstants.{LONGEST}

-- the text is read whole, within the limits on its length and on its depth, and this is its value
abbrev pub IsAccepted : List ℕ → Value → Type 0
IsAccepted text v = IsReading LONGEST text (flatten v) finished
