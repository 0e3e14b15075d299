-- What is read of a whole text.
use Rattle.std.specs.Prelude.{◌≡◌, List, Option, Some, None, ⊤}
use Rattle.prof_grammar.specs.Reading.{finished}
use Rattle.prof_grammar.specs.Told.{Reading, tell, stop}
use Rattle.prof_grammar.specs.Value.{Value, flatten}

-- the value is all that is read, where the source tells its bytes
abbrev pub IsAll : Option Reading → Value → Type 0
IsAll None v = ⊤
IsAll (Some r) v = r ≡ tell (flatten v) (stop finished)
