-- The texts of events.
use Rattle.std.specs.Prelude.{IsUtf8, ⊤}
use Rattle.prof_time.specs.Numeral.{Numeral, IsNumber}
use Rattle.prof_grammar.specs.Event.{Event, object_start, object_end, array_start, array_end, name, str, number, truth, null}

-- a name and a string are UTF-8, and a number's text is one of JSON
abbrev pub IsWellTold : Event → Type 0
IsWellTold (name s) = IsUtf8 s
IsWellTold (str s) = IsUtf8 s
IsWellTold (number t) = (m : Numeral) × IsNumber t m
IsWellTold object_start = ⊤
IsWellTold object_end = ⊤
IsWellTold array_start = ⊤
IsWellTold array_end = ⊤
IsWellTold (truth b) = ⊤
IsWellTold null = ⊤
