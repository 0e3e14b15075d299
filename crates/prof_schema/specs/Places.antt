-- The places of columns, which the member `schema` of a table gives by their names.
use Rattle.std.specs.Prelude.{ℕ, ℤ, pos, negsuc, List, Bool, true, if◌then◌else◌, Option, None, Some, nat_le, is_some}
use Rattle.std.specs.List.{list_all}
use Rattle.std.specs.Option.{option_and_then}
use Rattle.prof_grammar.specs.Value.{Value, Members, last_named}
use Rattle.prof_layout.specs.Numbers.{whole_of}
use Rattle.prof_layout.specs.Markers.{names}
use Rattle.prof_layout.specs.Tables.{member_of}

-- a place is a whole number from 0 to 255
abbrev pub small_place : Option ℤ → Option ℕ
small_place (Some (pos n)) = if nat_le n 255 then Some n else None
small_place (Some (negsuc n)) = None
small_place None = None

-- the place that a value is
abbrev pub place_value : Value → Option ℕ
place_value (Value.number text) = small_place (whole_of text)
place_value _ = None

-- the place that a member of a schema gives, which is none where there is no such member
abbrev pub member_place : Option Value → Option ℕ
member_place member = option_and_then place_value member

-- the place of a column
abbrev pub place_of : List ℕ → Option Value → Option ℕ
place_of name schema = member_place (member_of schema name)

-- whether a member of the schema has a place
abbrev pub has_place : Members → List ℕ → Bool
has_place ms name = is_some (member_place (last_named name ms))

-- each member of the schema, known or not, has a place
abbrev pub are_places : Option Value → Bool
are_places (Some (Value.object ms)) = list_all (has_place ms) (names ms)
are_places _ = true
