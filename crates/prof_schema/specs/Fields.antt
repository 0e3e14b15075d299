-- The fields of a marker's data.
use Rattle.std.specs.Prelude.{◌≡◌, ℕ, List, [], ◌∷◌, map, Option, Some, None, String, string_bytes}
use Rattle.std.specs.List.{flat_map}
use Rattle.std.specs.declared.alloc.Global.{Global}
use Rattle.prof_grammar.specs.Value.{Members, last_named}
use Rattle.prof_layout.specs.Markers.{names, string_text}
use Rattle.prof_schema.specs.declared.fields.MarkerFields.{MarkerFields}

-- the text of a field that is a string
abbrev pub field_text : Option (String Global) → List (List ℕ)
field_text None = []
field_text (Some text) = string_bytes text ∷ []

-- the members' names in the order in which each occurs first, with the texts of their last values
pub record AreFields (ms : Members) (f : MarkerFields) : Type 0 where
  pub entries : map {B = List ℕ × List (List ℕ)} (λ e. (string_bytes e.0, field_text e.1)) f.fields.entries ≡ map {B = List ℕ × List (List ℕ)} (λ n. (n, string_text (last_named n ms))) (names ms)

-- the texts of the fields that are strings, in the fields' order
abbrev pub field_texts : MarkerFields → List (List ℕ)
field_texts f = flat_map (λ e. field_text e.1) f.fields.entries
