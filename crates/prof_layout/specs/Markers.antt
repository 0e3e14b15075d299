-- The texts of markers, which stand in the objects of the column `data`.
use Rattle.std.specs.Prelude.{ℕ, ◌+◌, List, [], ◌∷◌, not, Option, Some, length}
use Rattle.std.specs.List.{filter, flat_map}
use Rattle.prof_grammar.specs.Value.{Value, Members, no_members, member, last_named, same_text}

-- the names of an object's members in the order in which each occurs first
abbrev pub names : Members → List (List ℕ)
names no_members = []
names (member n v ms) = n ∷ filter (λ other. not (same_text n other)) (names ms)

-- the text of a member that is a string
abbrev pub string_text : Option Value → List (List ℕ)
string_text (Some (Value.string text)) = text ∷ []
string_text _ = []

-- a marker's texts are its object's members in the order of their first occurrence, with their last values, that are strings
abbrev pub data_texts : Value → List (List ℕ)
data_texts (Value.object ms) = flat_map (λ n. string_text (last_named n ms)) (names ms)
data_texts _ = []

-- the texts of all rows behind one another
abbrev pub all_texts : List Value → List (List ℕ)
all_texts rows = flat_map data_texts rows

-- the range of each row in them, of rows whose first text stands at a place
abbrev pub ranges_from : ℕ → List Value → List (ℕ × ℕ)
ranges_from start [] = []
ranges_from start (v ∷ rows) = (start, start + length (data_texts v)) ∷ ranges_from (start + length (data_texts v)) rows
