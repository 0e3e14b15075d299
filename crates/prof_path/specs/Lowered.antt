-- Terms that stand in lower case, and what is known of the strings of a thread
use Rattle.std.specs.Prelude.{◌≡◌, ℕ, Bool, false, ◌||◌, List, [], length, map, Option, Some, slice_get, slice_index_or, string_bytes}
use Rattle.std.specs.List.{list_any}
use Rattle.std.specs.Option.{option_map_or}
use Rattle.std.specs.Str.{str_to_ascii_lowercase}
use Rattle.prof_tables.specs.Threads.{SharedTables, func_name, file_name, resource_of, resource_name}
use Rattle.prof_path.specs.declared.seeking.Seeker.{Seeker}
use Rattle.prof_path.specs.Terms.{has_within}

-- whether one of them occurs in a text, whatever the case of the text's letters
abbrev pub has_lowered : List (List ℕ) → List ℕ → Bool
has_lowered terms text = list_any (λ term. has_within term (str_to_ascii_lowercase text)) terms

-- the string at a place
abbrev pub string_at : List (List ℕ) → ℕ → List ℕ
string_at strings n = slice_index_or strings n []

-- where it was looked whether some term occurs in a string, that is what stands there
pub record Knows (strings terms : List (List ℕ)) (known : List (Option Bool)) : Type 0 where
  pub many : length known ≡ length strings
  pub right : (n : ℕ) (b : Bool) → slice_get known n ≡ Some (Some b) → b ≡ has_lowered terms (string_at strings n)

-- the terms that are looked for, in lower case
abbrev pub sought : Seeker → List (List ℕ)
sought s = map string_bytes s.terms.items

abbrev pub IsReady : List (List ℕ) → Seeker → Type 0
IsReady strings s = Knows strings (sought s) s.known.items

-- whether one of them occurs in a function's name or in its file's, or in that of its resource
abbrev pub has_in_own : SharedTables → List (List ℕ) → ℕ → Bool
has_in_own t terms f = has_lowered terms (func_name t f) || option_map_or (has_lowered terms) (file_name t f) false

abbrev pub has_in_resource : SharedTables → List (List ℕ) → ℕ → Bool
has_in_resource t terms f = option_map_or (λ r. has_lowered terms (resource_name t r)) (resource_of t f) false
