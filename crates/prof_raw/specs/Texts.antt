-- Texts that stand in memory once: each place of the list has the number of an entry, and each entry has a text.
use Rattle.std.specs.Prelude.{◌≡◌, ℕ, List, [], ◌∷◌, ◌++◌, map, is_some, Option, Some, None, slice_get, position, if◌then◌else◌}
use Rattle.std.specs.Option.{option_map_or, option_or}
use Rattle.std.specs.Str.{bytes_eq}

-- the text of an entry
abbrev pub entry_text : {A : Type 0} → (A → List ℕ) → List A → ℕ → List ℕ
entry_text text entries e = option_map_or text (slice_get entries e) []

-- the texts of the places
abbrev pub texts_of : {A : Type 0} → (A → List ℕ) → List A → List ℕ → List (List ℕ)
texts_of text entries places = map (entry_text text entries) places

-- the first place of a text
abbrev pub first_place : List (List ℕ) → List ℕ → Option ℕ
first_place texts text = position (bytes_eq text) texts

-- the list with a text, which is appended where it has no place yet
abbrev pub with_text : List (List ℕ) → List ℕ → List (List ℕ)
with_text texts text = if is_some (first_place texts text) then texts else texts ++ text ∷ []

-- the place of q after a text was entered at a place: the one that it had, or that one
abbrev pub entered : Option ℕ → List ℕ → List ℕ → ℕ → Option ℕ
entered before q text place = option_or before (if bytes_eq q text then Some place else None)

-- more stand after these
abbrev pub IsPrefixOf : {A : Type 0} → List A → List A → Type 0
IsPrefixOf {A} xs ys = (more : List A) × (ys ≡ xs ++ more)
