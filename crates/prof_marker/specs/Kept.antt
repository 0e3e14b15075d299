-- What is kept of the rows so far: the markers, which of them wait for an end, and where the latest of a name is found
use Rattle.std.specs.Prelude.{◌≡◌, ℕ, ◌<◌, Bool, true, false, List, [], ◌∷◌, length, take, Option, Some, None, slice_get}
use Rattle.std.specs.List.{All}
use Rattle.prof_raw.specs.Texts.{first_place}
use Rattle.prof_marker.specs.declared.list.Marker.{Marker}
use Rattle.prof_marker.specs.declared.drafts.Standing.{Standing}
use Rattle.prof_marker.specs.declared.drafts.Standing.TheVariants.{Whole, Waiting}
use Rattle.prof_marker.specs.declared.drafts.Drafts.{Drafts}
use Rattle.prof_marker.specs.Markers.{Draft, name_text, is_open_start, last_place}

-- whether a marker waits for its end, and the open start that it stands behind
abbrev pub is_waiting : Standing → Bool
is_waiting Whole = false
is_waiting (Waiting behind) = true

abbrev pub behind_of : Standing → Option ℕ
behind_of Whole = None
behind_of (Waiting behind) = behind

-- the drafts of which these are the markers
abbrev pub drafts_with : List Marker → List Standing → List Draft
drafts_with [] standings = []
drafts_with (m ∷ markers) [] = []
drafts_with (m ∷ markers) (s ∷ standings) = record { marker = m; is_open = is_waiting s } ∷ drafts_with markers standings

-- where the first place of a string's text was looked up, that is what stands there
abbrev pub AreFirsts : List (List ℕ) → List (Option ℕ) → Type 0
AreFirsts strings firsts = (n q : ℕ) → slice_get firsts n ≡ Some (Some q) → first_place strings (name_text strings n) ≡ Some q

-- an open start stands behind the latest open start of its name before it, and `newest` has that of each name, at the first
-- place of the name's text, which `known` has where it was looked up
pub record Keeps (strings : List (List ℕ)) (markers : List Marker) (standings : List Standing) (newest known : List (Option ℕ)) : Type 0 where
  pub many : length standings ≡ length markers
  pub named : All (λ (m : Marker). m.name < length strings) markers
  pub behind : (k : ℕ) (d : Draft) (b : Option ℕ) → slice_get (drafts_with markers standings) k ≡ Some d → slice_get standings k ≡ Some (Waiting b)
      → b ≡ last_place (is_open_start strings d.marker.name) (take k (drafts_with markers standings))
  pub latest_many : length newest ≡ length strings
  pub latest : (n q : ℕ) → n < length strings → first_place strings (name_text strings n) ≡ Some q
      → slice_get newest q ≡ Some (last_place (is_open_start strings n) (drafts_with markers standings))
  pub firsts_many : length known ≡ length strings
  pub firsts : AreFirsts strings known

abbrev pub IsKept : List (List ℕ) → Drafts → Type 0
IsKept strings d = Keeps strings d.markers.items d.standings.items d.latest.items d.firsts.items

abbrev pub drafts_in : Drafts → List Draft
drafts_in d = drafts_with d.markers.items d.standings.items
