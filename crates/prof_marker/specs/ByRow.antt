-- What each row becomes: which rows make a marker, and by which end a start is closed
use Rattle.std.specs.Prelude.{◌≡◌, ℕ, ◌+◌, ◌-◌, ℤ, Bool, ◌&&◌, ◌==◌, nat_lt, List, [], ◌∷◌, ◌++◌, Option, Some, None, if◌then◌else◌}
use Rattle.std.specs.List.{fold}
use Rattle.std.specs.Option.{option_map_or}
use Rattle.prof_tables.specs.declared.markers.RawMarker.{RawMarker}
use Rattle.prof_tables.specs.Threads.{ThreadTables}
use Rattle.prof_marker.specs.declared.list.Marker.{Marker}
use Rattle.prof_marker.specs.Markers.{is_same_name, first_time, last_time, instant, interval, unended, unstarted, closed_by, pair}

-- starts and ends of a name
abbrev pub is_start_of : List (List ℕ) → ℕ → RawMarker → Bool
is_start_of strings name m = m.phase == 2 && is_same_name strings name m.name

abbrev pub is_end_of : List (List ℕ) → ℕ → RawMarker → Bool
is_end_of strings name m = nat_lt 2 m.phase && is_same_name strings name m.name

-- how many starts of a name are open after one more row, and after these rows
abbrev pub next_open : List (List ℕ) → ℕ → ℕ → RawMarker → ℕ
next_open strings name count m = if is_start_of strings name m then count + 1 else (if is_end_of strings name m then count - 1 else count)

abbrev pub open_after : List (List ℕ) → List RawMarker → ℕ → ℕ
open_after strings rows name = fold (next_open strings name) 0 rows

-- the end that closes a start of a name, among the rows behind it, where so many later starts of the name are closed first
abbrev pub closing_end : List (List ℕ) → ℕ → ℕ → List RawMarker → Option RawMarker
closing_end strings name count [] = None
closing_end strings name count (m ∷ rows) =
    if is_end_of strings name m && count == 0 then Some m else closing_end strings name (next_open strings name count m) rows

-- the marker of a row that stands between others, if it makes one: an end makes one only where no start of its name is open
abbrev pub row_markers : List (List ℕ) → Option ℤ → Option ℤ → List RawMarker → RawMarker → List RawMarker → List Marker
row_markers strings first last before m after =
    if m.phase == 0 then (instant m).marker ∷ []
    else (if m.phase == 1 then (interval m).marker ∷ []
    else (if m.phase == 2 then option_map_or (λ e. (closed_by e (unended last m)).marker) (closing_end strings m.name 0 after) (unended last m).marker ∷ []
    else (if open_after strings before m.name == 0 then (unstarted first m).marker ∷ [] else [])))

abbrev pub rows_markers : List (List ℕ) → Option ℤ → Option ℤ → List RawMarker → List RawMarker → List Marker
rows_markers strings first last before [] = []
rows_markers strings first last before (m ∷ after) = row_markers strings first last before m after ++ rows_markers strings first last (before ++ m ∷ []) after

-- the markers of a thread are those of its rows
abbrev pub PairByRow : Type 0
PairByRow = (t : ThreadTables) → pair t ≡ rows_markers t.shared.strings (first_time t.samples) (last_time t.samples) [] t.markers.rows
