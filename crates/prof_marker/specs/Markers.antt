-- The markers of a thread: what its raw rows make, where an end closes the latest open start of its name
use Rattle.std.specs.Prelude.{ℕ, suc, ◌-◌, ℤ, Bool, true, false, ◌&&◌, ◌==◌, List, [], ◌∷◌, ◌++◌, length, map, Option, Some, None, slice_get, slice_set, slice_index_or, if◌then◌else◌}
use Rattle.std.specs.Int.{int_min, int_max}
use Rattle.std.specs.List.{fold}
use Rattle.std.specs.Option.{option_or, option_map, option_map_or}
use Rattle.std.specs.Str.{bytes_eq}
use Rattle.prof_tables.specs.declared.rows.SampleRow.{SampleRow}
use Rattle.prof_tables.specs.declared.markers.RawMarker.{RawMarker}
use Rattle.prof_tables.specs.Threads.{ThreadTables}
use Rattle.prof_marker.specs.declared.list.Marker.{Marker}
use Rattle.prof_raw.specs.CellValues.{number_of}

-- the text of a name, and whether two names have the same text
abbrev pub name_text : List (List ℕ) → ℕ → List ℕ
name_text strings n = slice_index_or strings n []

abbrev pub is_same_name : List (List ℕ) → ℕ → ℕ → Bool
is_same_name strings a b = bytes_eq (name_text strings a) (name_text strings b)

-- the times of the first and of the last sample row
abbrev pub first_time : List SampleRow → Option ℤ
first_time samples = option_map (λ (s : SampleRow). s.time) (slice_get samples 0)

abbrev pub last_time : List SampleRow → Option ℤ
last_time samples = option_map (λ (s : SampleRow). s.time) (slice_get samples (length samples - 1))

-- the marker of a row from one time to another
abbrev pub spanning : RawMarker → ℤ → ℤ → Marker
spanning m start end = record { name = m.name; start = start; end = end; texts = m.texts; more = (0, 0) }

-- a marker, and whether it is a start that no end has closed yet
pub record Draft : Type 0 where
  pub marker : Marker
  pub is_open : Bool

abbrev pub whole : Marker → Draft
whole m = record { marker = m; is_open = false }

-- a time that isn't there counts as 0; a thread that was built has each time that a row's phase needs.
-- An instant ends where it starts, and an interval has both its times. A start without an end ends at the last sample at
-- the earliest, and an end without a start begins at the first sample at the latest
abbrev pub instant : RawMarker → Draft
instant m = whole (spanning m (number_of m.start) (number_of m.start))

abbrev pub interval : RawMarker → Draft
interval m = whole (spanning m (number_of m.start) (number_of m.end))

abbrev pub unended : Option ℤ → RawMarker → Draft
unended last m =
    let own = number_of m.start in
    record { marker = spanning m own (option_map_or (int_max own) last own); is_open = true }

abbrev pub unstarted : Option ℤ → RawMarker → Draft
unstarted first m =
    let own = number_of m.end in
    whole (spanning m (option_map_or (int_min own) first own) own)

-- an open start of a name, and the start that an end closes
abbrev pub is_open_start : List (List ℕ) → ℕ → Draft → Bool
is_open_start strings name d = d.is_open && is_same_name strings name d.marker.name

abbrev pub closed_by : RawMarker → Draft → Draft
closed_by m d = whole (record d.marker { end = number_of m.end; more = m.texts })

-- the last place that passes a test
abbrev pub last_place : {A : Type 0} → (A → Bool) → List A → Option ℕ
last_place test [] = None
last_place test (x ∷ xs) = option_or (option_map suc (last_place test xs)) (if test x then Some 0 else None)

-- the drafts with the one at a place closed
abbrev pub closed_at : RawMarker → List Draft → ℕ → List Draft
closed_at m drafts k = option_map_or (λ d. slice_set drafts k (closed_by m d)) (slice_get drafts k) drafts

-- the drafts after one more row, by its phase: 0 is an instant, 1 an interval, 2 the start of an interval and 3 the end of
-- one, which closes the latest open start of its name
abbrev pub after_end : List (List ℕ) → Option ℤ → List Draft → RawMarker → List Draft
after_end strings first drafts m =
    option_map_or (closed_at m drafts) (last_place (is_open_start strings m.name) drafts) (drafts ++ unstarted first m ∷ [])

abbrev pub after_row : List (List ℕ) → Option ℤ → Option ℤ → List Draft → RawMarker → List Draft
after_row strings first last drafts m =
    if m.phase == 0 then drafts ++ instant m ∷ []
    else (if m.phase == 1 then drafts ++ interval m ∷ []
    else (if m.phase == 2 then drafts ++ unended last m ∷ []
    else after_end strings first drafts m))

abbrev pub drafts_of : List (List ℕ) → Option ℤ → Option ℤ → List RawMarker → List Draft
drafts_of strings first last rows = fold (after_row strings first last) [] rows

-- the markers of a thread, each at its row, or at its start's row
abbrev pub pair : ThreadTables → List Marker
pair t = map (λ (d : Draft). d.marker) (drafts_of t.shared.strings (first_time t.samples) (last_time t.samples) t.markers.rows)
