-- What is gathered of the samples and the markers of a written thread.
use Rattle.std.proofs.Common.{◌≡◌, ℕ, ◌≤◌, List, Option, None, Some, length, refl, arith, true, false}
use Rattle.std.specs.Prelude.{ℤ, pos, map, slice_get}
use Rattle.prof_grammar.specs.Value.{Value, string}
use Rattle.prof_raw.specs.declared.raw.TableLength.TheVariants.{Unsaid}
use Rattle.prof_raw.specs.declared.raw.Unit.{Unit as WeightUnit}
use Rattle.prof_raw.specs.Cells.{Cells, OwnCells}
use Rattle.prof_tables.specs.declared.rows.SampleRow.{SampleRow}
use Rattle.prof_tables.specs.declared.markers.RawMarker.{RawMarker}
use Rattle.prof_tables.specs.Threads.{MarkerRows, ThreadTables}
use Rattle.prof_tables.specs.Ties.{IsMarker, AreTied, AreOwn}
use Rattle.prof_tables.proofs.RowLemmas.{all_at}
use Rattle.prof_layout.specs.declared.reading.Reading.TheVariants as reading
use Rattle.prof_layout.specs.Columns.{any_cell, column_of, read_cell}
use Rattle.prof_layout.specs.Lists.{items_of}
use Rattle.prof_layout.specs.Markers.{all_texts, ranges_from}
use Rattle.prof_layout.specs.Tables.{raw_own, weight_reading, weight_unit}
use Rattle.prof_write.specs.Cells.{column, data_value, index, maybe_index, maybe_time, time, weight, weight_type}
use Rattle.prof_write.specs.Written.{marker_texts, thread_value}
use Rattle.prof_back.specs.Gathered.{column_with}
use Rattle.prof_back.proofs.Cells.{index_back, maybe_time_back, phase_back, unit_back}
use Rattle.prof_back.proofs.Columns.{cells_back, items_back}
use Rattle.prof_back.proofs.Samples.{moments_back, stack_told, stacks_back, time_told, weight_told, weights_back}

-- ---- what a marker tells

abbrev pub phase_told : RawMarker → Option ℤ
phase_told m = Some (pos m.phase)

abbrev pub marker_name_told : RawMarker → Option ℤ
marker_name_told m = Some (pos m.name)

abbrev pub start_told : RawMarker → Option ℤ
start_told m = m.start

abbrev pub end_told : RawMarker → Option ℤ
end_told m = m.end

abbrev pub data_told : RawMarker → Option ℤ
data_told m = None

-- the objects with the texts
abbrev pub data_rows : MarkerRows → List Value
data_rows t = map (λ (m : RawMarker). data_value (marker_texts t.texts m)) t.rows

-- ---- the tables

abbrev own_with : List ℕ → Option WeightUnit → Cells → Cells → Cells → Cells → Cells → Cells → Cells → Cells → List Value → OwnCells
own_with name unit stacks times weights phases names starts ends details values = record {
  name = name;
  sample_stack = stacks;
  sample_time = times;
  deltas = false;
  unit = unit;
  sample_weight = weights;
  sample_length = Unsaid;
  has_markers = true;
  marker_phase = phases;
  marker_name = names;
  marker_start = starts;
  marker_end = ends;
  marker_data = details;
  marker_length = Unsaid;
  marker_texts = all_texts values;
  marker_ranges = ranges_from 0 values;
}

abbrev pub own_told : ThreadTables → OwnCells
own_told t = own_with t.name (Some t.unit)
    (column_with (map stack_told t.samples))
    (column_with (map time_told t.samples))
    (column_with (map weight_told t.samples))
    (column_with (map phase_told t.markers.rows))
    (column_with (map marker_name_told t.markers.rows))
    (column_with (map start_told t.markers.rows))
    (column_with (map end_told t.markers.rows))
    (column_with (map data_told t.markers.rows))
    (data_rows t.markers)

same_own : (name : List ℕ) (u u' : Option WeightUnit) (a a' b b' c c' d d' e e' f f' g g' h h' : Cells) (v v' : List Value) →
    u ≡ u' → a ≡ a' → b ≡ b' → c ≡ c' → d ≡ d' → e ≡ e' → f ≡ f' → g ≡ g' → h ≡ h' → v ≡ v' →
    own_with name u a b c d e f g h v ≡ own_with name u' a' b' c' d' e' f' g' h' v'
same_own name u u' a a' b b' c c' d d' e e' f f' g g' h h' v v' p r1 r2 r3 r4 r5 r6 r7 r8 q =
    rw (p, r1, r2, r3, r4, r5, r6, r7, r8, q) refl

-- ---- the columns

pub marker_within : (t : ThreadTables) → AreOwn t → (i : ℕ) (m : RawMarker) → slice_get t.markers.rows i ≡ Some m → IsMarker (length t.shared.strings) (length t.markers.texts) m
marker_within t own i m e = all_at (IsMarker (length t.shared.strings) (length t.markers.texts)) t.markers.rows i m own.markers e

phases_gathered : (t : ThreadTables) → AreOwn t → column_of (read_cell reading.Phase) true (Some (column (λ (m : RawMarker). index m.phase) t.markers.rows)) ≡ column_with (map phase_told t.markers.rows)
phases_gathered t own =
    cells_back (read_cell reading.Phase) true (λ (m : RawMarker). index m.phase) phase_told t.markers.rows (λ i m e. let is = (marker_within t own i m e).phase in phase_back m.phase (omega arith))

names_gathered : (t : ThreadTables) → AreTied t.shared → AreOwn t →
    column_of (read_cell reading.Index) true (Some (column (λ (m : RawMarker). index m.name) t.markers.rows)) ≡ column_with (map marker_name_told t.markers.rows)
names_gathered t tied own =
    let few : length t.shared.strings ≤ 4194304 = tied.few_strings in
    cells_back (read_cell reading.Index) true (λ (m : RawMarker). index m.name) marker_name_told t.markers.rows (λ i m e. let is = (marker_within t own i m e).name in index_back m.name (omega arith))

starts_gathered : (t : ThreadTables) → AreOwn t → column_of (read_cell reading.MaybeTime) true (Some (column (λ (m : RawMarker). maybe_time m.start) t.markers.rows)) ≡ column_with (map start_told t.markers.rows)
starts_gathered t own =
    cells_back (read_cell reading.MaybeTime) true (λ (m : RawMarker). maybe_time m.start) start_told t.markers.rows (λ i m e. maybe_time_back m.start (marker_within t own i m e).start)

ends_gathered : (t : ThreadTables) → AreOwn t → column_of (read_cell reading.MaybeTime) true (Some (column (λ (m : RawMarker). maybe_time m.end) t.markers.rows)) ≡ column_with (map end_told t.markers.rows)
ends_gathered t own =
    cells_back (read_cell reading.MaybeTime) true (λ (m : RawMarker). maybe_time m.end) end_told t.markers.rows (λ i m e. maybe_time_back m.end (marker_within t own i m e).end)

data_gathered : (t : MarkerRows) → column_of any_cell false (Some (column (λ (m : RawMarker). data_value (marker_texts t.texts m)) t.rows)) ≡ column_with (map data_told t.rows)
data_gathered t = cells_back any_cell false (λ (m : RawMarker). data_value (marker_texts t.texts m)) data_told t.rows (λ i m e. refl)

pub own_raw : (t : ThreadTables) → AreTied t.shared → AreOwn t → raw_own (thread_value t) ≡ own_told t
unfolding raw_own
own_raw t tied own =
    let samples : List SampleRow = t.samples in
    let rows : List RawMarker = t.markers.rows in
    let details : Option Value = Some (column (λ (m : RawMarker). data_value (marker_texts t.markers.texts m)) rows) in
    same_own t.name (weight_unit (Some (string (weight_type t.unit)))) (Some t.unit)
    (column_of (read_cell reading.MaybeIndex) true (Some (column (λ (s : SampleRow). maybe_index s.stack) samples))) (column_with (map stack_told samples))
    (column_of (read_cell reading.Time) false (Some (column (λ (s : SampleRow). time s.time) samples))) (column_with (map time_told samples))
    (column_of (read_cell (weight_reading (weight_unit (Some (string (weight_type t.unit)))))) false (Some (column (λ (s : SampleRow). weight t.unit s.weight) samples))) (column_with (map weight_told samples))
    (column_of (read_cell reading.Phase) true (Some (column (λ (m : RawMarker). index m.phase) rows))) (column_with (map phase_told rows))
    (column_of (read_cell reading.Index) true (Some (column (λ (m : RawMarker). index m.name) rows))) (column_with (map marker_name_told rows))
    (column_of (read_cell reading.MaybeTime) true (Some (column (λ (m : RawMarker). maybe_time m.start) rows))) (column_with (map start_told rows))
    (column_of (read_cell reading.MaybeTime) true (Some (column (λ (m : RawMarker). maybe_time m.end) rows))) (column_with (map end_told rows))
    (column_of any_cell false details) (column_with (map data_told rows))
    (items_of details) (data_rows t.markers)
    (unit_back t.unit) (stacks_back t tied own) (moments_back t own) (weights_back t own) (phases_gathered t own) (names_gathered t tied own)
    (starts_gathered t own) (ends_gathered t own) (data_gathered t.markers) (items_back (data_rows t.markers))
