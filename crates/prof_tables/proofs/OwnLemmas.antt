-- The thread that checked columns stand for keeps what each thread keeps.
use Rattle.std.proofs.Common.{◌≡◌, ℕ, ◌<◌, ◌≤◌, Bool, true, false, Option, None, Some, List, [], length, arith, refl}
use Rattle.std.specs.Prelude.{if◌then◌else◌, slice_get, unwrap_or}
use Rattle.std.specs.List.{All}
use Rattle.prof_tables.specs.declared.rows.SampleRow.{SampleRow}
use Rattle.prof_raw.specs.declared.raw.Unit.{Unit as WeightUnit}
use Rattle.prof_tables.specs.declared.markers.RawMarker.{RawMarker}
use Rattle.prof_raw.specs.Cells.{OwnCells, cell}
use Rattle.prof_raw.specs.CellValues.{index_of}
use Rattle.prof_raw.specs.Fits.{FitSamples, FitMarkers}
use Rattle.prof_raw.specs.declared.limits.TheConstants.{MOST_ROWS, MOST_SAMPLES}
use Rattle.prof_tables.specs.Rows.{rows_of, marker_at, samples_of, marker_rows_of, marker_texts_of, unit_of, thread_of}
use Rattle.prof_tables.specs.Threads.{SharedTables, ThreadTables, MarkerRows}
use Rattle.prof_tables.specs.Ties.{AreOwn, IsSample, IsMarker, IsPart}
use Rattle.prof_tables.proofs.RangeLemmas.{index-below, phase-below, maybe_in_range, start_there, end_there}
use Rattle.prof_tables.proofs.RowLemmas.{length-rows_of, all_rows, all_at}

-- a range of the columns, and that of a row without one
part_of : (count : ℕ) (ranges : List (ℕ × ℕ)) (m : ℕ) → All (IsPart count) ranges → IsPart count (unwrap_or (slice_get ranges m) (0, 0))
part_of count ranges m all = found (slice_get ranges m) refl
  where
    found : (o : Option (ℕ × ℕ)) → slice_get ranges m ≡ o → IsPart count (unwrap_or o (0, 0))
    found None at = (omega arith, omega arith)
    found (Some part) at = all_at (IsPart count) ranges m part all at

marker_tied : (strings : ℕ) (raw : OwnCells) (m : ℕ) → FitMarkers strings raw → All (IsPart (length raw.marker_texts)) raw.marker_ranges → m < length raw.marker_phase.cells →
    IsMarker strings (length raw.marker_texts) (marker_at raw m)
marker_tied strings raw m fit ranges lt = record {
  name = index-below strings (cell raw.marker_name m) (fit.name m lt);
  phase = phase-below (cell raw.marker_phase m) (fit.phase m lt);
  start = maybe_in_range (cell raw.marker_start m) (fit.start m lt);
  end = maybe_in_range (cell raw.marker_end m) (fit.end m lt);
  has_start = start_there (index_of (cell raw.marker_phase m)) (cell raw.marker_start m) (fit.has_start m lt);
  has_end = end_there (index_of (cell raw.marker_phase m)) (cell raw.marker_end m) (fit.has_end m lt);
  texts = part_of (length raw.marker_texts) raw.marker_ranges m ranges;
}

-- the markers, where their table is there or not
abbrev TiedMarkers : ℕ → OwnCells → Bool → Type 0
TiedMarkers strings raw there =
    (length (if there then rows_of (marker_at raw) (length raw.marker_phase.cells) else []) ≤ MOST_ROWS)
    × All (IsMarker strings (length (if there then raw.marker_texts else []))) (if there then rows_of (marker_at raw) (length raw.marker_phase.cells) else [])

tied_there : (strings : ℕ) (raw : OwnCells) (there : Bool) → (there ≡ true → FitMarkers strings raw) → All (IsPart (length raw.marker_texts)) raw.marker_ranges → TiedMarkers strings raw there
tied_there strings raw false fit ranges = (omega arith, λ k d lt. absurd (omega arith))
tied_there strings raw true fit ranges =
    let fits = fit refl in
    let few : length raw.marker_phase.cells ≤ MOST_ROWS = fits.few in
    let many = length-rows_of (marker_at raw) (length raw.marker_phase.cells) in
    (omega arith, all_rows (IsMarker strings (length raw.marker_texts)) (marker_at raw) (length raw.marker_phase.cells) (λ m lt. marker_tied strings raw m fits ranges lt))

markers_tied : (strings : ℕ) (raw : OwnCells) → (raw.has_markers ≡ true → FitMarkers strings raw) → All (IsPart (length raw.marker_texts)) raw.marker_ranges →
    (length (marker_rows_of raw) ≤ MOST_ROWS) × All (IsMarker strings (length (marker_texts_of raw))) (marker_rows_of raw)
unfolding marker_rows_of
markers_tied strings raw fit ranges = tied_there strings raw raw.has_markers fit ranges

pub own_tied : (strings stacks : ℕ) (shared : SharedTables) (raw : OwnCells) (name : List ℕ) (unit : WeightUnit) (samples : List SampleRow) (markers : MarkerRows) (rows : List RawMarker) (texts : List (List ℕ)) →
    strings ≡ length shared.strings → stacks ≡ length shared.stacks →
    markers ≡ (let m : MarkerRows = record { rows = rows; texts = texts } in m) → rows ≡ marker_rows_of raw → texts ≡ marker_texts_of raw →
    length samples ≡ length raw.sample_stack.cells → FitSamples stacks raw → All (IsSample stacks) samples →
    (raw.has_markers ≡ true → FitMarkers strings raw) → All (IsPart (length raw.marker_texts)) raw.marker_ranges →
    AreOwn (record { shared = shared; name = name; unit = unit; samples = samples; markers = markers })
own_tied strings stacks shared raw name unit samples markers rows texts ss st em er et many fit hs fits ranges =
    let most : length raw.sample_stack.cells ≤ MOST_SAMPLES = fit.few in
    let tied = markers_tied strings raw fits ranges in
    record {
      few_samples = omega arith;
      samples = rw (← st) hs;
      few_markers = rw (em, er) tied.0;
      markers = rw (em, er, et, ← ss) tied.1;
    }

pub same_thread : (shared : SharedTables) (raw : OwnCells) (name : List ℕ) (unit : WeightUnit) (samples : List SampleRow) (markers : MarkerRows) (rows : List RawMarker) (texts : List (List ℕ)) →
    markers ≡ (let m : MarkerRows = record { rows = rows; texts = texts } in m) → name ≡ raw.name → unit ≡ unit_of raw.unit → samples ≡ samples_of raw → rows ≡ marker_rows_of raw → texts ≡ marker_texts_of raw →
    (let t : ThreadTables = record { shared = shared; name = name; unit = unit; samples = samples; markers = markers } in t) ≡ thread_of shared raw
same_thread shared raw name unit samples markers rows texts em en eu es er et = rw (em, en, eu, es, er, et) refl
