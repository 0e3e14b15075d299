-- What is kept of a Gecko thread, by its value.
use Rattle.std.proofs.Common.{◌≡◌, ℕ, suc, ◌≤◌, ◌<◌, Option, None, Some, IfSome, List, length, take, map, refl, sym, ◌∙◌, ap, arith, subst}
use Rattle.std.specs.Prelude.{codes, ℤ, Bool, false}
use Rattle.std.specs.Option.{option_map}
use Rattle.std.proofs.lemmas.List.{take-map, length-map}
use Rattle.prof_raw.specs.declared.limits.TheConstants.{MOST_ROWS, MOST_SAMPLES, MOST_STRINGS}
use Rattle.prof_raw.specs.declared.raw.TableLength.TheVariants.{Unsaid}
use Rattle.prof_raw.specs.declared.raw.Unit.TheVariants as unit
use Rattle.prof_raw.specs.declared.rule.BadCell.{BadCell}
use Rattle.prof_raw.specs.Cells.{Cells, OwnCells}
use Rattle.prof_raw.proofs.FirstRowLemmas.{or_none}
use Rattle.prof_grammar.specs.Value.{Value, field, last_named}
use Rattle.prof_layout.specs.Columns.{Cell, cell_value, capped, IsGathered}
use Rattle.prof_layout.specs.Kept.{kept_samples, kept_markers, kept_texts}
use Rattle.prof_layout.specs.Lists.{items_of}
use Rattle.prof_layout.specs.Markers.{all_texts, ranges_from}
use Rattle.prof_layout.specs.Tables.{member_of}
use Rattle.prof_layout.proofs.Capped.{gathered_is}
use Rattle.prof_schema.specs.Placed.{cell_of, placed_cells, named_cells, details_at, read_placed, rows_in}
use Rattle.prof_schema.specs.Places.{place_of}
use Rattle.prof_schema.specs.declared.reading.PlacedReading.{PlacedReading}
use Rattle.prof_schema.specs.declared.reading.PlacedReading.TheVariants as placed
use Rattle.prof_gecko.specs.Gathered.{Lib, no_column}
use Rattle.prof_gecko.specs.Columns.{moved, moved_column, FrameCells, StackCells, frame_cells, stack_cells, own_cells, ThreadParts, parts_of}
use Rattle.prof_gecko.specs.Converted.{gecko_thread, thread_in}
use Rattle.prof_gecko.specs.Checks.{columns_broken, parts_broken, gecko_thread_broken}
use Rattle.prof_gecko_layout.specs.GeckoTables.{gecko_cells, frame_table, stack_table, sample_table, marker_table, details}
use Rattle.prof_processes.specs.Tables.{kept_table, details_in}
use Rattle.prof_processes.specs.Threads.{kept_cells}
use Rattle.prof_either.proofs.KeptParts.{PartsGathered, kept_frames, kept_stacks, kept_parts, parts_kept, parts_whole}

-- ---- columns

placed_is : (read : Value → Cell) (place : Option ℕ) (rows : List Value) → IsGathered (placed_cells read place rows)
placed_is read None rows = record { bad = tt; only = λ ne. refl }
placed_is read (Some p) rows = gathered_is (map (λ row. read (cell_of p row)) rows)

named_is : (read : Value → Cell) (table : Option Value) (name : List ℕ) → IsGathered (named_cells read table name)
named_is read table name = placed_is read (place_of name (member_of table (codes "schema"))) (rows_in table)

below_same : (bad : Option BadCell) (n m : ℕ) → n ≡ m → IfSome bad (λ b. b.row < n) → IfSome bad (λ b. b.row < m)
below_same bad n m e h = subst (λ k. IfSome bad (λ b. b.row < k)) e h

moved_is : (shift : ℤ) (c : Cells) → IsGathered c → IsGathered (moved_column shift c)
moved_is shift c h =
    let count : length (map (option_map (moved shift)) c.cells) ≡ length c.cells = length-map c.cells (option_map (moved shift)) in
    record {
      bad = below_same c.bad (length c.cells) (length (map (option_map (moved shift)) c.cells)) (sym count) h.bad;
      only = λ ne. count ∙ h.only ne;
    }

moved_capped : (shift : ℤ) (most : ℕ) (c : Cells) → moved_column shift (capped most c) ≡ capped most (moved_column shift c)
moved_capped shift most c = ap (λ (cells : List (Option ℤ)). let r : Cells = record { state = c.state; cells = cells; bad = (capped most c).bad } in r) (sym (take-map (option_map (moved shift)) (suc most) c.cells))

-- ---- details

at_taken : (place : Option ℕ) (n : ℕ) (rows : List Value) → details_at place (take (suc n) rows) ≡ take (suc n) (details_at place rows)
at_taken None n rows = refl
at_taken (Some p) n rows = sym (take-map (cell_of p) (suc n) rows)

details_taken : (member : Option Value) → details_in member ≡ take (suc MOST_ROWS) (details member)
details_taken None = refl
details_taken (Some Value.null) = refl
details_taken (Some (Value.boolean b)) = refl
details_taken (Some (Value.number text)) = refl
details_taken (Some (Value.string text)) = refl
details_taken (Some (Value.array vs)) = refl
details_taken (Some (Value.object ms)) = at_taken (place_of (codes "data") (last_named (codes "schema") ms)) MOST_ROWS (items_of (last_named (codes "data") ms))

at_few : (place : Option ℕ) (rows : List Value) → length (details_at place rows) ≤ length (placed_cells (read_placed placed.Any) place rows).cells
at_few None rows = omega arith
at_few (Some p) rows =
    let a = length-map rows (cell_of p) in
    let b = length-map rows (λ row. read_placed placed.Any (cell_of p row)) in
    let c = length-map (map (λ row. read_placed placed.Any (cell_of p row)) rows) cell_value in
    omega (arith, a, b, c)

-- ---- the columns of a thread

-- the details of its markers
abbrev pub marker_details : Value → List Value
marker_details v = details (field (codes "markers") v)

pub parts_gathered : (shift : ℤ) (v : Value) → PartsGathered (marker_details v) (parts_of shift (gecko_cells v))
unfolding parts_of gecko_cells frame_table stack_table sample_table marker_table
parts_gathered shift v =
    let frames = field (codes "frameTable") v in
    let stacks = field (codes "stackTable") v in
    let samples = field (codes "samples") v in
    let markers = field (codes "markers") v in
    record {
      frames = record {
        location = named_is (read_placed placed.Index) frames (codes "location");
        relevant = named_is (read_placed placed.True) frames (codes "relevantForJS");
        category = named_is (read_placed placed.MaybeIndex) frames (codes "category");
      };
      stacks = record {
        frame = named_is (read_placed placed.Index) stacks (codes "frame");
        prefix = named_is (read_placed placed.MaybeIndex) stacks (codes "prefix");
      };
      own = record {
        sample_stack = named_is (read_placed placed.MaybeIndex) samples (codes "stack");
        sample_time = moved_is shift (named_cells (read_placed placed.Time) samples (codes "time")) (named_is (read_placed placed.Time) samples (codes "time"));
        sample_weight = record { bad = tt; only = λ ne. refl };
        marker_phase = named_is (read_placed placed.Phase) markers (codes "phase");
        marker_name = named_is (read_placed placed.Index) markers (codes "name");
        marker_start = moved_is shift (named_cells (read_placed placed.MaybeTime) markers (codes "startTime")) (named_is (read_placed placed.MaybeTime) markers (codes "startTime"));
        marker_end = moved_is shift (named_cells (read_placed placed.MaybeTime) markers (codes "endTime")) (named_is (read_placed placed.MaybeTime) markers (codes "endTime"));
        marker_data = named_is (read_placed placed.Any) markers (codes "data");
      };
      texts = refl;
      ranges = refl;
      few = at_few (place_of (codes "data") (member_of markers (codes "schema"))) (rows_in markers);
    }

-- the own part of a thread, of its columns and details
unfoldable own_of : List ℕ → Cells → Cells → Bool → Cells → Cells → Cells → Cells → Cells → List Value → OwnCells
own_of name stack time there phase named start end data_ rows = record {
  name = name;
  sample_stack = stack;
  sample_time = time;
  deltas = false;
  unit = Some unit.Samples;
  sample_weight = no_column;
  sample_length = Unsaid;
  has_markers = there;
  marker_phase = phase;
  marker_name = named;
  marker_start = start;
  marker_end = end;
  marker_data = data_;
  marker_length = Unsaid;
  marker_texts = all_texts rows;
  marker_ranges = ranges_from 0 rows;
}

own_cut : (name : List ℕ) (stack time : Cells) (there : Bool) (phase named start end data_ : Cells) (rows : List Value) →
    own_of name (capped MOST_SAMPLES stack) (capped MOST_SAMPLES time) there (capped MOST_ROWS phase) (capped MOST_ROWS named) (capped MOST_ROWS start) (capped MOST_ROWS end) (capped MOST_ROWS data_) (take (suc MOST_ROWS) rows)
    ≡ kept_texts rows (kept_markers (kept_samples (own_of name stack time there phase named start end data_ rows)))
unfolding own_of kept_samples kept_markers kept_texts
own_cut name stack time there phase named start end data_ rows = refl

-- a column of the samples, and of the markers
abbrev of_samples : PlacedReading → List ℕ → Value → Cells
of_samples r name v = named_cells (read_placed r) (field (codes "samples") v) name

abbrev of_markers : PlacedReading → List ℕ → Value → Cells
of_markers r name v = named_cells (read_placed r) (field (codes "markers") v) name

own_kept_is : (shift : ℤ) (v : Value) → own_cells shift (kept_cells v) ≡
    own_of (gecko_cells v).name (capped MOST_SAMPLES (of_samples placed.MaybeIndex (codes "stack") v)) (moved_column shift (capped MOST_SAMPLES (of_samples placed.Time (codes "time") v))) (gecko_cells v).has_markers
    (capped MOST_ROWS (of_markers placed.Phase (codes "phase") v)) (capped MOST_ROWS (of_markers placed.Index (codes "name") v)) (moved_column shift (capped MOST_ROWS (of_markers placed.MaybeTime (codes "startTime") v)))
    (moved_column shift (capped MOST_ROWS (of_markers placed.MaybeTime (codes "endTime") v))) (capped MOST_ROWS (of_markers placed.Any (codes "data") v)) (details_in (field (codes "markers") v))
unfolding own_of kept_cells gecko_cells sample_table marker_table
own_kept_is shift v = refl

own_all_is : (shift : ℤ) (v : Value) → own_of (gecko_cells v).name (of_samples placed.MaybeIndex (codes "stack") v) (moved_column shift (of_samples placed.Time (codes "time") v)) (gecko_cells v).has_markers
    (of_markers placed.Phase (codes "phase") v) (of_markers placed.Index (codes "name") v) (moved_column shift (of_markers placed.MaybeTime (codes "startTime") v))
    (moved_column shift (of_markers placed.MaybeTime (codes "endTime") v)) (of_markers placed.Any (codes "data") v) (marker_details v) ≡ own_cells shift (gecko_cells v)
unfolding own_of gecko_cells sample_table marker_table
own_all_is shift v = refl

own_are : (shift : ℤ) (v : Value) → own_cells shift (kept_cells v) ≡ kept_texts (marker_details v) (kept_markers (kept_samples (own_cells shift (gecko_cells v))))
own_are shift v =
    let name = (gecko_cells v).name in
    let there = (gecko_cells v).has_markers in
    let stack = of_samples placed.MaybeIndex (codes "stack") v in
    let time = of_samples placed.Time (codes "time") v in
    let phase = of_markers placed.Phase (codes "phase") v in
    let named = of_markers placed.Index (codes "name") v in
    let start = of_markers placed.MaybeTime (codes "startTime") v in
    let end = of_markers placed.MaybeTime (codes "endTime") v in
    let data_ = of_markers placed.Any (codes "data") v in
    own_kept_is shift v
    ∙ ap (λ (c : Cells). own_of name (capped MOST_SAMPLES stack) c there (capped MOST_ROWS phase) (capped MOST_ROWS named) (moved_column shift (capped MOST_ROWS start)) (moved_column shift (capped MOST_ROWS end)) (capped MOST_ROWS data_) (details_in (field (codes "markers") v)))
    (moved_capped shift MOST_SAMPLES time)
    ∙ ap (λ (c : Cells). own_of name (capped MOST_SAMPLES stack) (capped MOST_SAMPLES (moved_column shift time)) there (capped MOST_ROWS phase) (capped MOST_ROWS named) c (moved_column shift (capped MOST_ROWS end)) (capped MOST_ROWS data_) (details_in (field (codes "markers") v)))
    (moved_capped shift MOST_ROWS start)
    ∙ ap (λ (c : Cells). own_of name (capped MOST_SAMPLES stack) (capped MOST_SAMPLES (moved_column shift time)) there (capped MOST_ROWS phase) (capped MOST_ROWS named) (capped MOST_ROWS (moved_column shift start)) c (capped MOST_ROWS data_) (details_in (field (codes "markers") v)))
    (moved_capped shift MOST_ROWS end)
    ∙ ap (λ (rows : List Value). own_of name (capped MOST_SAMPLES stack) (capped MOST_SAMPLES (moved_column shift time)) there (capped MOST_ROWS phase) (capped MOST_ROWS named) (capped MOST_ROWS (moved_column shift start)) (capped MOST_ROWS (moved_column shift end)) (capped MOST_ROWS data_) rows)
    (details_taken (field (codes "markers") v))
    ∙ own_cut name stack (moved_column shift time) there phase named (moved_column shift start) (moved_column shift end) data_ (marker_details v)
    ∙ ap (λ (o : OwnCells). kept_texts (marker_details v) (kept_markers (kept_samples o))) (own_all_is shift v)

frames_are : (member : Option Value) → frame_cells (kept_table MOST_ROWS (frame_table member)) ≡ kept_frames (frame_cells (frame_table member))
unfolding frame_table kept_frames
frames_are member = refl

stacks_are : (member : Option Value) → stack_cells (kept_table MOST_ROWS (stack_table member)) ≡ kept_stacks (stack_cells (stack_table member))
unfolding stack_table kept_stacks
stacks_are member = refl

-- all parts but three
unfoldable with_parts : Value → FrameCells → StackCells → OwnCells → ThreadParts
with_parts v frames stacks own = record {
  strings = take (suc MOST_STRINGS) (gecko_cells v).strings;
  string_fault = (gecko_cells v).string_fault;
  frames = frames;
  stacks = stacks;
  samples_fault = (gecko_cells v).samples.fault;
  markers_fault = (gecko_cells v).markers.fault;
  own = own;
}

parts_kept_are : (shift : ℤ) (v : Value) → parts_of shift (kept_cells v) ≡
    with_parts v (frame_cells (kept_table MOST_ROWS (frame_table (field (codes "frameTable") v)))) (stack_cells (kept_table MOST_ROWS (stack_table (field (codes "stackTable") v)))) (own_cells shift (kept_cells v))
unfolding parts_of with_parts kept_cells gecko_cells
parts_kept_are shift v = refl

parts_all_are : (shift : ℤ) (v : Value) →
    with_parts v (kept_frames (frame_cells (frame_table (field (codes "frameTable") v)))) (kept_stacks (stack_cells (stack_table (field (codes "stackTable") v))))
    (kept_texts (marker_details v) (kept_markers (kept_samples (own_cells shift (gecko_cells v))))) ≡ kept_parts (marker_details v) (parts_of shift (gecko_cells v))
unfolding parts_of with_parts gecko_cells
parts_all_are shift v = refl

pub parts_are : (shift : ℤ) (v : Value) → parts_of shift (kept_cells v) ≡ kept_parts (marker_details v) (parts_of shift (gecko_cells v))
parts_are shift v =
    let frames = field (codes "frameTable") v in
    let stacks = field (codes "stackTable") v in
    parts_kept_are shift v
    ∙ ap (λ (f : FrameCells). with_parts v f (stack_cells (kept_table MOST_ROWS (stack_table stacks))) (own_cells shift (kept_cells v))) (frames_are frames)
    ∙ ap (λ (s : StackCells). with_parts v (kept_frames (frame_cells (frame_table frames))) s (own_cells shift (kept_cells v))) (stacks_are stacks)
    ∙ ap (λ (o : OwnCells). with_parts v (kept_frames (frame_cells (frame_table frames))) (kept_stacks (stack_cells (stack_table stacks))) o) (own_are shift v)
    ∙ parts_all_are shift v

-- ---- the thread

pub thread_kept : (number categories : ℕ) (libs : List Lib) (shift : ℤ) (v : Value) → gecko_thread_broken number categories libs shift (kept_cells v) ≡ gecko_thread_broken number categories libs shift (gecko_cells v)
thread_kept number categories libs shift v =
    ap (parts_broken number categories libs) (parts_are shift v)
    ∙ parts_kept number categories libs (marker_details v) (parts_of shift (gecko_cells v)) (parts_gathered shift v)

columns_pass : (number categories : ℕ) (libs : List Lib) (p : ThreadParts) → parts_broken number categories libs p ≡ None → columns_broken (Some number) categories p ≡ None
unfolding parts_broken
columns_pass number categories libs p none = (or_none (columns_broken (Some number) categories p) _ none).0

pub thread_whole : (number categories default : ℕ) (libs : List Lib) (shift : ℤ) (v : Value) → gecko_thread_broken number categories libs shift (gecko_cells v) ≡ None →
    gecko_thread categories default libs shift (kept_cells v) ≡ gecko_thread categories default libs shift (gecko_cells v)
thread_whole number categories default libs shift v none =
    ap (thread_in categories default libs) (parts_are shift v)
    ∙ parts_whole number categories default libs (marker_details v) (parts_of shift (gecko_cells v)) (parts_gathered shift v) (columns_pass number categories libs (parts_of shift (gecko_cells v)) none)
