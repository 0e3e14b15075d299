-- The rows that checked columns stand for.
use Rattle.std.specs.Prelude.{ℕ, zero, suc, List, [], ◌∷◌, ◌++◌, if◌then◌else◌, Option, length, unwrap_or, slice_get}
use Rattle.prof_tables.specs.declared.rows.FrameRow.{FrameRow}
use Rattle.prof_tables.specs.declared.rows.StackRow.{StackRow}
use Rattle.prof_tables.specs.declared.rows.SampleRow.{SampleRow}
use Rattle.prof_raw.specs.declared.raw.Unit.{Unit as WeightUnit}
use Rattle.prof_raw.specs.declared.raw.Unit.TheVariants as unit
use Rattle.prof_tables.specs.declared.markers.RawMarker.{RawMarker}
use Rattle.prof_raw.specs.Cells.{SharedCells, OwnCells, cell}
use Rattle.prof_tables.specs.Threads.{Func, MarkerRows, SharedTables, ThreadTables}
use Rattle.prof_tables.specs.Frames.{stack_after}
use Rattle.prof_raw.specs.CellValues.{index_of, index_or_none, truth_of, weight_in}
use Rattle.prof_raw.specs.Moments.{time_of}
use Rattle.prof_raw.specs.Checks.{resource_count}

-- so many rows, each by its number
abbrev pub rows_of : {A : Type 0} → (ℕ → A) → ℕ → List A
rows_of row zero = []
rows_of row (suc n) = rows_of row n ++ row n ∷ []

-- the place of a resource's name
abbrev pub resource_at : SharedCells → ℕ → ℕ
resource_at raw r = index_of (cell raw.resource_name r)

-- the resources
unfoldable pub resources_of : SharedCells → List ℕ
resources_of raw = rows_of (resource_at raw) (resource_count raw)

-- a function
abbrev pub func_at : SharedCells → ℕ → Func
func_at raw f = record {
  name = index_of (cell raw.func_name f);
  is_js = truth_of (cell raw.func_is_js f);
  relevant_for_js = truth_of (cell raw.func_relevant_for_js f);
  resource = index_or_none (cell raw.func_resource f);
  file = index_or_none (cell raw.func_file_name f);
}

-- the functions
unfoldable pub funcs_of : SharedCells → List Func
funcs_of raw = rows_of (func_at raw) (length raw.func_name.cells)

-- a frame
abbrev pub frame_at : SharedCells → ℕ → FrameRow
frame_at raw j = record {
  func = index_of (cell raw.frame_func j);
  category = index_or_none (cell raw.frame_category j);
}

-- the frames
unfoldable pub frames_of : SharedCells → List FrameRow
frames_of raw = rows_of (frame_at raw) (length raw.frame_func.cells)

-- the frames of the stack rows
abbrev pub stack_frame_at : SharedCells → ℕ → ℕ
stack_frame_at raw i = index_of (cell raw.stack_frame i)

-- the frame of each stack row
unfoldable pub stack_frames_of : SharedCells → List ℕ
stack_frames_of raw = rows_of (stack_frame_at raw) (length raw.stack_frame.cells)

-- the first so many stack rows, each by those before it
unfoldable pub stacks_below : ℕ → SharedCells → ℕ → List StackRow
stacks_below default raw zero = []
stacks_below default raw (suc n) =
    let rows = stacks_below default raw n in
    let prefix = index_or_none (cell raw.stack_prefix n) in
    rows ++ stack_after default rows prefix (frame_at raw (stack_frame_at raw n)) ∷ []

-- the stack rows
unfoldable pub stacks_of : ℕ → SharedCells → List StackRow
stacks_of default raw = stacks_below default raw (length raw.stack_frame.cells)

-- the tables that the columns stand for
abbrev pub shared_of : ℕ → ℕ → SharedCells → SharedTables
shared_of categories default raw = record {
  strings = raw.strings;
  resources = resources_of raw;
  funcs = funcs_of raw;
  frames = frames_of raw;
  stacks = stacks_of default raw;
  stack_frames = stack_frames_of raw;
  categories = categories;
  default = default;
}

-- a sample
abbrev pub sample_at : OwnCells → ℕ → SampleRow
sample_at raw k = record {
  stack = index_or_none (cell raw.sample_stack k);
  time = time_of raw.deltas raw.sample_time k;
  weight = weight_in raw.sample_weight.state raw.sample_weight.cells k;
}

-- the samples
unfoldable pub samples_of : OwnCells → List SampleRow
samples_of raw = rows_of (sample_at raw) (length raw.sample_stack.cells)

-- a row without a range has no texts
abbrev pub marker_at : OwnCells → ℕ → RawMarker
marker_at raw m = record {
  name = index_of (cell raw.marker_name m);
  phase = index_of (cell raw.marker_phase m);
  start = cell raw.marker_start m;
  end = cell raw.marker_end m;
  texts = unwrap_or (slice_get raw.marker_ranges m) (0, 0);
}

-- the markers, of which there are none without their table
unfoldable pub marker_rows_of : OwnCells → List RawMarker
marker_rows_of raw = if raw.has_markers then rows_of (marker_at raw) (length raw.marker_phase.cells) else []

-- and their texts
abbrev pub marker_texts_of : OwnCells → List (List ℕ)
marker_texts_of raw = if raw.has_markers then raw.marker_texts else []

-- the markers with their texts
abbrev pub markers_of : OwnCells → MarkerRows
markers_of raw = record { rows = marker_rows_of raw; texts = marker_texts_of raw }

-- the unit of the weights
abbrev pub unit_of : Option WeightUnit → WeightUnit
unit_of u = unwrap_or u unit.Samples

-- the thread that its own columns stand for, over the tables that it shares
abbrev pub thread_of : SharedTables → OwnCells → ThreadTables
thread_of shared raw = record {
  shared = shared;
  name = raw.name;
  unit = unit_of raw.unit;
  samples = samples_of raw;
  markers = markers_of raw;
}
