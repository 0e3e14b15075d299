-- What passed checks show of the columns.
use Rattle.std.specs.Prelude.{◌≡◌, ℕ, ◌<◌, ◌≤◌, None, IfSome, length}
use Rattle.prof_raw.specs.declared.column.CellKind.TheVariants as kind
use Rattle.prof_raw.specs.Cells.{SharedCells, OwnCells, cell}
use Rattle.prof_raw.specs.Rules.{cell_rule, minus_or_index_rule, range_rule}
use Rattle.prof_raw.specs.Checks.{resource_count}
use Rattle.prof_raw.specs.CellValues.{index_of, weight_in}
use Rattle.prof_raw.specs.Moments.{time_of, null_rule}
use Rattle.prof_raw.specs.declared.limits.TheConstants.{MOST_FUNCS, MOST_ROWS, MOST_SAMPLES, MOST_STRINGS}
use Rattle.prof_raw.specs.declared.moment.Moment.TheVariants.{Start, End}

-- each resource has the place of its name
pub record FitResources (raw : SharedCells) : Type 0 where
  pub few : resource_count raw ≤ MOST_FUNCS
  pub name : (r : ℕ) → r < resource_count raw →
      cell_rule (kind.Index (length raw.strings)) 0 (cell raw.resource_name r) ≡ None

-- each function has the place of its name, and a resource and a file where it has them
pub record FitFuncs (raw : SharedCells) : Type 0 where
  pub few : length raw.func_name.cells ≤ MOST_FUNCS
  pub name : (f : ℕ) → f < length raw.func_name.cells →
      cell_rule (kind.Index (length raw.strings)) 0 (cell raw.func_name f) ≡ None
  pub resource : (f : ℕ) → f < length raw.func_name.cells →
      IfSome (cell raw.func_resource f) (λ n. minus_or_index_rule (resource_count raw) n ≡ None)
  pub file : (f : ℕ) → f < length raw.func_name.cells →
      cell_rule (kind.MaybeIndex (length raw.strings)) 0 (cell raw.func_file_name f) ≡ None

-- each frame has its function, and a category where it has one
pub record FitFrames (categories : ℕ) (raw : SharedCells) : Type 0 where
  pub few : length raw.frame_func.cells ≤ MOST_ROWS
  pub func : (j : ℕ) → j < length raw.frame_func.cells →
      cell_rule (kind.Index (length raw.func_name.cells)) 0 (cell raw.frame_func j) ≡ None
  pub category : (j : ℕ) → j < length raw.frame_func.cells →
      cell_rule (kind.MaybeIndex categories) 0 (cell raw.frame_category j) ≡ None

-- each stack row has its frame, and a prefix before it where it has one
pub record FitStacks (raw : SharedCells) : Type 0 where
  pub few : length raw.stack_frame.cells ≤ MOST_ROWS
  pub frame : (i : ℕ) → i < length raw.stack_frame.cells →
      cell_rule (kind.Index (length raw.frame_func.cells)) 0 (cell raw.stack_frame i) ≡ None
  pub prefix : (i : ℕ) → i < length raw.stack_frame.cells →
      cell_rule kind.Prefix i (cell raw.stack_prefix i) ≡ None

-- the tables that threads may share
pub record FitShared (categories : ℕ) (raw : SharedCells) : Type 0 where
  pub strings : length raw.strings ≤ MOST_STRINGS
  pub resources : FitResources raw
  pub funcs : FitFuncs raw
  pub frames : FitFrames categories raw
  pub stacks : FitStacks raw

-- each sample has a stack row where it has one, and its time and its weight are in the range
pub record FitSamples (stacks : ℕ) (raw : OwnCells) : Type 0 where
  pub few : length raw.sample_stack.cells ≤ MOST_SAMPLES
  pub stack : (k : ℕ) → k < length raw.sample_stack.cells →
      cell_rule (kind.MaybeIndex stacks) 0 (cell raw.sample_stack k) ≡ None
  pub time : (k : ℕ) → k < length raw.sample_stack.cells →
      range_rule (time_of raw.deltas raw.sample_time k) ≡ None
  pub weight : (k : ℕ) → k < length raw.sample_stack.cells →
      range_rule (weight_in raw.sample_weight.state raw.sample_weight.cells k) ≡ None

-- each marker has its phase, the place of its name, and the times that its phase needs
pub record FitMarkers (strings : ℕ) (raw : OwnCells) : Type 0 where
  pub few : length raw.marker_phase.cells ≤ MOST_ROWS
  pub phase : (m : ℕ) → m < length raw.marker_phase.cells →
      cell_rule kind.Phase 0 (cell raw.marker_phase m) ≡ None
  pub name : (m : ℕ) → m < length raw.marker_phase.cells →
      cell_rule (kind.Index strings) 0 (cell raw.marker_name m) ≡ None
  pub start : (m : ℕ) → m < length raw.marker_phase.cells →
      cell_rule kind.MaybeNumber 0 (cell raw.marker_start m) ≡ None
  pub end : (m : ℕ) → m < length raw.marker_phase.cells →
      cell_rule kind.MaybeNumber 0 (cell raw.marker_end m) ≡ None
  pub has_start : (m : ℕ) → m < length raw.marker_phase.cells →
      null_rule Start (index_of (cell raw.marker_phase m)) (cell raw.marker_start m) ≡ None
  pub has_end : (m : ℕ) → m < length raw.marker_phase.cells →
      null_rule End (index_of (cell raw.marker_phase m)) (cell raw.marker_end m) ≡ None
