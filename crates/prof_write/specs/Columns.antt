-- The cells of the columns of a thread's tables.
use Rattle.std.specs.Prelude.{ℕ, List, map}
use Rattle.prof_grammar.specs.Value.{Value, boolean}
use Rattle.prof_raw.specs.declared.raw.Unit.{Unit as WeightUnit}
use Rattle.prof_tables.specs.declared.rows.FrameRow.{FrameRow}
use Rattle.prof_tables.specs.declared.rows.StackRow.{StackRow}
use Rattle.prof_tables.specs.declared.rows.SampleRow.{SampleRow}
use Rattle.prof_tables.specs.declared.markers.RawMarker.{RawMarker}
use Rattle.prof_tables.specs.Threads.{Func, SharedTables}
use Rattle.prof_write.specs.declared.funcs.FuncColumn.{FuncColumn}
use Rattle.prof_write.specs.declared.funcs.FuncColumn.TheVariants as func
use Rattle.prof_write.specs.declared.frames.FrameColumn.{FrameColumn}
use Rattle.prof_write.specs.declared.frames.FrameColumn.TheVariants as frame
use Rattle.prof_write.specs.declared.stacks.StackColumn.{StackColumn}
use Rattle.prof_write.specs.declared.stacks.StackColumn.TheVariants as stack
use Rattle.prof_write.specs.declared.samples.SampleColumn.{SampleColumn}
use Rattle.prof_write.specs.declared.samples.SampleColumn.TheVariants as sample
use Rattle.prof_write.specs.declared.markers.MarkerColumn.{MarkerColumn}
use Rattle.prof_write.specs.declared.markers.MarkerColumn.TheVariants as marker
use Rattle.prof_write.specs.Cells.{data_value, index, maybe_index, maybe_time, resource_index, time, weight}
use Rattle.prof_write.specs.Written.{marker_texts}

abbrev pub func_cell : FuncColumn → Func → Value
func_cell func.Name f = index f.name
func_cell func.IsJs f = boolean f.is_js
func_cell func.RelevantForJs f = boolean f.relevant_for_js
func_cell func.Resource f = resource_index f.resource
func_cell func.FileName f = maybe_index f.file

abbrev pub frame_cell : FrameColumn → FrameRow → Value
frame_cell frame.Func f = index f.func
frame_cell frame.Category f = maybe_index f.category

-- the frames of the stack rows, or their prefixes
abbrev pub stack_cells : StackColumn → SharedTables → List Value
stack_cells stack.Frame t = map index t.stack_frames
stack_cells stack.Prefix t = map (λ (s : StackRow). maybe_index s.prefix) t.stacks

abbrev pub sample_cell : WeightUnit → SampleColumn → SampleRow → Value
sample_cell unit sample.Stack s = maybe_index s.stack
sample_cell unit sample.Time s = time s.time
sample_cell unit sample.Weight s = weight unit s.weight

abbrev pub marker_cell : MarkerColumn → RawMarker → Value
marker_cell marker.Phase m = index m.phase
marker_cell marker.Name m = index m.name
marker_cell marker.StartTime m = maybe_time m.start
marker_cell marker.EndTime m = maybe_time m.end

-- the texts of a marker, of all that there are
abbrev pub data_cell : List (List ℕ) → RawMarker → Value
data_cell texts m = data_value (marker_texts texts m)
