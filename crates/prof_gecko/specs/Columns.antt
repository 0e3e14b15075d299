-- The columns of a Gecko thread by their names, with its times moved.
use Rattle.std.specs.Prelude.{ℕ, ◌^◌, ◌-◌, ℤ, pos, negsuc, ◌+ℤ◌, ◌-ℤ◌, unsigned_abs, min, List, false, if◌then◌else◌, Option, Some, nat_le, map}
use Rattle.std.specs.Option.{option_map}
use Rattle.prof_raw.specs.declared.limits.TheConstants.{GREATEST}
use Rattle.prof_raw.specs.declared.raw.TableLength.TheVariants.{Unsaid}
use Rattle.prof_raw.specs.declared.raw.Unit.TheVariants as unit
use Rattle.prof_raw.specs.declared.rule.ListFault.{ListFault}
use Rattle.prof_raw.specs.Cells.{Cells, OwnCells}
use Rattle.prof_gecko.specs.declared.gathered.TableFault.{TableFault}
use Rattle.prof_gecko.specs.declared.shift.Shift.{Shift}
use Rattle.prof_gecko.specs.Gathered.{TableCells, GeckoCells, column_at, no_column}

-- the nearest number of 64 bits
abbrev pub nearest_64 : ℤ → ℤ
nearest_64 (pos n) = pos (min n (2 ^ 63 - 1))
nearest_64 (negsuc n) = negsuc (min n (2 ^ 63 - 1))

-- A time moved by a shift. One that is out of the range stays, and so breaks the rule of the range as it stands.
abbrev pub moved : ℤ → ℤ → ℤ
moved shift n = if nat_le (unsigned_abs n) GREATEST then nearest_64 (n +ℤ shift) else n

-- a column of times
abbrev pub moved_column : ℤ → Cells → Cells
moved_column shift c = record { state = c.state; cells = map (option_map (moved shift)) c.cells; bad = c.bad }

-- the times of a process are moved by its start less the root's
abbrev pub shift_of : Shift → ℤ
shift_of s = s.start -ℤ s.root

-- the columns of frames
pub record FrameCells : Type 0 where
  pub fault : Option TableFault
  pub location : Cells
  pub relevant_for_js : Cells
  pub category : Cells

abbrev pub frame_cells : TableCells → FrameCells
frame_cells t = record {
  fault = t.fault;
  location = column_at t 0;
  relevant_for_js = column_at t 1;
  category = column_at t 2;
}

-- the columns of stack rows
pub record StackCells : Type 0 where
  pub fault : Option TableFault
  pub frame : Cells
  pub prefix : Cells

abbrev pub stack_cells : TableCells → StackCells
stack_cells t = record { fault = t.fault; frame = column_at t 0; prefix = column_at t 1 }

-- samples and markers as those of a processed thread: each sample weighs 1
abbrev pub own_cells : ℤ → GeckoCells → OwnCells
own_cells shift g = record {
  name = g.name;
  sample_stack = column_at g.samples 0;
  sample_time = moved_column shift (column_at g.samples 1);
  deltas = false;
  unit = Some unit.Samples;
  sample_weight = no_column;
  sample_length = Unsaid;
  has_markers = g.has_markers;
  marker_phase = column_at g.markers 0;
  marker_name = column_at g.markers 1;
  marker_start = moved_column shift (column_at g.markers 2);
  marker_end = moved_column shift (column_at g.markers 3);
  marker_data = column_at g.markers 4;
  marker_length = Unsaid;
  marker_texts = g.marker_texts;
  marker_ranges = g.marker_ranges;
}

-- all columns of a thread
pub record ThreadParts : Type 0 where
  pub strings : List (List ℕ)
  pub string_fault : Option ListFault
  pub frames : FrameCells
  pub stacks : StackCells
  pub samples_fault : Option TableFault
  pub markers_fault : Option TableFault
  pub own : OwnCells

unfoldable pub parts_of : ℤ → GeckoCells → ThreadParts
parts_of shift g = record {
  strings = g.strings;
  string_fault = g.string_fault;
  frames = frame_cells g.frame;
  stacks = stack_cells g.stack;
  samples_fault = g.samples.fault;
  markers_fault = g.markers.fault;
  own = own_cells shift g;
}
