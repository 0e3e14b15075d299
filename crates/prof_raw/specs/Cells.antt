-- Gathered columns as a caller sees them.
use Rattle.std.specs.Prelude.{ℕ, ℤ, Bool, List, Option, None, slice_index_or}
use Rattle.prof_raw.specs.declared.raw.State.{State}
use Rattle.prof_raw.specs.declared.raw.State.TheVariants.{Absent, NotArray, Array}
use Rattle.prof_raw.specs.declared.raw.TableLength.{TableLength}
use Rattle.prof_raw.specs.declared.raw.Unit.{Unit as WeightUnit}
use Rattle.prof_raw.specs.declared.rule.BadCell.{BadCell}
use Rattle.prof_raw.specs.declared.rule.ListFault.{ListFault}

-- cells are null (None) or a number; the first cell of a wrong kind is null too, and `bad` names it
pub record Cells : Type 0 where
  pub state : State
  pub cells : List (Option ℤ)
  pub bad : Option BadCell

-- the cell of a row; null past the end
abbrev pub cell_at : List (Option ℤ) → ℕ → Option ℤ
cell_at cells row = slice_index_or cells row None

-- the cell of a column at a row, and null where the column is absent
abbrev pub cell_in : State → List (Option ℤ) → ℕ → Option ℤ
cell_in Absent cells row = None
cell_in NotArray cells row = None
cell_in Array cells row = cell_at cells row

-- the cell of a column at a row
abbrev pub cell : Cells → ℕ → Option ℤ
cell c row = cell_in c.state c.cells row

-- what is gathered of the tables that threads may share
pub record SharedCells : Type 0 where
  pub strings : List (List ℕ)
  pub string_fault : Option ListFault
  pub has_resources : Bool
  pub resource_name : Cells
  pub resource_length : TableLength
  pub func_name : Cells
  pub func_is_js : Cells
  pub func_relevant_for_js : Cells
  pub func_resource : Cells
  pub func_file_name : Cells
  pub func_length : TableLength
  pub frame_func : Cells
  pub frame_category : Cells
  pub frame_length : TableLength
  pub stack_frame : Cells
  pub stack_prefix : Cells
  pub stack_length : TableLength

-- a thread's own tables, its samples and its markers, with its name
pub record OwnCells : Type 0 where
  pub name : List ℕ
  pub sample_stack : Cells
  pub sample_time : Cells
  pub deltas : Bool
  pub unit : Option WeightUnit
  pub sample_weight : Cells
  pub sample_length : TableLength
  pub has_markers : Bool
  pub marker_phase : Cells
  pub marker_name : Cells
  pub marker_start : Cells
  pub marker_end : Cells
  pub marker_data : Cells
  pub marker_length : TableLength
  pub marker_texts : List (List ℕ)
  pub marker_ranges : List (ℕ × ℕ)

-- what is gathered of a thread that has all its tables
pub record ThreadCells : Type 0 where
  pub shared : SharedCells
  pub own : OwnCells
