-- A thread, and the tables that threads may share, as plain lists.
use Rattle.std.specs.Prelude.{ℕ, ◌-◌, Bool, List, [], length, Option, Some, slice_get, slice_index_or}
use Rattle.std.specs.Option.{option_map_or, option_map, option_and_then}
use Rattle.prof_tables.specs.declared.rows.FrameRow.{FrameRow}
use Rattle.prof_tables.specs.declared.rows.StackRow.{StackRow}
use Rattle.prof_tables.specs.declared.rows.SampleRow.{SampleRow}
use Rattle.prof_raw.specs.declared.raw.Unit.{Unit as WeightUnit}
use Rattle.prof_tables.specs.declared.markers.RawMarker.{RawMarker}

-- a function: places of its name and file in the strings, its flags, its resource
pub record Func : Type 0 where
  pub name : ℕ
  pub is_js : Bool
  pub relevant_for_js : Bool
  pub resource : Option ℕ
  pub file : Option ℕ

-- the tables that threads may share; a resource is the place of its name, and each stack row has the number of its frame
pub record SharedTables : Type 0 where
  pub strings : List (List ℕ)
  pub resources : List ℕ
  pub funcs : List Func
  pub frames : List FrameRow
  pub stacks : List StackRow
  pub stack_frames : List ℕ
  pub categories : ℕ
  pub default : ℕ

-- the rows of the markers, and the texts that they have ranges of
pub record MarkerRows : Type 0 where
  pub rows : List RawMarker
  pub texts : List (List ℕ)

-- a thread: its own part, over tables that it may share
pub record ThreadTables : Type 0 where
  pub shared : SharedTables
  pub name : List ℕ
  pub unit : WeightUnit
  pub samples : List SampleRow
  pub markers : MarkerRows

-- the text at a place of the strings
abbrev pub text_at : SharedTables → ℕ → List ℕ
text_at t i = slice_index_or t.strings i []

-- the numbers from the functions' count on are the collapsed resources
abbrev pub resource_of : SharedTables → ℕ → Option ℕ
resource_of t f =
    option_map_or (λ (func : Func). func.resource) (slice_get t.funcs f) (Some (f - length t.funcs))

-- the name of a resource
abbrev pub resource_name : SharedTables → ℕ → List ℕ
resource_name t r = text_at t (slice_index_or t.resources r 0)

-- the name of a function, and of the resource of a collapsed one
abbrev pub func_name : SharedTables → ℕ → List ℕ
func_name t f = option_map_or
    (λ (func : Func). text_at t func.name) (slice_get t.funcs f) (resource_name t (f - length t.funcs))

-- the name of a function's file
abbrev pub file_name : SharedTables → ℕ → Option (List ℕ)
file_name t f = option_and_then (λ (func : Func). option_map (text_at t) func.file) (slice_get t.funcs f)
