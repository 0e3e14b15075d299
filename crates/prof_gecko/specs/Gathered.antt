-- What is gathered of a Gecko profile, as a caller sees it.
use Rattle.std.specs.Prelude.{ℕ, ℤ, List, [], ◌∷◌, ◌++◌, Bool, Option, None, Some, slice_index_or}
use Rattle.prof_raw.specs.declared.raw.State.TheVariants.{Absent}
use Rattle.prof_raw.specs.declared.rule.Rule.{Rule}
use Rattle.prof_raw.specs.declared.rule.ListFault.{ListFault}
use Rattle.prof_raw.specs.Cells.{Cells}
pub use Rattle.prof_gecko_names.specs.Libraries.{Lib}
use Rattle.prof_gecko.specs.declared.gathered.TableFault.{TableFault}

-- the columns of a table in their written order, and the first check of the table, its schema and its data that fails
pub record TableCells : Type 0 where
  pub fault : Option TableFault
  pub columns : List Cells

-- a column that isn't there
abbrev pub no_column : Cells
no_column = record { state = Absent; cells = []; bad = None }

-- the column of a number
abbrev pub column_at : TableCells → ℕ → Cells
column_at t i = slice_index_or t.columns i no_column

-- a thread
pub record GeckoCells : Type 0 where
  pub name : List ℕ
  pub strings : List (List ℕ)
  pub string_fault : Option ListFault
  pub frame : TableCells
  pub stack : TableCells
  pub samples : TableCells
  pub markers : TableCells
  pub has_markers : Bool
  pub marker_texts : List (List ℕ)
  pub marker_ranges : List (ℕ × ℕ)

-- a process by itself, without those below it
pub record ProcessCells : Type 0 where
  pub start : ℤ
  pub start_fault : Option Rule
  pub libs : List Lib
  pub libs_fault : Option ListFault
  pub threads : List GeckoCells
  pub threads_fault : Option ListFault

-- Processes in the order of their checks: each by itself, then those below it, and then the first check that their list
-- fails.
pub data Entry : Type 0 where
  process : ProcessCells → Entry
  fault : ListFault → Entry

-- the entries of several processes, one after another
abbrev pub joined : List (List Entry) → List Entry
joined [] = []
joined (es ∷ more) = es ++ joined more

-- the check that a list fails
abbrev pub fault_entries : Option ListFault → List Entry
fault_entries None = []
fault_entries (Some f) = fault f ∷ []

-- a process, with the entries of each one below it
abbrev pub entries_of : ProcessCells → List (List Entry) → Option ListFault → List Entry
entries_of p children children_fault = process p ∷ (joined children ++ fault_entries children_fault)

-- a profile
pub record ProfileCells : Type 0 where
  pub categories : List (List ℕ)
  pub default : ℕ
  pub category_fault : Option ListFault
  pub entries : List Entry
