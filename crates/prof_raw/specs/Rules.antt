-- What breaks in a cell, a row and a column, and the first such row.
use Rattle.std.specs.Prelude.{ℕ, zero, suc, ℤ, pos, negsuc, List, Bool, if◌then◌else◌, Option, None, Some, nat_eq, nat_lt, nat_le, length, is_none}
use Rattle.std.specs.Option.{option_or, option_map}
use Rattle.prof_raw.specs.declared.column.CellKind.{CellKind}
use Rattle.prof_raw.specs.declared.column.CellKind.TheVariants as kind
use Rattle.prof_raw.specs.declared.column.Size.{Size}
use Rattle.prof_raw.specs.declared.column.Size.TheVariants.{AtMost, Same}
use Rattle.prof_raw.specs.declared.raw.State.{State}
use Rattle.prof_raw.specs.declared.raw.State.TheVariants.{Absent, NotArray, Array}
use Rattle.prof_raw.specs.declared.rule.Rule.{Rule}
use Rattle.prof_raw.specs.declared.rule.Rule.TheVariants as rule
use Rattle.prof_raw.specs.declared.rule.BadCell.{BadCell}
use Rattle.prof_raw.specs.declared.rule.ListFault.{ListFault}
use Rattle.prof_raw.specs.declared.limits.TheConstants.{GREATEST}
use Rattle.prof_raw.specs.Cells.{Cells, cell_at}

-- an index below a limit
abbrev pub index_rule : ℕ → ℤ → Option Rule
index_rule limit (pos n) = if nat_lt n limit then None else Some rule.IndexOut
index_rule limit (negsuc n) = Some rule.IndexOut

-- -1 stands for none
abbrev pub minus_or_index_rule : ℕ → ℤ → Option Rule
minus_or_index_rule limit (pos n) = index_rule limit (pos n)
minus_or_index_rule limit (negsuc zero) = None
minus_or_index_rule limit (negsuc (suc n)) = Some rule.IndexOut

-- a row before its own
abbrev pub prefix_rule : ℕ → ℤ → Option Rule
prefix_rule row (pos n) = if nat_lt n row then None else Some rule.PrefixOrder
prefix_rule row (negsuc n) = Some rule.IndexOut

-- a time or a weight
abbrev pub range_rule : ℤ → Option Rule
range_rule (pos n) = if nat_le n GREATEST then None else Some rule.NumberRange
range_rule (negsuc n) = if nat_lt n GREATEST then None else Some rule.NumberRange

-- one of the four phases
abbrev pub phase_rule : ℤ → Option Rule
phase_rule (pos n) = if nat_lt n 4 then None else Some rule.Phase
phase_rule (negsuc n) = Some rule.Phase

-- what a cell breaks at its row
abbrev pub cell_rule : CellKind → ℕ → Option ℤ → Option Rule
cell_rule (kind.Index limit) row None = Some rule.WrongKind
cell_rule (kind.Index limit) row (Some n) = index_rule limit n
cell_rule (kind.MaybeIndex limit) row None = None
cell_rule (kind.MaybeIndex limit) row (Some n) = index_rule limit n
cell_rule (kind.MinusOrIndex limit) row None = Some rule.WrongKind
cell_rule (kind.MinusOrIndex limit) row (Some n) = minus_or_index_rule limit n
cell_rule kind.Truth row cell = None
cell_rule kind.Any row cell = None
cell_rule kind.Prefix row None = None
cell_rule kind.Prefix row (Some n) = prefix_rule row n
cell_rule kind.Number row None = Some rule.WrongKind
cell_rule kind.Number row (Some n) = range_rule n
cell_rule kind.MaybeNumber row None = None
cell_rule kind.MaybeNumber row (Some n) = range_rule n
cell_rule kind.Phase row None = Some rule.WrongKind
cell_rule kind.Phase row (Some n) = phase_rule n

-- the rule of the bad cell, where it stands in this row
abbrev pub bad_rule : Option BadCell → ℕ → Option Rule
bad_rule None row = None
bad_rule (Some bad) row = if nat_eq bad.row row then Some bad.rule else None

-- what a row breaks
abbrev pub row_rule : CellKind → Option BadCell → List (Option ℤ) → ℕ → Option Rule
row_rule kind bad cells row = option_or (bad_rule bad row) (cell_rule kind row (cell_at cells row))

-- the first row, of those below a number, that breaks a rule
abbrev pub first_row : (ℕ → Option Rule) → ℕ → Option BadCell
first_row breaks zero = None
first_row breaks (suc rows) = option_or
    (first_row breaks rows)
    (option_map (λ r. record { row = rows; rule = r }) (breaks rows))

-- what a number of rows breaks
abbrev pub size_rule : Size → ℕ → Option Rule
size_rule (AtMost limit) rows = if nat_le rows limit then None else Some rule.RowLimit
size_rule (Same wanted) rows = if nat_eq rows wanted then None else Some rule.LengthDiffers

-- a rule that a list breaks as a whole
abbrev pub whole_fault : Rule → ListFault
whole_fault r = record { rule = r; row = None }

-- a rule that a list breaks at a row
abbrev pub at_row : BadCell → ListFault
at_row bad = record { rule = bad.rule; row = Some bad.row }

-- what a column that is there breaks: its number of rows, and then the first row that breaks a rule
abbrev pub rows_fault : Size → (ℕ → Option Rule) → ℕ → Option ListFault
rows_fault size breaks rows = option_or
    (option_map whole_fault (size_rule size rows))
    (option_map at_row (first_row breaks rows))

-- what a column breaks, where `rows` is what it breaks if it is an array
abbrev pub state_fault : State → Bool → Option ListFault → Option ListFault
state_fault Absent needed rows = if needed then Some (whole_fault rule.Missing) else None
state_fault NotArray needed rows = Some (whole_fault rule.WrongKind)
state_fault Array needed rows = rows

-- what a column breaks
abbrev pub column_fault : Bool → Size → CellKind → Cells → Option ListFault
column_fault needed size kind c =
    state_fault c.state needed (rows_fault size (row_rule kind c.bad c.cells) (length c.cells))

-- a fault of a list as a whole
abbrev pub whole_only : Option ListFault → Option ListFault
whole_only None = None
whole_only (Some fault) = if is_none fault.row then Some fault else None

-- what a list breaks: as a whole, then by its number of rows, and then at a row
abbrev pub counted_fault : ℕ → ℕ → Option ListFault → Option ListFault
counted_fault most rows own =
    option_or (whole_only own) (option_or (option_map whole_fault (size_rule (AtMost most) rows)) own)
