-- The times of the samples and of the markers: what their columns break, beside each cell by itself.
use Rattle.std.specs.Prelude.{ℕ, zero, suc, ℤ, pos, ◌+ℤ◌, List, Bool, true, false, not, ◌||◌, if◌then◌else◌, Option, None, Some, nat_eq, length}
use Rattle.std.specs.Option.{option_or}
use Rattle.prof_raw.specs.declared.column.CellKind.TheVariants as kind
use Rattle.prof_raw.specs.declared.column.Size.TheVariants.{Same}
use Rattle.prof_raw.specs.declared.moment.Moment.{Moment}
use Rattle.prof_raw.specs.declared.moment.Moment.TheVariants.{Start, End}
use Rattle.prof_raw.specs.declared.raw.State.{State}
use Rattle.prof_raw.specs.declared.raw.State.TheVariants.{Absent, NotArray, Array}
use Rattle.prof_raw.specs.declared.rule.Rule.{Rule}
use Rattle.prof_raw.specs.declared.rule.Rule.TheVariants as rule
use Rattle.prof_raw.specs.declared.rule.BadCell.{BadCell}
use Rattle.prof_raw.specs.declared.rule.ListFault.{ListFault}
use Rattle.prof_raw.specs.declared.rule.Column.{Column}
use Rattle.prof_raw.specs.declared.rule.Column.TheVariants as column
use Rattle.prof_raw.specs.Cells.{Cells, cell, cell_at}
use Rattle.prof_raw.specs.CellValues.{index_of, number_of}
use Rattle.prof_raw.specs.Rules.{range_rule, row_rule, rows_fault, state_fault}

-- the sum of the cells below a row
abbrev pub sum_below : List (Option ℤ) → ℕ → ℤ
sum_below cells zero = pos 0
sum_below cells (suc row) = sum_below cells row +ℤ number_of (cell_at cells row)

-- a sample's time: its own cell, or the sum of the deltas up to its own
abbrev pub time_of : Bool → Cells → ℕ → ℤ
time_of false c k = number_of (cell_at c.cells k)
time_of true c k = sum_below c.cells (suc k)

-- what a row of the times breaks, and of the deltas: the cell by itself, and then the running sum
abbrev pub time_rule : Bool → Option BadCell → List (Option ℤ) → ℕ → Option Rule
time_rule false bad cells row = row_rule kind.Number bad cells row
time_rule true bad cells row =
    option_or (row_rule kind.Number bad cells row) (range_rule (sum_below cells (suc row)))

-- what the times of so many samples break
abbrev pub time_fault : Bool → ℕ → Cells → Option ListFault
time_fault deltas rows c =
    state_fault c.state true (rows_fault (Same rows) (time_rule deltas c.bad c.cells) (length c.cells))

-- the name of the times; where both columns are absent it is `time`
abbrev pub time_name : State → Bool → Column
time_name Absent deltas = column.Time
time_name NotArray deltas = if deltas then column.TimeDeltas else column.Time
time_name Array deltas = if deltas then column.TimeDeltas else column.Time

-- the phases that need a start are 0, 1 and 2, and those that need an end 1 and 3
abbrev pub is_needed : Moment → ℕ → Bool
is_needed Start phase = not (nat_eq phase 3)
is_needed End phase = nat_eq phase 1 || nat_eq phase 3

-- what a null breaks at its row's phase
abbrev pub null_rule : Moment → ℕ → Option ℤ → Option Rule
null_rule moment phase None = if is_needed moment phase then Some rule.Phase else None
null_rule moment phase (Some n) = None

-- what a row of the starts or the ends breaks: the cell by itself, and then a null that its phase forbids
abbrev pub moment_rule : Moment → Cells → Option BadCell → List (Option ℤ) → ℕ → Option Rule
moment_rule moment phases bad cells row = option_or
    (row_rule kind.MaybeNumber bad cells row)
    (null_rule moment (index_of (cell phases row)) (cell_at cells row))

-- what the starts or the ends of so many markers break
abbrev pub moment_fault : Moment → ℕ → Cells → Cells → Option ListFault
moment_fault moment rows phases c = state_fault c.state true
    (rows_fault (Same rows) (moment_rule moment phases c.bad c.cells) (length c.cells))
