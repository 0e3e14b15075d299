-- What a column that passes its check shows of its cells.
use Rattle.std.proofs.Common.{◌≡◌, ℕ, suc, ◌<◌, ◌≤◌, Bool, true, false, Option, None, Some, List, length, arith, refl, sym, subst}
use Rattle.std.proofs.lemmas.Bool.Decides.{nat_tests}
use Rattle.std.specs.Prelude.{ℤ, IfSome}
use Rattle.std.specs.Option.{option_or, option_map}
use Rattle.prof_raw.specs.declared.column.CellKind.{CellKind}
use Rattle.prof_raw.specs.declared.column.CellKind.TheVariants as kind
use Rattle.prof_raw.specs.declared.column.Size.{Size}
use Rattle.prof_raw.specs.declared.column.Size.TheVariants.{AtMost, Same}
use Rattle.prof_raw.specs.declared.moment.Moment.{Moment}
use Rattle.prof_raw.specs.declared.raw.State.{State}
use Rattle.prof_raw.specs.declared.raw.State.TheVariants.{Absent, NotArray, Array}
use Rattle.prof_raw.specs.declared.rule.Rule.{Rule}
use Rattle.prof_raw.specs.declared.rule.BadCell.{BadCell}
use Rattle.prof_raw.specs.declared.rule.ListFault.{ListFault}
use Rattle.prof_raw.specs.declared.rule.Table.{Table}
use Rattle.prof_raw.specs.declared.rule.Column.{Column}
use Rattle.prof_raw.specs.Cells.{Cells, cell, cell_in, cell_at}
use Rattle.prof_raw.specs.Rules.{cell_rule, row_rule, bad_rule, minus_or_index_rule, range_rule, first_row, size_rule, whole_fault, at_row, rows_fault, state_fault, column_fault, whole_only, counted_fault}
use Rattle.prof_raw.specs.Moments.{time_of, time_rule, time_fault, sum_below, moment_rule, moment_fault, null_rule}
use Rattle.prof_raw.specs.CellValues.{index_of, number_of, weight_in}
use Rattle.prof_raw.specs.Checks.{named, first_column, needed_column, optional_column}
use Rattle.prof_raw.proofs.FirstRowLemmas.{or_none, map_none, first_row-none}

-- rows that pass: their number does, and each of them
rows_fit : (size : Size) (breaks : ℕ → Option Rule) (rows : ℕ) → rows_fault size breaks rows ≡ None → (size_rule size rows ≡ None) × ((row : ℕ) → row < rows → breaks row ≡ None)
rows_fit size breaks rows h =
    let parts = or_none (option_map whole_fault (size_rule size rows)) (option_map at_row (first_row breaks rows)) h in
    (map_none whole_fault (size_rule size rows) parts.0, λ row lt. first_row-none breaks row rows (map_none at_row (first_row breaks rows) parts.1) lt)

size_same : (rows n : ℕ) → size_rule (Same rows) n ≡ None → n ≡ rows
size_same rows n h = grind (arith, nat_tests)

size_most : (most n : ℕ) → size_rule (AtMost most) n ≡ None → n ≤ most
size_most most n h = grind (arith, nat_tests)

-- a needed column that passes is an array whose rows pass
needed_rows : (s : State) (f : Option ListFault) → state_fault s true f ≡ None → (s ≡ Array) × (f ≡ None)
needed_rows Absent f h = cc
needed_rows NotArray f h = cc
needed_rows Array f h = (refl, h)

-- a needed column of as many rows as the first
needed_same : (s : State) (rows : ℕ) (breaks : ℕ → Option Rule) (n : ℕ) → state_fault s true (rows_fault (Same rows) breaks n) ≡ None → (s ≡ Array) × ((row : ℕ) → row < rows → breaks row ≡ None)
needed_same s rows breaks n h =
    let parts = needed_rows s (rows_fault (Same rows) breaks n) h in
    let fit = rows_fit (Same rows) breaks n parts.1 in
    let e : n ≡ rows = size_same rows n fit.0 in
    (parts.0, λ row lt. fit.1 row (omega arith))

-- a place names no fault only where there is none
named_none : (thread : Option ℕ) (t : Table) (c : Column) (f : Option ListFault) → named thread t c f ≡ None → f ≡ None
named_none thread t c None h = refl
named_none thread t c (Some f) h = cc

-- a row that passes has a cell that passes
row_cell : (k : CellKind) (bad : Option BadCell) (cells : List (Option ℤ)) (row : ℕ) → row_rule k bad cells row ≡ None → cell_rule k row (cell_at cells row) ≡ None
row_cell k bad cells row h = (or_none (bad_rule bad row) (cell_rule k row (cell_at cells row)) h).1

in_array : (k : CellKind) (s : State) (cells : List (Option ℤ)) (row : ℕ) → s ≡ Array → cell_rule k row (cell_at cells row) ≡ None → cell_rule k row (cell_in s cells row) ≡ None
in_array k s cells row e h = let P : State → Type 0 = λ t. cell_rule k row (cell_in t cells row) ≡ None in subst P (sym e) h

pub first_fit : (thread : Option ℕ) (t : Table) (c : Column) (most : ℕ) (k : CellKind) (cells : Cells) → first_column thread t c most k cells ≡ None →
    (length cells.cells ≤ most) × ((row : ℕ) → row < length cells.cells → cell_rule k row (cell cells row) ≡ None)
first_fit thread t c most k cells h =
    let parts = needed_rows cells.state _ (named_none thread t c (column_fault true (AtMost most) k cells) h) in
    let fit = rows_fit (AtMost most) (row_rule k cells.bad cells.cells) (length cells.cells) parts.1 in
    (size_most most (length cells.cells) fit.0, λ row lt. in_array k cells.state cells.cells row parts.0 (row_cell k cells.bad cells.cells row (fit.1 row lt)))

pub needed_fit : (thread : Option ℕ) (t : Table) (c : Column) (rows : ℕ) (k : CellKind) (cells : Cells) → needed_column thread t c rows k cells ≡ None →
    (row : ℕ) → row < rows → cell_rule k row (cell cells row) ≡ None
needed_fit thread t c rows k cells h row lt =
    let fit = needed_same cells.state rows (row_rule k cells.bad cells.cells) (length cells.cells) (named_none thread t c (column_fault true (Same rows) k cells) h) in
    in_array k cells.state cells.cells row fit.0 (row_cell k cells.bad cells.cells row (fit.1 row lt))

-- a fact of each cell of an optional column that passes, where an absent one has it
optional_by : (P : Option ℤ → Type 0) (rows : ℕ) (k : CellKind) (s : State) (cells : List (Option ℤ)) (bad : Option BadCell) →
    P None → ((row : ℕ) (o : Option ℤ) → cell_rule k row o ≡ None → P o) →
    column_fault false (Same rows) k (record { state = s; cells = cells; bad = bad }) ≡ None → (row : ℕ) → row < rows → P (cell_in s cells row)
optional_by P rows k Absent cells bad none some h row lt = none
optional_by P rows k NotArray cells bad none some h row lt = cc
optional_by P rows k Array cells bad none some h row lt =
    let fit = rows_fit (Same rows) (row_rule k bad cells) (length cells) h in
    let e : length cells ≡ rows = size_same rows (length cells) fit.0 in
    some row (cell_at cells row) (row_cell k bad cells row (fit.1 row (omega arith)))

-- an optional index
pub maybe_fit : (thread : Option ℕ) (t : Table) (c : Column) (rows limit : ℕ) (cells : Cells) → optional_column thread t c rows (kind.MaybeIndex limit) cells ≡ None →
    (row : ℕ) → row < rows → cell_rule (kind.MaybeIndex limit) 0 (cell cells row) ≡ None
maybe_fit thread t c rows limit cells h row lt =
    optional_by (λ o. cell_rule (kind.MaybeIndex limit) 0 o ≡ None) rows (kind.MaybeIndex limit) cells.state cells.cells cells.bad refl (λ r o e. e) (named_none thread t c (column_fault false (Same rows) (kind.MaybeIndex limit) cells) h) row lt

minus_some : (limit row : ℕ) (o : Option ℤ) → cell_rule (kind.MinusOrIndex limit) row o ≡ None → IfSome o (λ n. minus_or_index_rule limit n ≡ None)
minus_some limit row None h = tt
minus_some limit row (Some n) h = h

-- an index for which -1 stands for none
pub minus_fit : (thread : Option ℕ) (t : Table) (c : Column) (rows limit : ℕ) (cells : Cells) → optional_column thread t c rows (kind.MinusOrIndex limit) cells ≡ None →
    (row : ℕ) → row < rows → IfSome (cell cells row) (λ n. minus_or_index_rule limit n ≡ None)
minus_fit thread t c rows limit cells h row lt =
    optional_by (λ o. IfSome o (λ n. minus_or_index_rule limit n ≡ None)) rows (kind.MinusOrIndex limit) cells.state cells.cells cells.bad tt (minus_some limit) (named_none thread t c (column_fault false (Same rows) (kind.MinusOrIndex limit) cells) h) row lt

number_range : (row : ℕ) (o : Option ℤ) → cell_rule kind.Number row o ≡ None → range_rule (number_of o) ≡ None
number_range row None h = cc
number_range row (Some n) h = h

-- the weights
weight_range : (rows : ℕ) (s : State) (cells : List (Option ℤ)) (bad : Option BadCell) →
    column_fault false (Same rows) kind.Number (record { state = s; cells = cells; bad = bad }) ≡ None → (row : ℕ) → row < rows → range_rule (weight_in s cells row) ≡ None
weight_range rows Absent cells bad h row lt = refl
weight_range rows NotArray cells bad h row lt = cc
weight_range rows Array cells bad h row lt =
    let fit = rows_fit (Same rows) (row_rule kind.Number bad cells) (length cells) h in
    let e : length cells ≡ rows = size_same rows (length cells) fit.0 in
    number_range row (cell_at cells row) (row_cell kind.Number bad cells row (fit.1 row (omega arith)))

pub weight_fit : (thread : Option ℕ) (t : Table) (c : Column) (rows : ℕ) (cells : Cells) → optional_column thread t c rows kind.Number cells ≡ None →
    (row : ℕ) → row < rows → range_rule (weight_in cells.state cells.cells row) ≡ None
weight_fit thread t c rows cells h row lt = weight_range rows cells.state cells.cells cells.bad (named_none thread t c (column_fault false (Same rows) kind.Number cells) h) row lt

-- the times of the samples
time_range : (deltas : Bool) (bad : Option BadCell) (c : Cells) (row : ℕ) → time_rule deltas bad c.cells row ≡ None → range_rule (time_of deltas c row) ≡ None
time_range false bad c row h = number_range row (cell_at c.cells row) (row_cell kind.Number bad c.cells row h)
time_range true bad c row h = (or_none (row_rule kind.Number bad c.cells row) (range_rule (sum_below c.cells (suc row))) h).1

pub time_fit : (thread : Option ℕ) (t : Table) (c : Column) (deltas : Bool) (rows : ℕ) (cells : Cells) → named thread t c (time_fault deltas rows cells) ≡ None →
    (row : ℕ) → row < rows → range_rule (time_of deltas cells row) ≡ None
time_fit thread t c deltas rows cells h row lt =
    let fit = needed_same cells.state rows (time_rule deltas cells.bad cells.cells) (length cells.cells) (named_none thread t c (time_fault deltas rows cells) h) in
    time_range deltas cells.bad cells row (fit.1 row lt)

-- the cells of a marker's time, which its phase may need
null_in_array : (moment : Moment) (phase : ℕ) (s : State) (cells : List (Option ℤ)) (row : ℕ) → s ≡ Array → null_rule moment phase (cell_at cells row) ≡ None → null_rule moment phase (cell_in s cells row) ≡ None
null_in_array moment phase s cells row e h = let P : State → Type 0 = λ t. null_rule moment phase (cell_in t cells row) ≡ None in subst P (sym e) h

-- the times of the markers
pub moment_fit : (thread : Option ℕ) (t : Table) (c : Column) (moment : Moment) (rows : ℕ) (phases cells : Cells) → named thread t c (moment_fault moment rows phases cells) ≡ None →
    (row : ℕ) → row < rows → (cell_rule kind.MaybeNumber 0 (cell cells row) ≡ None) × (null_rule moment (index_of (cell phases row)) (cell cells row) ≡ None)
moment_fit thread t c moment rows phases cells h row lt =
    let fit = needed_same cells.state rows (moment_rule moment phases cells.bad cells.cells) (length cells.cells) (named_none thread t c (moment_fault moment rows phases cells) h) in
    let parts = or_none (row_rule kind.MaybeNumber cells.bad cells.cells row) (null_rule moment (index_of (cell phases row)) (cell_at cells.cells row)) (fit.1 row lt) in (
      in_array kind.MaybeNumber cells.state cells.cells row fit.0 (row_cell kind.MaybeNumber cells.bad cells.cells row parts.0),
      null_in_array moment (index_of (cell phases row)) cells.state cells.cells row fit.0 parts.1,
    )

-- a list that passes has no more rows than it may have
pub counted_fit : (thread : Option ℕ) (t : Table) (c : Column) (most rows : ℕ) (own : Option ListFault) → named thread t c (counted_fault most rows own) ≡ None → rows ≤ most
counted_fit thread t c most rows own h =
    let none = named_none thread t c (counted_fault most rows own) h in
    let behind = (or_none (whole_only own) (option_or (option_map whole_fault (size_rule (AtMost most) rows)) own) none).1 in
    let counted = (or_none (option_map whole_fault (size_rule (AtMost most) rows)) own behind).0 in
    size_most most rows (map_none whole_fault (size_rule (AtMost most) rows) counted)
