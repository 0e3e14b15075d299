-- Columns that pass their checks.
use Rattle.std.proofs.Common.{◌≡◌, ℕ, zero, suc, ◌<◌, ◌≤◌, Bool, true, false, Option, None, Some, IfSome, List, length, refl, sym, ◌∙◌, ap, arith}
use Rattle.std.specs.Prelude.{ℤ, pos, negsuc, if◌then◌else◌, All}
use Rattle.std.specs.Option.{option_or, option_map}
use Rattle.std.proofs.lemmas.Bool.{lt-ltb, eq-eqb}
use Rattle.std.proofs.lemmas.Bool.Decides.{nat_tests}
use Rattle.prof_raw.specs.declared.column.CellKind.{CellKind}
use Rattle.prof_raw.specs.declared.column.CellKind.TheVariants as kind
use Rattle.prof_raw.specs.declared.column.Size.{Size}
use Rattle.prof_raw.specs.declared.column.Size.TheVariants.{AtMost, Same}
use Rattle.prof_raw.specs.declared.raw.State.{State}
use Rattle.prof_raw.specs.declared.raw.State.TheVariants.{Absent, NotArray, Array}
use Rattle.prof_raw.specs.declared.rule.Rule.{Rule}
use Rattle.prof_raw.specs.declared.rule.BadCell.{BadCell}
use Rattle.prof_raw.specs.declared.rule.ListFault.{ListFault}
use Rattle.prof_raw.specs.declared.rule.Table.{Table}
use Rattle.prof_raw.specs.declared.rule.Table.TheVariants as table
use Rattle.prof_raw.specs.declared.rule.Column.{Column}
use Rattle.prof_raw.specs.declared.rule.Column.TheVariants as column
use Rattle.prof_raw.specs.Cells.{Cells, OwnCells, cell_at}
use Rattle.prof_raw.specs.Rules.{cell_rule, row_rule, bad_rule, first_row, size_rule, whole_fault, at_row, rows_fault, column_fault}
use Rattle.prof_raw.specs.Checks.{named, first_of, first_column, needed_column, optional_column, markers_checks, markers_broken}
use Rattle.prof_raw.proofs.FirstRowLemmas.{or_none, map_none, first_row-next, first_row-none}
use Rattle.prof_gecko.proofs.Passes.{all_pass, none_fails, named_back}
use Rattle.prof_gecko.specs.Converted.{filled, number_cell, maybe_cell, minus_cell}

-- ---- rows

rows_pass : (breaks : ℕ → Option Rule) (rows : ℕ) → ((row : ℕ) → row < rows → breaks row ≡ None) → first_row breaks rows ≡ None
rows_pass breaks zero h = refl
rows_pass breaks (suc rows) h = first_row-next breaks rows (rows_pass breaks rows (λ row lt. h row (omega arith))) (h rows (omega arith))

both_none : {A : Type 0} (a b : Option A) → a ≡ None → b ≡ None → option_or a b ≡ None
both_none a b e f = rw (e, f) refl

mapped_none : {A B : Type 0} (f : A → B) (a : Option A) → a ≡ None → option_map f a ≡ None
mapped_none f a e = rw e refl

size_passes : (size : Size) (breaks : ℕ → Option Rule) (rows : ℕ) → size_rule size rows ≡ None → ((row : ℕ) → row < rows → breaks row ≡ None) → rows_fault size breaks rows ≡ None
size_passes size breaks rows e h = both_none (option_map whole_fault (size_rule size rows)) (option_map at_row (first_row breaks rows)) (mapped_none whole_fault (size_rule size rows) e) (mapped_none at_row (first_row breaks rows) (rows_pass breaks rows h))

-- a cell that passes at each row
abbrev pub Passing : CellKind → Option ℤ → Type 0
Passing k o = (row : ℕ) → cell_rule k row o ≡ None

cells_pass : (k : CellKind) (cells : List (Option ℤ)) → All (Passing k) cells → (row : ℕ) → row < length cells → row_rule k None cells row ≡ None
cells_pass k cells all row lt = all row None lt row

size_most : (most n : ℕ) → n ≤ most → size_rule (AtMost most) n ≡ None
size_most most n h = grind (arith, nat_tests)

size_same : (n : ℕ) → size_rule (Same n) n ≡ None
size_same n = rw (eq-eqb n n refl) refl

named_none : (thread : Option ℕ) (t : Table) (c : Column) (f : Option ListFault) → f ≡ None → named thread t c f ≡ None
named_none thread t c f e = rw e refl

-- a first column of cells that pass
pub first_passes : (thread : Option ℕ) (t : Table) (c : Column) (most : ℕ) (k : CellKind) (cells : List (Option ℤ)) → length cells ≤ most → All (Passing k) cells → first_column thread t c most k (filled cells) ≡ None
first_passes thread t c most k cells few all =
    named_none thread t c (column_fault true (AtMost most) k (filled cells))
    (size_passes (AtMost most) (row_rule k None cells) (length cells) (size_most most (length cells) few) (cells_pass k cells all))

-- another column of as many
pub optional_passes : (thread : Option ℕ) (t : Table) (c : Column) (rows : ℕ) (k : CellKind) (cells : List (Option ℤ)) → length cells ≡ rows → All (Passing k) cells → optional_column thread t c rows k (filled cells) ≡ None
optional_passes thread t c rows k cells same all =
    named_none thread t c (column_fault false (Same rows) k (filled cells))
    (size_passes (Same rows) (row_rule k None cells) (length cells) (ap (λ n. size_rule (Same n) (length cells)) (sym same) ∙ size_same (length cells)) (cells_pass k cells all))

-- ---- cells

pub number_passes : (limit n : ℕ) → n < limit → Passing (kind.Index limit) (number_cell n)
number_passes limit n h row = rw (lt-ltb n limit h) refl

pub maybe_passes : (limit : ℕ) (o : Option ℕ) → IfSome o (λ n. n < limit) → Passing (kind.MaybeIndex limit) (maybe_cell o)
maybe_passes limit None h row = refl
maybe_passes limit (Some n) h row = rw (lt-ltb n limit h) refl

pub minus_passes : (limit : ℕ) (o : Option ℕ) → IfSome o (λ n. n < limit) → Passing (kind.MinusOrIndex limit) (minus_cell o)
minus_passes limit None h row = refl
minus_passes limit (Some n) h row = rw (lt-ltb n limit h) refl

-- ---- the names of markers in a longer list

index_more : (s t : ℕ) → s ≤ t → (row : ℕ) (o : Option ℤ) → cell_rule (kind.Index s) row o ≡ None → cell_rule (kind.Index t) row o ≡ None
index_more s t l row None h = cc
index_more s t l row (Some (negsuc n)) h = cc
index_more s t l row (Some (pos n)) h = grind (arith, nat_tests)

row_more : (s t : ℕ) → s ≤ t → (bad : Option BadCell) (cells : List (Option ℤ)) (row : ℕ) → row_rule (kind.Index s) bad cells row ≡ None → row_rule (kind.Index t) bad cells row ≡ None
row_more s t l bad cells row h =
    let parts = or_none (bad_rule bad row) (cell_rule (kind.Index s) row (cell_at cells row)) h in
    both_none (bad_rule bad row) (cell_rule (kind.Index t) row (cell_at cells row)) parts.0 (index_more s t l row (cell_at cells row) parts.1)

fault_more : (s t : ℕ) → s ≤ t → (size : Size) (state : State) (cells : List (Option ℤ)) (bad : Option BadCell) →
    column_fault true size (kind.Index s) (record { state = state; cells = cells; bad = bad }) ≡ None → column_fault true size (kind.Index t) (record { state = state; cells = cells; bad = bad }) ≡ None
fault_more s t l size Absent cells bad h = cc
fault_more s t l size NotArray cells bad h = cc
fault_more s t l size Array cells bad h =
    let parts = or_none (option_map whole_fault (size_rule size (length cells))) (option_map at_row (first_row (row_rule (kind.Index s) bad cells) (length cells))) h in
    let first = map_none at_row (first_row (row_rule (kind.Index s) bad cells) (length cells)) parts.1 in
    size_passes size (row_rule (kind.Index t) bad cells) (length cells) (map_none whole_fault (size_rule size (length cells)) parts.0)
    (λ row lt. row_more s t l bad cells row (first_row-none (row_rule (kind.Index s) bad cells) row (length cells) first lt))

names_more : (thread : Option ℕ) (s t rows : ℕ) (c : Cells) → s ≤ t → needed_column thread table.Markers column.Name rows (kind.Index s) c ≡ None → needed_column thread table.Markers column.Name rows (kind.Index t) c ≡ None
names_more thread s t rows c l h =
    named_none thread table.Markers column.Name (column_fault true (Same rows) (kind.Index t) c)
    (fault_more s t l (Same rows) c.state c.cells c.bad (named_back thread table.Markers column.Name (column_fault true (Same rows) (kind.Index s) c) h))

markers_by : (thread : Option ℕ) (s t : ℕ) (own : OwnCells) (there : Bool) → s ≤ t → (if there then first_of (markers_checks thread s own) else None) ≡ None → (if there then first_of (markers_checks thread t own) else None) ≡ None
markers_by thread s t own false l h = refl
markers_by thread s t own true l h =
    let all = all_pass (markers_checks thread s own) h in
    none_fails (markers_checks thread t own) (all.0, (names_more thread s t (length own.marker_phase.cells) own.marker_name l all.1.0, all.1.1))

-- markers that pass over some strings pass over more
pub markers_more : (thread : Option ℕ) (s t : ℕ) (own : OwnCells) → s ≤ t → markers_broken thread s own ≡ None → markers_broken thread t own ≡ None
unfolding markers_broken
markers_more thread s t own l h = markers_by thread s t own own.has_markers l h
