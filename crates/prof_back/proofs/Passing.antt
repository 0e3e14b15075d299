-- Columns whose cells break no rule pass their checks.
use Rattle.std.proofs.Common.{◌≡◌, ℕ, zero, suc, ◌<◌, ◌≤◌, List, [], ◌∷◌, Option, None, Some, length, refl, sym, arith, Bool, true}
use Rattle.std.specs.Prelude.{ℤ, pos, negsuc, IfSome, map, nat_eq, nat_le, nat_lt, slice_get}
use Rattle.std.specs.List.{AllByRecursion}
use Rattle.std.specs.Option.{option_map, option_map_or, option_or}
use Rattle.std.proofs.lemmas.Bool.Decides.{nat_tests}
use Rattle.std.proofs.lemmas.Int.{ints}
use Rattle.prof_raw.specs.declared.column.CellKind.{CellKind}
use Rattle.prof_raw.specs.declared.column.CellKind.TheVariants as kind
use Rattle.prof_raw.specs.declared.column.Size.{Size}
use Rattle.prof_raw.specs.declared.column.Size.TheVariants.{AtMost, Same}
use Rattle.prof_raw.specs.declared.rule.Rule.{Rule}
use Rattle.prof_raw.specs.declared.rule.Broken.{Broken}
use Rattle.prof_raw.specs.Cells.{cell_at}
use Rattle.prof_raw.specs.Checks.{first_of}
use Rattle.prof_raw.specs.Rules.{cell_rule, column_fault, first_row, index_rule, phase_rule, range_rule, row_rule, rows_fault, size_rule}
use Rattle.prof_raw.proofs.FirstRowLemmas.{first_row-next}
use Rattle.prof_tables.specs.Ties.{InRange}
use Rattle.prof_back.specs.Gathered.{column_with}
use Rattle.prof_back.proofs.Columns.{length_map}

-- checks that all pass
pub none_or : {A : Type 0} (a b : Option A) → a ≡ None → b ≡ None → option_or a b ≡ None
none_or a b e f = rw (e, f) refl

pub checks_pass : (checks : List (Option Broken)) → AllByRecursion (λ check. check ≡ None) checks → first_of checks ≡ None
checks_pass [] h = refl
checks_pass (check ∷ checks) h = none_or check (first_of checks) h.0 (checks_pass checks h.1)

pub none_both : {A : Type 0} (a b : Option A) → a ≡ None → b ≡ None → option_or a (option_or b None) ≡ None
none_both a b e f = rw (e, f) refl

-- rows that break nothing
pub no_row : (breaks : ℕ → Option Rule) (rows : ℕ) → ((row : ℕ) → row < rows → breaks row ≡ None) → first_row breaks rows ≡ None
no_row breaks zero h = refl
no_row breaks (suc rows) h = first_row-next breaks rows (no_row breaks rows (λ row lt. h row (omega arith))) (h rows (omega arith))

pub rows_pass : (size : Size) (breaks : ℕ → Option Rule) (rows : ℕ) → size_rule size rows ≡ None → ((row : ℕ) → row < rows → breaks row ≡ None) → rows_fault size breaks rows ≡ None
rows_pass size breaks rows fits h = let none = no_row breaks rows h in rw (fits, none) refl

pub within_most : (rows most : ℕ) → rows ≤ most → size_rule (AtMost most) rows ≡ None
within_most rows most h = let test : nat_le rows most ≡ true = grind (arith, nat_tests) in rw test refl

pub as_many : (rows wanted : ℕ) → rows ≡ wanted → size_rule (Same wanted) rows ≡ None
as_many rows wanted h = let test : nat_eq rows wanted ≡ true = grind (arith, nat_tests) in rw test refl

-- as many rows as another column has
pub as_others : {A : Type 0} (xs : List A) (told : A → Option ℤ) → size_rule (Same (length (map told xs))) (length xs) ≡ None
as_others xs told = as_many (length xs) (length (map told xs)) (sym (length_map told xs))

-- each cell of rows, by its row
pub cells_pass : {A : Type 0} (P : ℕ → Option ℤ → Type 0) (told : A → Option ℤ) (rows : List A) → ((i : ℕ) (r : A) → slice_get rows i ≡ Some r → P i (told r)) →
    (i : ℕ) → i < length (map told rows) → P i (cell_at (map told rows) i)
cells_pass P told [] h i lt = absurd (omega arith)
cells_pass P told (r ∷ rows) h zero lt = h 0 r refl
cells_pass P told (r ∷ rows) h (suc i) lt = cells_pass (λ j o. P (suc j) o) told rows (λ j s e. h (suc j) s e) i (omega arith)

pub column_passes : {A : Type 0} (needed : Bool) (size : Size) (k : CellKind) (told : A → Option ℤ) (rows : List A) → size_rule size (length rows) ≡ None →
    ((i : ℕ) (r : A) → slice_get rows i ≡ Some r → cell_rule k i (told r) ≡ None) → column_fault needed size k (column_with (map told rows)) ≡ None
column_passes needed size k told rows fits h =
    let many = length_map told rows in
    rows_pass size (row_rule k None (map told rows)) (length (map told rows)) (rw many fits) (cells_pass (λ i o. cell_rule k i o ≡ None) told rows h)

-- ---- what single cells break

pub index_passes : (limit m : ℕ) → m < limit → index_rule limit (pos m) ≡ None
index_passes limit m h = let test : nat_lt m limit ≡ true = grind (arith, nat_tests) in rw test refl

pub maybe_index_passes : (limit row : ℕ) (o : Option ℕ) → IfSome o (λ n. n < limit) → cell_rule (kind.MaybeIndex limit) row (option_map pos o) ≡ None
maybe_index_passes limit row None h = refl
maybe_index_passes limit row (Some n) h = index_passes limit n h

pub resource_passes : (count limit row : ℕ) (o : Option ℕ) → limit ≡ count → IfSome o (λ n. n < count) → cell_rule (kind.MinusOrIndex limit) row (Some (option_map_or pos o (negsuc 0))) ≡ None
resource_passes count limit row None same h = refl
resource_passes count limit row (Some n) same h = index_passes limit n (omega arith)

pub prefix_passes : (row : ℕ) (o : Option ℕ) → IfSome o (λ p. p < row) → cell_rule kind.Prefix row (option_map pos o) ≡ None
prefix_passes row None h = refl
prefix_passes row (Some p) h = let test : nat_lt p row ≡ true = grind (arith, nat_tests) in rw test refl

pub range_passes : (z : ℤ) → InRange z → range_rule z ≡ None
range_passes (pos m) h = let small : m ≤ 9000000000000000000 = omega (arith, ints, h.0, h.1) in let test : nat_le m 9000000000000000000 ≡ true = grind (arith, nat_tests) in rw test refl
range_passes (negsuc m) h = let small : m < 9000000000000000000 = omega (arith, ints, h.0, h.1) in let test : nat_lt m 9000000000000000000 ≡ true = grind (arith, nat_tests) in rw test refl

pub maybe_range_passes : (row : ℕ) (o : Option ℤ) → IfSome o InRange → cell_rule kind.MaybeNumber row o ≡ None
maybe_range_passes row None h = refl
maybe_range_passes row (Some z) h = range_passes z h

pub phase_passes : (m : ℕ) → m < 4 → phase_rule (pos m) ≡ None
phase_passes m h = let test : nat_lt m 4 ≡ true = grind (arith, nat_tests) in rw test refl
