-- A column of which one cell more than the limit is kept breaks what the whole column breaks.
use Rattle.std.proofs.Common.{◌≡◌, ℕ, suc, ◌+◌, ◌<◌, ◌≤◌, Option, None, Some, IfSome, Ok, Err, List, [], ◌∷◌, length, take, Bool, true, false, refl, ap, subst, arith, inl, inr}
use Rattle.std.specs.Prelude.{nat_le, nat_eq, map}
use Rattle.std.proofs.lemmas.Bool.{cases_lt}
use Rattle.std.proofs.lemmas.Bool.Decides.{nat_tests}
use Rattle.std.proofs.lemmas.List.{take_all, length-take-le, length-map}
use Rattle.prof_grammar.specs.Value.{Value, items}
use Rattle.prof_raw.specs.declared.rule.Table.{Table}
use Rattle.prof_raw.specs.declared.rule.Column.{Column}
use Rattle.prof_raw.specs.declared.rule.BadCell.{BadCell}
use Rattle.prof_raw.specs.Cells.{Cells}
use Rattle.prof_raw.specs.Checks.{first_column, needed_column, optional_column}
use Rattle.prof_raw.specs.Moments.{time_fault, moment_fault}
use Rattle.prof_layout.specs.Columns.{Cell, cell_value, first_bad, gathered, column_of, kept_bad, capped, IsGathered}

-- the first bad cell is one of the cells
pub first_bad-below : (row : ℕ) (cells : List Cell) → IfSome (first_bad row cells) (λ bad. bad.row < row + length cells)
first_bad-below row [] = tt
first_bad-below row (Ok value ∷ cells) =
    let e : suc row + length cells ≡ row + suc (length cells) = omega arith in
    subst (λ n. IfSome (first_bad (suc row) cells) (λ bad. bad.row < n)) e (first_bad-below (suc row) cells)
first_bad-below row (Err broken ∷ cells) = omega arith

pub gathered_is : (cells : List Cell) → IsGathered (gathered cells)
gathered_is cells = record {
  bad = subst (λ n. IfSome (first_bad 0 cells) (λ bad. bad.row < n)) (omega (arith, length-map cells cell_value)) (first_bad-below 0 cells);
  only = λ ne. absurd (ne refl);
}

-- each column of a value keeps this
pub column_is : (read : Value → Cell) (needed : Bool) (member : Option Value) → IsGathered (column_of read needed member)
column_is read needed None = record { bad = tt; only = λ ne. refl }
column_is read needed (Some (Value.array vs)) = gathered_is (map read (items vs))
column_is read true (Some Value.null) = record { bad = tt; only = λ ne. refl }
column_is read false (Some Value.null) = record { bad = tt; only = λ ne. refl }
column_is read needed (Some (Value.boolean b)) = record { bad = tt; only = λ ne. refl }
column_is read needed (Some (Value.number t)) = record { bad = tt; only = λ ne. refl }
column_is read needed (Some (Value.string t)) = record { bad = tt; only = λ ne. refl }
column_is read needed (Some (Value.object ms)) = record { bad = tt; only = λ ne. refl }

kept_same : (most : ℕ) (bad : Option BadCell) → IfSome bad (λ b. b.row < suc most) → kept_bad most bad ≡ bad
kept_same most None h = refl
kept_same most (Some b) h = let t : nat_le b.row most ≡ true = grind (arith, nat_tests) in rw t refl

below_more : (bad : Option BadCell) (n m : ℕ) → n ≤ m → IfSome bad (λ b. b.row < n) → IfSome bad (λ b. b.row < m)
below_more None n m le h = tt
below_more (Some b) n m le h = omega arith

-- a column of so few cells is kept whole
pub capped_same : (most : ℕ) (c : Cells) → IsGathered c → length c.cells ≤ suc most → capped most c ≡ c
capped_same most c h few = rw (take_all (suc most) c.cells few, kept_same most c.bad (below_more c.bad (length c.cells) (suc most) few h.bad)) refl

-- and of another more than the most are kept
pub capped_over : (most : ℕ) (c : Cells) → most < length c.cells → most < length (take (suc most) c.cells)
capped_over most c over = let e = length-take-le (suc most) c.cells (omega arith) in omega arith

-- where the number of rows breaks a rule no cell counts: as a first column
pub first-capped : (thread : Option ℕ) (t : Table) (col : Column) (most : ℕ) (kind : _) (c : Cells) → IsGathered c →
    first_column thread t col most kind (capped most c) ≡ first_column thread t col most kind c
first-capped thread t col most kind c h = elim (cases_lt most (length c.cells)) [
  | inl over ↦
      let kept : nat_le (length (take (suc most) c.cells)) most ≡ false = let more = capped_over most c over in grind (arith, nat_tests) in
      let all : nat_le (length c.cells) most ≡ false = grind (arith, nat_tests) in
      rw (kept, all) refl
  | inr within ↦ ap (first_column thread t col most kind) (capped_same most c h (omega arith))
]

-- beside a first column of at most so many rows
pub needed-capped : (thread : Option ℕ) (t : Table) (col : Column) (most rows : ℕ) (kind : _) (c : Cells) → rows ≤ most → IsGathered c →
    needed_column thread t col rows kind (capped most c) ≡ needed_column thread t col rows kind c
needed-capped thread t col most rows kind c few h = elim (cases_lt most (length c.cells)) [
  | inl over ↦
      let kept : nat_eq (length (take (suc most) c.cells)) rows ≡ false = let more = capped_over most c over in grind (arith, nat_tests) in
      let all : nat_eq (length c.cells) rows ≡ false = grind (arith, nat_tests) in
      rw (kept, all) refl
  | inr within ↦ ap (needed_column thread t col rows kind) (capped_same most c h (omega arith))
]

pub optional-capped : (thread : Option ℕ) (t : Table) (col : Column) (most rows : ℕ) (kind : _) (c : Cells) → rows ≤ most → IsGathered c →
    optional_column thread t col rows kind (capped most c) ≡ optional_column thread t col rows kind c
optional-capped thread t col most rows kind c few h = elim (cases_lt most (length c.cells)) [
  | inl over ↦
      let kept : nat_eq (length (take (suc most) c.cells)) rows ≡ false = let more = capped_over most c over in grind (arith, nat_tests) in
      let all : nat_eq (length c.cells) rows ≡ false = grind (arith, nat_tests) in
      rw (kept, all) refl
  | inr within ↦ ap (optional_column thread t col rows kind) (capped_same most c h (omega arith))
]

pub time-capped : (deltas : Bool) (most rows : ℕ) (c : Cells) → rows ≤ most → IsGathered c → time_fault deltas rows (capped most c) ≡ time_fault deltas rows c
time-capped deltas most rows c few h = elim (cases_lt most (length c.cells)) [
  | inl over ↦
      let kept : nat_eq (length (take (suc most) c.cells)) rows ≡ false = let more = capped_over most c over in grind (arith, nat_tests) in
      let all : nat_eq (length c.cells) rows ≡ false = grind (arith, nat_tests) in
      rw (kept, all) refl
  | inr within ↦ ap (time_fault deltas rows) (capped_same most c h (omega arith))
]

pub moment-capped : (moment : _) (phases : Cells) (most rows : ℕ) (c : Cells) → rows ≤ most → IsGathered c → moment_fault moment rows phases (capped most c) ≡ moment_fault moment rows phases c
moment-capped moment phases most rows c few h = elim (cases_lt most (length c.cells)) [
  | inl over ↦
      let kept : nat_eq (length (take (suc most) c.cells)) rows ≡ false = let more = capped_over most c over in grind (arith, nat_tests) in
      let all : nat_eq (length c.cells) rows ≡ false = grind (arith, nat_tests) in
      rw (kept, all) refl
  | inr within ↦ ap (moment_fault moment rows phases) (capped_same most c h (omega arith))
]
