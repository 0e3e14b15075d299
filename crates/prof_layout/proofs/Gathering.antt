-- A column, one more cell at a time.
use Rattle.std.proofs.Common.{◌≡◌, ℕ, suc, ◌+◌, ◌<◌, ◌≤◌, Option, None, Some, Ok, Err, List, [], ◌∷◌, ◌++◌, false, refl, sym, ◌∙◌, ap, arith, length, take, inl, inr}
use Rattle.std.specs.Prelude.{ℤ, map, nat_le}
use Rattle.std.specs.Option.{option_or}
use Rattle.std.proofs.lemmas.Bool.{cases_lt}
use Rattle.std.proofs.lemmas.Bool.Decides.{nat_tests}
use Rattle.std.proofs.lemmas.List.{map_push, length-map}
use Rattle.prof_grammar.specs.Value.{Value}
use Rattle.prof_raw.specs.declared.raw.State.TheVariants.{Array}
use Rattle.prof_raw.specs.declared.rule.Rule.{Rule}
use Rattle.prof_raw.specs.declared.rule.BadCell.{BadCell}
use Rattle.prof_raw.specs.Cells.{Cells}
use Rattle.prof_layout.specs.Columns.{Cell, cell_value, first_bad, gathered, kept_bad, capped}
use Rattle.prof_layout.proofs.Capped.{gathered_is, capped_same}
use Rattle.prof_layout.proofs.Items.{length-push, kept-full, kept-whole, kept-push}

pub first_bad-ok : (row : ℕ) (cells : List Cell) (value : Option ℤ) → first_bad row (cells ++ Ok value ∷ []) ≡ first_bad row cells
first_bad-ok row [] value = refl
first_bad-ok row (Ok w ∷ cells) value = first_bad-ok (suc row) cells value
first_bad-ok row (Err r ∷ cells) value = refl

pub first_bad-err : (row : ℕ) (cells : List Cell) (r : Rule) → first_bad row (cells ++ Err r ∷ []) ≡ option_or (first_bad row cells) (Some (record { row = row + length cells; rule = r }))
first_bad-err row [] r = let e : row ≡ row + 0 = omega arith in ap (λ (n : ℕ). let b : Option BadCell = Some (record { row = n; rule = r }) in b) e
first_bad-err row (Ok w ∷ cells) r =
    first_bad-err (suc row) cells r
    ∙ (let k : suc row + length cells ≡ row + suc (length cells) = omega arith in
    ap (λ (n : ℕ). option_or (first_bad (suc row) cells) (let b : Option BadCell = Some (record { row = n; rule = r }) in b)) k)
first_bad-err row (Err s ∷ cells) r = refl

-- a cell with a number or null
pub gathered-ok : (cells : List Cell) (value : Option ℤ) → gathered (cells ++ Ok value ∷ []) ≡ record (gathered cells) { cells = map cell_value cells ++ value ∷ [] }
gathered-ok cells value = rw (map_push cell_value cells (Ok value), first_bad-ok 0 cells value) refl

-- a cell that breaks a rule
pub gathered-err : (cells : List Cell) (r : Rule) →
    gathered (cells ++ Err r ∷ []) ≡ record { state = Array; cells = map cell_value cells ++ None ∷ []; bad = option_or (first_bad 0 cells) (Some (record { row = length cells; rule = r })) }
gathered-err cells r =
    let zero : 0 + length cells ≡ length cells = omega arith in
    let bad : first_bad 0 (cells ++ Err r ∷ []) ≡ option_or (first_bad 0 cells) (Some (record { row = length cells; rule = r })) =
    first_bad-err 0 cells r ∙ ap (λ (n : ℕ). option_or (first_bad 0 cells) (let b : Option BadCell = Some (record { row = n; rule = r }) in b)) zero in
    rw (map_push cell_value cells (Err r), bad) refl

-- what is kept of the column of these cells
abbrev pub kept : ℕ → List Cell → Cells
kept most cells = capped most (gathered cells)

-- the column of no cells
pub kept-none : (most : ℕ) → kept most [] ≡ record { state = Array; cells = []; bad = None }
kept-none most = refl

few-cells : (most : ℕ) (cells : List Cell) → length (kept most cells).cells ≤ most → length cells ≤ most
few-cells most cells h =
    let whole : take (suc most) (map cell_value cells) ≡ map cell_value cells = kept-whole most (map cell_value cells) h in
    let e : length (take (suc most) (map cell_value cells)) ≡ length (map cell_value cells) = ap (λ (t : List (Option ℤ)). length t) whole in
    let l = length-map cells cell_value in
    omega arith

-- where no more than the most are kept, each is
pub kept-all : (most : ℕ) (cells : List Cell) → length cells ≤ suc most → kept most cells ≡ gathered cells
kept-all most cells h = capped_same most (gathered cells) (gathered_is cells) (let l = length-map cells cell_value in omega arith)

kept_bad-full : (most row : ℕ) (bad : Option BadCell) (r : Rule) → most < row → kept_bad most (option_or bad (Some (record { row = row; rule = r }))) ≡ kept_bad most bad
kept_bad-full most row (Some b) r h = refl
kept_bad-full most row None r h = let e : nat_le row most ≡ false = grind (arith, nat_tests) in rw e refl

full-cells : (most : ℕ) (cells : List Cell) → most < length (kept most cells).cells → most < length cells
full-cells most cells h = elim (cases_lt most (length cells)) [
  | inl over ↦ over
  | inr within ↦ (let e : length (kept most cells).cells ≡ length (map cell_value cells) = ap (λ (c : Cells). length c.cells) (kept-all most cells (omega arith)) in let l = length-map cells cell_value in absurd (omega arith))
]

-- where more than the most are kept, another cell changes nothing
pub kept-more : (most : ℕ) (cells : List Cell) (c : Cell) → most < length (kept most cells).cells → kept most (cells ++ c ∷ []) ≡ kept most cells
kept-more most cells (Ok value) h =
    ap (capped most) (gathered-ok cells value)
    ∙ ap (λ (t : List (Option ℤ)). let k : Cells = record { state = Array; cells = t; bad = kept_bad most (first_bad 0 cells) } in k) (kept-full most (map cell_value cells) value h)
kept-more most cells (Err r) h =
    let over : most < length cells = full-cells most cells h in
    ap (capped most) (gathered-err cells r)
    ∙ ap (λ (t : List (Option ℤ)). let k : Cells = record { state = Array; cells = t; bad = kept_bad most (option_or (first_bad 0 cells) (Some (record { row = length cells; rule = r }))) } in k) (kept-full most (map cell_value cells) None h)
    ∙ ap (λ (b : Option BadCell). let k : Cells = record { state = Array; cells = take (suc most) (map cell_value cells); bad = b } in k) (kept_bad-full most (length cells) (first_bad 0 cells) r over)

-- else a number or null is kept behind the others
pub kept-ok : (most : ℕ) (cells : List Cell) (value : Option ℤ) → length (kept most cells).cells ≤ most →
    kept most (cells ++ Ok value ∷ []) ≡ record (kept most cells) { cells = (kept most cells).cells ++ value ∷ [] }
kept-ok most cells value h =
    ap (capped most) (gathered-ok cells value)
    ∙ ap (λ (t : List (Option ℤ)). let k : Cells = record { state = Array; cells = t; bad = kept_bad most (first_bad 0 cells) } in k) (kept-push most (map cell_value cells) value h)

-- and of a cell that breaks a rule null is kept, with the rule where it is the first
pub kept-err : (most : ℕ) (cells : List Cell) (r : Rule) → length (kept most cells).cells ≤ most →
    kept most (cells ++ Err r ∷ []) ≡ record {
      state = Array;
      cells = (kept most cells).cells ++ None ∷ [];
      bad = option_or (kept most cells).bad (Some (record { row = length (kept most cells).cells; rule = r }));
    }
kept-err most cells r h =
    let few : length cells ≤ most = few-cells most cells h in
    let now : kept most cells ≡ gathered cells = kept-all most cells (omega arith) in
    let then : kept most (cells ++ Err r ∷ []) ≡ gathered (cells ++ Err r ∷ []) = kept-all most (cells ++ Err r ∷ []) (let l = length-push cells (Err r) in omega arith) in
    let same : length cells ≡ length (map cell_value cells) = sym (length-map cells cell_value) in
    then
    ∙ gathered-err cells r
    ∙ ap (λ (n : ℕ). let k : Cells = record { state = Array; cells = map cell_value cells ++ None ∷ []; bad = option_or (first_bad 0 cells) (Some (record { row = n; rule = r })) } in k) same
    ∙ ap (λ (c : Cells). let k : Cells = record { state = Array; cells = c.cells ++ None ∷ []; bad = option_or c.bad (Some (record { row = length c.cells; rule = r })) } in k) (sym now)

-- The same for the cells of values, by what is read of the next one.
abbrev pub kept_values : (Value → Cell) → ℕ → List Value → Cells
kept_values read most vs = kept most (map read vs)

pub values-more : (read : Value → Cell) (most : ℕ) (vs : List Value) (v : Value) → most < length (kept_values read most vs).cells → kept_values read most (vs ++ v ∷ []) ≡ kept_values read most vs
values-more read most vs v h = ap (kept most) (map_push read vs v) ∙ kept-more most (map read vs) (read v) h

pub values-ok : (read : Value → Cell) (most : ℕ) (vs : List Value) (v : Value) (value : Option ℤ) → length (kept_values read most vs).cells ≤ most → read v ≡ Ok value →
    kept_values read most (vs ++ v ∷ []) ≡ record (kept_values read most vs) { cells = (kept_values read most vs).cells ++ value ∷ [] }
values-ok read most vs v value h e = ap (kept most) (map_push read vs v ∙ ap (λ (c : Cell). map read vs ++ c ∷ []) e) ∙ kept-ok most (map read vs) value h

pub values-err : (read : Value → Cell) (most : ℕ) (vs : List Value) (v : Value) (r : Rule) → length (kept_values read most vs).cells ≤ most → read v ≡ Err r →
    kept_values read most (vs ++ v ∷ []) ≡ record {
      state = Array;
      cells = (kept_values read most vs).cells ++ None ∷ [];
      bad = option_or (kept_values read most vs).bad (Some (record { row = length (kept_values read most vs).cells; rule = r }));
    }
values-err read most vs v r h e = ap (kept most) (map_push read vs v ∙ ap (λ (c : Cell). map read vs ++ c ∷ []) e) ∙ kept-err most (map read vs) r h
