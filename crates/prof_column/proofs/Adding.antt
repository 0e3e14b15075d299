-- A column as its cells are gathered.
use Rattle.std.proofs.Common.{◌≡◌, ℕ, ◌<◌, ◌≤◌, Option, Some, None, Ok, Err, List, [], ◌∷◌, ◌++◌, true, false, length, refl, sym, ◌∙◌, ap, subst, arith}
use Rattle.std.specs.Prelude.{ℤ, is_some}
use Rattle.std.specs.Option.{option_or}
use Rattle.prof_grammar.specs.Value.{Value}
use Rattle.prof_raw.specs.declared.rule.Rule.{Rule}
use Rattle.prof_raw.specs.declared.rule.BadCell.{BadCell}
use Rattle.prof_raw.specs.declared.raw.State.{State}
use Rattle.prof_raw.specs.Cells.{Cells}
use Rattle.prof_layout.specs.Columns.{Cell}
use Rattle.prof_layout.proofs.Gathering.{values-more, values-ok, values-err}
use Rattle.prof_column.specs.Columns.{kept_by}

-- the cell of one more value was added
abbrev pub IsAdded : Cell → ℕ → Cells → Cells → Type 0
IsAdded cell most old new = (read : Value → Cell) (vs : List Value) (v : Value) → cell ≡ read v → old ≡ kept_by read most vs → new ≡ kept_by read most (vs ++ v ∷ [])

pub add-more : (most : ℕ) (old : Cells) (cell : Cell) → most < length old.cells → IsAdded cell most old old
add-more most old cell h = λ read vs v e is. is ∙ sym (values-more read most vs v (let l = ap (λ (c : Cells). length c.cells) is in omega arith))

pub add-ok : (most : ℕ) (old new : Cells) (value : Option ℤ) → length old.cells ≤ most → new ≡ record old { cells = old.cells ++ value ∷ [] } → IsAdded (Ok value) most old new
add-ok most old new value h n = λ read vs v e is.
    n ∙ ap (λ (c : Cells). let k : Cells = record c { cells = c.cells ++ value ∷ [] } in k) is ∙ sym (values-ok read most vs v value (let l = ap (λ (c : Cells). length c.cells) is in omega arith) (sym e))

pub add-err : (most : ℕ) (old new : Cells) (r : Rule) → length old.cells ≤ most →
    new ≡ record { state = old.state; cells = old.cells ++ None ∷ []; bad = option_or old.bad (Some (record { row = length old.cells; rule = r })) } → IsAdded (Err r) most old new
add-err most old new r h n = λ read vs v e is.
    n
    ∙ ap (λ (c : Cells). let k : Cells = record { state = c.state; cells = c.cells ++ None ∷ []; bad = option_or c.bad (Some (record { row = length c.cells; rule = r })) } in k) is
    ∙ sym (values-err read most vs v r (let l = ap (λ (c : Cells). length c.cells) is in omega arith) (sym e))

pub added-ok : (most : ℕ) (old : Cells) (cell : Cell) (value : Option ℤ) (state : State) (cells : List (Option ℤ)) (bad : Option BadCell) → cell ≡ Ok value → length old.cells ≤ most →
    state ≡ old.state → cells ≡ old.cells ++ value ∷ [] → bad ≡ old.bad → IsAdded cell most old (record { state = state; cells = cells; bad = bad })
added-ok most old cell value state cells bad e h s c b = subst (λ (k : Cell). IsAdded k most old (record { state = state; cells = cells; bad = bad })) (sym e) (add-ok most old _ value h (rw (s, c, b) refl))

pub added-err : (most : ℕ) (old : Cells) (cell : Cell) (r : Rule) (state : State) (cells : List (Option ℤ)) (bad : Option BadCell) → cell ≡ Err r → length old.cells ≤ most →
    state ≡ old.state → cells ≡ old.cells ++ None ∷ [] → bad ≡ option_or old.bad (Some (record { row = length old.cells; rule = r })) → IsAdded cell most old (record { state = state; cells = cells; bad = bad })
added-err most old cell r state cells bad e h s c b = subst (λ (k : Cell). IsAdded k most old (record { state = state; cells = cells; bad = bad })) (sym e) (add-err most old _ r h (rw (s, c, b) refl))

pub or-first : {X : Type 0} (o : Option X) (x : X) → is_some o ≡ false → option_or o (Some x) ≡ Some x
or-first None x h = refl
or-first (Some y) x h = cc

pub or-later : {X : Type 0} (o p : Option X) → is_some o ≡ true → option_or o p ≡ o
or-later None p h = cc
or-later (Some y) p h = refl
