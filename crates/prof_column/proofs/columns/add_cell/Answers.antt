use Rattle.std.proofs.Common.{◌≡◌, ◌≤◌, ◌++◌, ◌∷◌, [], List, Some, None, Option, ℕ, length, arith, sym, ◌∙◌, ap, ℤ}
use Rattle.std.specs.Prelude.{is_some}
use Rattle.prof_raw.specs.declared.rule.Rule.{Rule}
use Rattle.prof_raw.specs.Cells.{Cells}
use Rattle.prof_raw.specs.declared.rule.BadCell.{BadCell}
use Rattle.prof_column.proofs.Adding.{add-more, added-ok, added-err, or-first, or-later}
use Rattle.prof_column.proofs.columns.add_cell.Goals as goal
use Rattle.prof_column.proofs.columns.add_cell.Goals.{then-is_none, else-is_none}

row_is : (r : Rule) (m n : ℕ) → m ≡ n → ◌≡◌ {A = Option BadCell} (Some (record { row = m; rule = r })) (Some (record { row = n; rule = r }))
row_is r m n e = ap (λ (k : ℕ). let b : Option BadCell = Some (record { row = k; rule = r }) in b) e

pub returns-then-len-most : goal.returns-then-len-most
returns-then-len-most c = add-more c.args.most c.args.column.now c.args.cell (let l = ap (λ (d : Cells). length d.cells) c.column.view_is in let v = c.len.ensures in omega arith)

pub returns-in_ok-push-in-Ok : goal.returns-in_ok-push-in-Ok
returns-in_ok-push-in-Ok c =
    let old = c.args.column.now in
    let few : length old.cells ≤ c.args.most = let l = ap (λ (d : Cells). length d.cells) c.column.view_is in let v = c.len.ensures in omega arith in
    let state = ap (λ (d : Cells). d.state) c.column.view_is in
    let cells = c.in_ok-push-in-Ok.ensures ∙ ap (λ (d : Cells). d.cells ++ c.in-Ok.value ∷ []) c.column.view_is in
    let bad = ap (λ (d : Cells). d.bad) c.column.view_is in
    added-ok c.args.most old c.args.cell c.in-Ok.value _ _ _ c.in-Ok.is few state cells bad

pub returns-in_ok-push-in-Err : goal.returns-in_ok-push-in-Err
returns-in_ok-push-in-Err c =
    let old = c.args.column.now in
    let few : length old.cells ≤ c.args.most = let l = ap (λ (d : Cells). length d.cells) c.column.view_is in let v = c.len.ensures in omega arith in
    let state = ap (λ (d : Cells). d.state) c.column.view_is in
    let cells = ap (λ (d : Cells). d.cells) c.column.view_is in
    let bad = ap (λ (d : Cells). d.bad) c.column.view_is in
    elim c.if-is_none.branch [
      | then-is_none w ↦
          let same = rw w.column-inside-is at c.in_ok-push-in-Err.ensures in
          rw w.column-inside-is (added-err c.args.most old c.args.cell c.in-Err.rule _ _ _ c.in-Err.is few state (same ∙ ap (λ (l : List (Option ℤ)). l ++ None ∷ []) cells) (row_is c.in-Err.rule _ (length old.cells) (let v = w.len-row.ensures in let l = ap (λ (x : List (Option ℤ)). length x) cells in omega arith) ∙ sym (or-first old.bad _ (sym (ap (λ (b : Option BadCell). is_some b) bad) ∙ w.if-is_none.ensures))))
      | else-is_none w ↦
          let same = rw w.column-inside-is at c.in_ok-push-in-Err.ensures in
          rw w.column-inside-is (added-err c.args.most old c.args.cell c.in-Err.rule _ _ _ c.in-Err.is few state (same ∙ ap (λ (l : List (Option ℤ)). l ++ None ∷ []) cells) (bad ∙ sym (or-later old.bad _ (sym (ap (λ (b : Option BadCell). is_some b) bad) ∙ w.if-is_none.ensures))))
    ]
