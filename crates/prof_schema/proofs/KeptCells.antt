-- The cells of rows that are kept, one more at a time, and a cell by its place.
use Rattle.std.proofs.Common.{◌≡◌, ℕ, suc, ◌+◌, ◌-◌, ◌<◌, ◌≤◌, List, [], ◌∷◌, ◌++◌, refl, sym, ◌∙◌, ap, arith, append_assoc, length, take, length-append}
use Rattle.std.proofs.lemmas.List.{take_all, take-append-le}
use Rattle.prof_grammar.specs.Value.{Value}
use Rattle.prof_layout.specs.Markers.{data_texts, all_texts}
use Rattle.prof_layout.proofs.Items.{length-push}
use Rattle.prof_layout.proofs.MarkerTexts.{all_texts-push}
use Rattle.prof_schema.specs.RowCells.{cell_kept, cells_kept, row_cells, all_cells, ends_from}
use Rattle.prof_schema.specs.Gathered.{AreCellsOf}
use Rattle.prof_schema.specs.declared.cells.RowCell.{RowCell}
use Rattle.prof_schema.specs.declared.row.RowCells.{RowCells}

pub cells_kept-append : (start : ℕ) (xs ys : List Value) → cells_kept start (xs ++ ys) ≡ cells_kept start xs ++ cells_kept (start + length (all_texts xs)) ys
cells_kept-append start [] ys = let e : start ≡ start + 0 = omega arith in ap (λ (n : ℕ). cells_kept n ys) e
cells_kept-append start (x ∷ xs) ys =
    let here = length (data_texts x) in
    let many : length (all_texts (x ∷ xs)) ≡ here + length (all_texts xs) = length-append (data_texts x) (all_texts xs) in
    let e : start + here + length (all_texts xs) ≡ start + length (all_texts (x ∷ xs)) = omega arith in
    ap (λ (t : List RowCell). cell_kept start x ∷ t) (cells_kept-append (start + here) xs ys ∙ ap (λ (n : ℕ). cells_kept (start + here) xs ++ cells_kept n ys) e)

pub length-cells_kept : (start : ℕ) (xs : List Value) → length (cells_kept start xs) ≡ length xs
length-cells_kept start [] = refl
length-cells_kept start (x ∷ xs) = ap suc (length-cells_kept (start + length (data_texts x)) xs)

pub ends_from-append : (start : ℕ) (xs ys : List Value) → ends_from start (xs ++ ys) ≡ ends_from start xs ++ ends_from (start + length (all_cells xs)) ys
ends_from-append start [] ys = let e : start ≡ start + 0 = omega arith in ap (λ (n : ℕ). ends_from n ys) e
ends_from-append start (x ∷ xs) ys =
    let here = length (row_cells x) in
    let many : length (all_cells (x ∷ xs)) ≡ here + length (all_cells xs) = length-append (row_cells x) (all_cells xs) in
    let e : start + here + length (all_cells xs) ≡ start + length (all_cells (x ∷ xs)) = omega arith in
    ap (λ (t : List ℕ). (start + here) ∷ t) (ends_from-append (start + here) xs ys ∙ ap (λ (n : ℕ). ends_from (start + here) xs ++ ends_from n ys) e)

pub length-ends_from : (start : ℕ) (xs : List Value) → length (ends_from start xs) ≡ length xs
length-ends_from start [] = refl
length-ends_from start (x ∷ xs) = ap suc (length-ends_from (start + length (row_cells x)) xs)

-- ---- one more cell of a row

-- where all that are wanted are kept, another changes nothing
pub cells_full : (first old : RowCells) (vs : List Value) (v : Value) → old.left ≡ 0 → AreCellsOf first vs old → AreCellsOf first (vs ++ v ∷ []) old
cells_full first old vs v none h =
    let left : old.left ≡ first.left - length vs = h.left in
    let few : first.left ≤ length vs = omega arith in
    let count = length-push vs v in
    let same : take first.left (vs ++ v ∷ []) ≡ take first.left vs = take-append-le first.left vs (v ∷ []) few in
    record {
      left = omega arith;
      cells = h.cells ∙ ap (λ (t : List Value). first.cells.items ++ cells_kept (length first.texts.items) t) (sym same);
      texts = h.texts ∙ ap (λ (t : List Value). first.texts.items ++ all_texts t) (sym same);
    }

-- else it is kept behind the others
pub cells_more : (first old new : RowCells) (vs : List Value) (v : Value) (c : RowCell) → 0 < old.left → new.left + 1 ≡ old.left → new.cells.items ≡ old.cells.items ++ c ∷ [] →
    new.texts.items ≡ old.texts.items ++ data_texts v → c ≡ cell_kept (length old.texts.items) v → AreCellsOf first vs old → AreCellsOf first (vs ++ v ∷ []) new
cells_more first old new vs v c some less cells texts is h =
    let left : old.left ≡ first.left - length vs = h.left in
    let count = length-push vs v in
    let whole : take first.left vs ≡ vs = take_all first.left vs (omega arith) in
    let more : take first.left (vs ++ v ∷ []) ≡ vs ++ v ∷ [] = take_all first.left (vs ++ v ∷ []) (omega arith) in
    let start = length first.texts.items in
    let before : old.texts.items ≡ first.texts.items ++ all_texts vs = h.texts ∙ ap (λ (t : List Value). first.texts.items ++ all_texts t) whole in
    let place : length old.texts.items ≡ start + length (all_texts vs) = ap (λ (t : List (List ℕ)). length t) before ∙ length-append first.texts.items (all_texts vs) in
    record {
      left = omega arith;
      cells =
          cells
          ∙ ap (λ (t : List RowCell). t ++ c ∷ []) (h.cells ∙ ap (λ (t : List Value). first.cells.items ++ cells_kept start t) whole)
          ∙ append_assoc first.cells.items (cells_kept start vs) (c ∷ [])
          ∙ ap (λ (x : RowCell). first.cells.items ++ (cells_kept start vs ++ x ∷ [])) (is ∙ ap (λ (n : ℕ). cell_kept n v) place)
          ∙ ap (λ (t : List RowCell). first.cells.items ++ t) (sym (cells_kept-append start vs (v ∷ [])))
          ∙ ap (λ (t : List Value). first.cells.items ++ cells_kept start t) (sym more);
      texts =
          texts
          ∙ ap (λ (t : List (List ℕ)). t ++ data_texts v) before
          ∙ append_assoc first.texts.items (all_texts vs) (data_texts v)
          ∙ ap (λ (t : List (List ℕ)). first.texts.items ++ t) (sym (all_texts-push vs v))
          ∙ ap (λ (t : List Value). first.texts.items ++ all_texts t) (sym more);
    }
