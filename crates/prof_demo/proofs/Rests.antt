-- The text that is left loses one cell after another, each with what stands behind it.
use Rattle.std.proofs.Common.{◌≡◌, ◌∙◌, ◌<◌, ◌≤◌, ℕ, ◌+◌, ◌^◌, zero, suc, List, [], ◌∷◌, ◌++◌, length, drop, get_or, refl, sym, ap, arith, append_assoc, Some}
use Rattle.std.specs.Prelude.{codes}
use Rattle.std.specs.Option.{ForSome}
use Rattle.std.specs.declared.option.Option.{Option}
use Rattle.std.specs.List.{join_with_byte}
use Rattle.prof_demo.specs.declared.part.Part.{Part}
use Rattle.prof_demo.specs.declared.part.Part.TheVariants as p
use Rattle.prof_demo.specs.Generated.{generated, head_text, frames, prefixes, samples_text}
use Rattle.prof_demo.specs.Rest.{behind, cell_text, cells, closing, next, rest, rows}
use Rattle.prof_demo.proofs.Below.{cell_at, length-cells}

joined_cell : (xs : List (List ℕ)) (i : ℕ) → i + 1 < length xs → join_with_byte 44 (drop i xs) ≡ (get_or xs i [] ++ 44 ∷ []) ++ join_with_byte 44 (drop (i + 1) xs)
joined_cell [] i h = absurd (omega arith)
joined_cell (x ∷ []) zero h = absurd (omega arith)
joined_cell (x ∷ y ∷ xs) zero h = sym (append_assoc x (44 ∷ []) (join_with_byte 44 (y ∷ xs)))
joined_cell (x ∷ xs) (suc i) h = let e : suc i + 1 ≡ suc (i + 1) = omega arith in rw e (joined_cell xs i (omega arith))

joined_last : (xs : List (List ℕ)) (i : ℕ) → i + 1 ≡ length xs → join_with_byte 44 (drop i xs) ≡ get_or xs i []
joined_last [] i h = absurd (omega arith)
joined_last (x ∷ []) zero h = refl
joined_last (x ∷ y ∷ xs) zero h = absurd (omega arith)
joined_last (x ∷ xs) (suc i) h = joined_last xs i (omega arith)

cell_is : (number : ℕ) (part : Part) (row : ℕ) → row < rows part → get_or (cells number part) row [] ≡ cell_text number part row
cell_is number part row h =
    let len = length-cells (cell_text number part) (rows part) in
    cell_at (cell_text number part) (rows part) row [] (omega (arith, len))

-- a cell that isn't the last, and its comma
pub rest_cell : (number : ℕ) (part : Part) (row : ℕ) → row + 1 < rows part
    → rest number (Some part) row ≡ (cell_text number part row ++ 44 ∷ []) ++ rest number (Some part) (row + 1)
rest_cell number part row h =
    let len = length-cells (cell_text number part) (rows part) in
    ap (λ l. l ++ behind number part) (joined_cell (cells number part) row (omega (arith, len)) ∙ ap (λ c. (c ++ 44 ∷ []) ++ join_with_byte 44 (drop (row + 1) (cells number part))) (cell_is number part row (omega arith)))
    ∙ append_assoc (cell_text number part row ++ 44 ∷ []) (join_with_byte 44 (drop (row + 1) (cells number part))) (behind number part)

behind_next : (number : ℕ) (part : Part) → behind number part ≡ closing part ++ rest number (next part) 0
behind_next number p.Frames = refl
behind_next number p.Prefixes = refl
behind_next number p.Stacks = refl
behind_next number p.Times = refl

-- the last cell of a column, and the text up to the next
pub rest_last : (number : ℕ) (part : Part) (row : ℕ) → row + 1 ≡ rows part
    → rest number (Some part) row ≡ (cell_text number part row ++ closing part) ++ rest number (next part) 0
rest_last number part row h =
    let len = length-cells (cell_text number part) (rows part) in
    ap (λ l. l ++ behind number part) (joined_last (cells number part) row (omega (arith, len)) ∙ cell_is number part row (omega arith))
    ∙ ap (λ l. cell_text number part row ++ l) (behind_next number part)
    ∙ sym (append_assoc (cell_text number part row) (closing part) (rest number (next part) 0))

-- the whole is the head, and what is left behind it
pub generated_is : (number : ℕ) → head_text ++ rest number (Some p.Frames) 0 ≡ generated number
generated_is number =
    let a = join_with_byte 44 frames in
    let b = join_with_byte 44 prefixes in
    let c = codes "],\"prefix\":[" in
    sym (append_assoc head_text (a ++ (c ++ b)) (samples_text number)
    ∙ ap (λ l. head_text ++ l) (append_assoc a (c ++ b) (samples_text number) ∙ ap (λ l. a ++ l) (append_assoc c b (samples_text number))))

few_rows : (part : Part) → rows part ≤ 200000
few_rows p.Frames = omega arith
few_rows p.Prefixes = omega arith
few_rows p.Stacks = omega arith
few_rows p.Times = omega arith

-- a row of a column has 32 bits, and so has the next
pub row_fits : (now : Option Part) (part : Part) (row : ℕ) → now ≡ Some part → ForSome now (λ p. row < rows p) → (row < rows part) × (row + 1 < 2 ^ 32)
row_fits now part row e there = (there part e, omega (arith, there part e, few_rows part))

-- the page, a cell on it, and what follows the cell
pub page_cell : (page cell sep text end : List ℕ) (all left : List ℕ) → text ≡ page ++ cell → end ≡ text ++ sep → all ≡ (cell ++ sep) ++ left → end ++ left ≡ page ++ all
page_cell page cell sep text end all left t e a =
    ap (λ l. l ++ left) (e ∙ ap (λ l. l ++ sep) t ∙ append_assoc page cell sep) ∙ append_assoc page (cell ++ sep) left ∙ ap (λ l. page ++ l) (sym a)
