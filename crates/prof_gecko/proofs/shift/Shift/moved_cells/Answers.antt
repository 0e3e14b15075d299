use Rattle.std.proofs.Common.{◌≡◌, ℕ, zero, suc, ◌<◌, ◌≤◌, ◌++◌, ◌∷◌, [], List, Option, None, length, map, take, ap, sym, refl, ◌∙◌, arith, add-one}
use Rattle.std.specs.Prelude.{ℤ, slice_index_or}
use Rattle.std.specs.Option.{option_map}
use Rattle.prof_gecko.specs.Columns.{moved, shift_of}
use Rattle.prof_gecko.proofs.shift.Shift.moved_cells.Goals as goal

map_next : {A B : Type 0} (f : A → B) (xs : List A) (i : ℕ) (d : A) → i < length xs → map f (take (suc i) xs) ≡ map f (take i xs) ++ f (slice_index_or xs i d) ∷ []
map_next f [] i d lt = absurd (omega arith)
map_next f (x ∷ xs) zero d lt = refl
map_next {A} {B} f (x ∷ xs) (suc i) d lt = ap (λ (ys : List B). f x ∷ ys) (map_next f xs i d (omega arith))

map_all : {A B : Type 0} (f : A → B) (xs : List A) (i : ℕ) → length xs ≤ i → map f (take i xs) ≡ map f xs
map_all f [] zero le = refl
map_all f [] (suc i) le = refl
map_all f (x ∷ xs) zero le = absurd (omega arith)
map_all {A} {B} f (x ∷ xs) (suc i) le = ap (λ (ys : List B). f x ∷ ys) (map_all f xs i (omega arith))

pub loop-row-preserved : goal.loop-row-preserved
loop-row-preserved c =
    let f = option_map (moved (shift_of c.args.self)) in
    let cells = c.args.cells.now in
    let lt : c.loop-row.row < length cells = (let e = c.len-row-end.ensures in let t = c.loop-row-test.true in omega arith) in
    rw add-one (c.in_ok-push.ensures ∙ ap (λ (xs : List (Option ℤ)). xs ++ c.moved_cell.result ∷ []) c.loop-row.invariant
    ∙ ap (λ (cell : Option ℤ). map f (take c.loop-row.row cells) ++ cell ∷ []) (c.moved_cell.ensures ∙ ap f c.get.ensures)
    ∙ sym (map_next f cells c.loop-row.row None lt))

pub returns : goal.returns
returns c =
    c.loop-row.invariant ∙ map_all (option_map (moved (shift_of c.args.self))) c.args.cells.now c.loop-row.row (let e = c.len-row-end.ensures in let t = c.loop-row-test.false in omega arith)
