-- Samples by their columns: one more row, and the row at a place.
use Rattle.std.proofs.Common.{◌≡◌, ℕ, zero, suc, ◌+◌, ◌<◌, Option, Some, None, List, [], ◌∷◌, ◌++◌, length, arith, refl, sym, ◌∙◌, ap, add-one}
use Rattle.std.specs.Prelude.{ℤ, take, slice_get, slice_index_or}
use Rattle.prof_tables.specs.declared.rows.SampleRow.{SampleRow}
use Rattle.prof_raw.specs.Cells.{cell_at}
use Rattle.prof_raw.specs.CellValues.{number_of}
use Rattle.prof_tables.specs.Samples.{rows_by}
use Rattle.prof_raw.proofs.PushLemmas.{length-push}

pub rows_by-push : (ss : List (Option ℕ)) (ts ws : List (Option ℤ)) (s : Option ℕ) (t w : Option ℤ) → length ts ≡ length ss → length ws ≡ length ss →
    rows_by (ss ++ s ∷ []) (ts ++ t ∷ []) (ws ++ w ∷ []) ≡ rows_by ss ts ws ++ record { stack = s; time = number_of t; weight = number_of w } ∷ []
rows_by-push [] [] [] s t w h k = refl
rows_by-push [] (u ∷ ts) ws s t w h k = absurd (omega arith)
rows_by-push [] [] (v ∷ ws) s t w h k = absurd (omega arith)
rows_by-push (r ∷ ss) [] ws s t w h k = absurd (omega arith)
rows_by-push (r ∷ ss) (u ∷ ts) [] s t w h k = absurd (omega arith)
rows_by-push (r ∷ ss) (u ∷ ts) (v ∷ ws) s t w h k =
    ap (λ (xs : List SampleRow). record { stack = r; time = number_of u; weight = number_of v } ∷ xs) (rows_by-push ss ts ws s t w (omega arith) (omega arith))

pub length-rows_by : (ss : List (Option ℕ)) (ts ws : List (Option ℤ)) → length ts ≡ length ss → length ws ≡ length ss → length (rows_by ss ts ws) ≡ length ss
length-rows_by [] ts ws h k = refl
length-rows_by (r ∷ ss) [] ws h k = absurd (omega arith)
length-rows_by (r ∷ ss) (u ∷ ts) [] h k = absurd (omega arith)
length-rows_by (r ∷ ss) (u ∷ ts) (v ∷ ws) h k = ap suc (length-rows_by ss ts ws (omega arith) (omega arith))

pub row_at : (ss : List (Option ℕ)) (ts ws : List (Option ℤ)) (k : ℕ) → k < length ss → length ts ≡ length ss → length ws ≡ length ss →
    slice_get (rows_by ss ts ws) k ≡ Some (record { stack = slice_index_or ss k None; time = number_of (cell_at ts k); weight = number_of (cell_at ws k) })
row_at [] ts ws k lt h m = absurd (omega arith)
row_at (r ∷ ss) [] ws k lt h m = absurd (omega arith)
row_at (r ∷ ss) (u ∷ ts) [] k lt h m = absurd (omega arith)
row_at (r ∷ ss) (u ∷ ts) (v ∷ ws) zero lt h m = refl
row_at (r ∷ ss) (u ∷ ts) (v ∷ ws) (suc k) lt h m = row_at ss ts ws k (omega arith) (omega arith) (omega arith)

pub same_row : (s s' : Option ℕ) (t t' w w' : ℤ) → s ≡ s' → t ≡ t' → w ≡ w' → (let r : SampleRow = record { stack = s; time = t; weight = w } in r) ≡ record { stack = s'; time = t'; weight = w' }
same_row s s' t t' w w' e f g = rw (e, f, g) refl

-- within a list the default doesn't count
pub any_default : {A : Type 0} (xs : List A) (k : ℕ) (d e : A) → k < length xs → slice_index_or xs k d ≡ slice_index_or xs k e
any_default [] k d e lt = absurd (omega arith)
any_default (x ∷ xs) zero d e lt = refl
any_default (x ∷ xs) (suc k) d e lt = any_default xs k d e (omega arith)

pub take_next : {A : Type 0} (xs : List A) (i : ℕ) (d : A) → i < length xs → take (suc i) xs ≡ take i xs ++ slice_index_or xs i d ∷ []
take_next [] i d lt = absurd (omega arith)
take_next (x ∷ xs) zero d lt = refl
take_next {A} (x ∷ xs) (suc i) d lt = ap (λ (ys : List A). x ∷ ys) (take_next xs i d (omega arith))

-- one more row of a list, in its columns
pub next_row : (rows : List SampleRow) (i : ℕ) (d : SampleRow) (ss more_ss : List (Option ℕ)) (ts more_ts ws more_ws : List (Option ℤ)) →
    length ts ≡ length ss → length ws ≡ length ss → rows_by ss ts ws ≡ take i rows → i < length rows →
    more_ss ≡ ss ++ (slice_index_or rows i d).stack ∷ [] → more_ts ≡ ts ++ Some (slice_index_or rows i d).time ∷ [] → more_ws ≡ ws ++ Some (slice_index_or rows i d).weight ∷ [] →
    rows_by more_ss more_ts more_ws ≡ take (i + 1) rows
next_row rows i d ss more_ss ts more_ts ws more_ws h k so_far lt es et ew =
    let r = slice_index_or rows i d in
    rw (es, et, ew, add-one) (rows_by-push ss ts ws r.stack (Some r.time) (Some r.weight) h k ∙ ap (λ (xs : List SampleRow). xs ++ r ∷ []) so_far ∙ sym (take_next rows i d lt))

pub longer : {A B : Type 0} (xs more_xs : List A) (ys more_ys : List B) (x : A) (y : B) → length xs ≡ length ys → more_xs ≡ xs ++ x ∷ [] → more_ys ≡ ys ++ y ∷ [] → length more_xs ≡ length more_ys
longer {A} {B} xs more_xs ys more_ys x y h ex ey =
    let m = length-push xs x in let n = length-push ys y in
    let a : length more_xs ≡ length (xs ++ x ∷ []) = ap length ex in
    let b : length more_ys ≡ length (ys ++ y ∷ []) = ap length ey in
    omega arith

pub grown : (ss more_ss : List (Option ℕ)) (ts more_ts ws more_ws : List (Option ℤ)) (r : SampleRow) → length ts ≡ length ss → length ws ≡ length ss →
    more_ss ≡ ss ++ r.stack ∷ [] → more_ts ≡ ts ++ Some r.time ∷ [] → more_ws ≡ ws ++ Some r.weight ∷ [] → rows_by more_ss more_ts more_ws ≡ rows_by ss ts ws ++ r ∷ []
grown ss more_ss ts more_ts ws more_ws r h k es et ew = rw (es, et, ew) (rows_by-push ss ts ws r.stack (Some r.time) (Some r.weight) h k)
