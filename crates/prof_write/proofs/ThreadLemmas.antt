-- Threads one after another, and their stack rows.
use Rattle.std.proofs.Common.{◌≡◌, ◌∙◌, ◌<◌, ◌≤◌, ℕ, ◌+◌, List, [], ◌∷◌, ◌++◌, Some, arith, length, take, drop, get_or, refl, sym, ap, take-append-drop}
use Rattle.std.specs.Prelude.{map, option_map, slice_get}
use Rattle.std.proofs.lemmas.List.{take_more}
use Rattle.std.proofs.lemmas.List.Sums.{sum_by-append}
use Rattle.std.proofs.lemmas.Option.{get_or_from_slice_get, slice_get-map, slice_get_read}
use Rattle.prof_tables.specs.Threads.{ThreadTables}
use Rattle.prof_write.specs.Written.{stack_rows}

-- an item of a list, as contracts see it
pub seen_at : {A B : Type 0} (see : A → B) (xs : List A) (i : ℕ) (x : A) → i < length xs → x ≡ get_or xs i x → slice_get (map see xs) i ≡ Some (see x)
seen_at see xs i x within is = slice_get-map see xs i ∙ ap (option_map see) (slice_get_read xs (length xs) i x refl within is)

-- the stack rows of one thread more
pub rows_more : (ts : List ThreadTables) (i : ℕ) (t : ThreadTables) → i < length ts → slice_get ts i ≡ Some t → stack_rows (take (i + 1) ts) ≡ stack_rows (take i ts) + length t.shared.stacks
rows_more ts i t within is =
    let one : stack_rows (take i ts ++ t ∷ []) ≡ stack_rows (take i ts) + stack_rows (t ∷ []) = sum_by-append (λ (u : ThreadTables). length u.shared.stacks) (take i ts) (t ∷ []) in
    ap stack_rows (take_more ts i t within ∙ ap (λ u. take i ts ++ u ∷ []) (get_or_from_slice_get ts i t t is)) ∙ one ∙ ap (λ n. stack_rows (take i ts) + n) (omega arith)

-- those of the first threads aren't more than those of all
pub rows_within : (ts : List ThreadTables) (i : ℕ) → stack_rows (take i ts) ≤ stack_rows ts
rows_within ts i =
    let parts : stack_rows ts ≡ stack_rows (take i ts) + stack_rows (drop i ts) =
    ap stack_rows (sym (take-append-drop i ts)) ∙ sum_by-append (λ (u : ThreadTables). length u.shared.stacks) (take i ts) (drop i ts) in
    omega arith
