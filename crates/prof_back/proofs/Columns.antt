-- Written columns and lists of strings are read as what they are written of.
use Rattle.std.proofs.Common.{◌≡◌, ◌∙◌, ℕ, suc, ◌≤◌, List, [], ◌∷◌, Option, None, Some, length, refl, ap, arith, Bool, true}
use Rattle.std.specs.Prelude.{ℤ, map, nat_le, not, slice_get}
use Rattle.std.specs.List.{AllByRecursion}
use Rattle.std.proofs.lemmas.Bool.Decides.{nat_tests}
use Rattle.prof_grammar.specs.Value.{Value, array, string, items}
use Rattle.prof_raw.specs.declared.limits.TheConstants.{MOST_STRINGS}
use Rattle.prof_layout.specs.Columns.{Cell, cell_value, column_of, first_bad, gathered}
use Rattle.prof_layout.specs.Lists.{first_where, is_text, list_fault, text_of, texts_of}
use Rattle.prof_layout.specs.Tables.{strings_fault}
use Rattle.prof_write.specs.Compact.{values_of}
use Rattle.prof_write.specs.Cells.{column}
use Rattle.prof_back.specs.Gathered.{passed, column_with}

pub items_back : (vs : List Value) → items (values_of vs) ≡ vs
items_back [] = refl
items_back (v ∷ vs) = ap (λ (l : List Value). v ∷ l) (items_back vs)

none_bad : (row : ℕ) (cells : List (Option ℤ)) → first_bad row (map passed cells) ≡ None
none_bad row [] = refl
none_bad row (c ∷ cells) = none_bad (suc row) cells

values_back : (cells : List (Option ℤ)) → map cell_value (map passed cells) ≡ cells
values_back [] = refl
values_back (c ∷ cells) = ap (λ (l : List (Option ℤ)). c ∷ l) (values_back cells)

gathered_back : (cells : List (Option ℤ)) → gathered (map passed cells) ≡ column_with cells
gathered_back cells = rw (none_bad 0 cells, values_back cells) refl

-- an array of values that are read as such cells
pub column_back : (read : Value → Cell) (needed : Bool) (vs : List Value) (cells : List (Option ℤ)) → map read vs ≡ map passed cells →
    column_of read needed (Some (array (values_of vs))) ≡ column_with cells
column_back read needed vs cells e = ap (λ (l : List Value). gathered (map read l)) (items_back vs) ∙ ap gathered e ∙ gathered_back cells

-- rows, each of whose cells is read so
pub rows_back : {A : Type 0} (read : Value → Cell) (cell : A → Value) (told : A → Option ℤ) (rows : List A) →
    ((i : ℕ) (r : A) → slice_get rows i ≡ Some r → read (cell r) ≡ passed (told r)) → map read (map cell rows) ≡ map passed (map told rows)
rows_back read cell told [] h = refl
rows_back read cell told (r ∷ rows) h =
    ap (λ (c : Cell). c ∷ map read (map cell rows)) (h 0 r refl) ∙ ap (λ (l : List Cell). passed (told r) ∷ l) (rows_back read cell told rows (λ i s e. h (suc i) s e))

-- a column of them
pub cells_back : {A : Type 0} (read : Value → Cell) (needed : Bool) (cell : A → Value) (told : A → Option ℤ) (rows : List A) →
    ((i : ℕ) (r : A) → slice_get rows i ≡ Some r → read (cell r) ≡ passed (told r)) → column_of read needed (Some (column cell rows)) ≡ column_with (map told rows)
cells_back read needed cell told rows h = column_back read needed (map cell rows) (map told rows) (rows_back read cell told rows h)

-- ---- lists

first_fits : (fits : Value → Bool) (row : ℕ) (vs : List Value) → AllByRecursion (λ v. fits v ≡ true) vs → first_where (λ v. not (fits v)) row vs ≡ None
first_fits fits row [] h = refl
first_fits fits row (v ∷ vs) h = let this : fits v ≡ true = h.0 in rw this (first_fits fits (suc row) vs h.1)

-- a list of no more items than the most, which all fit
pub list_passes : (fits : Value → Bool) (most : ℕ) (vs : List Value) → length vs ≤ most → AllByRecursion (λ v. fits v ≡ true) vs → list_fault fits most vs ≡ None
list_passes fits most vs few h =
    let test : nat_le (length vs) most ≡ true = grind (arith, nat_tests) in
    let all : first_where (λ v. not (fits v)) 0 vs ≡ None = first_fits fits 0 vs h in
    rw (test, all) refl

all_texts : (texts : List (List ℕ)) → AllByRecursion (λ v. is_text v ≡ true) (map string texts)
all_texts [] = tt
all_texts (text ∷ texts) = (refl, all_texts texts)

pub length_map : {A B : Type 0} (f : A → B) (xs : List A) → length (map f xs) ≡ length xs
length_map f [] = refl
length_map f (x ∷ xs) = ap suc (length_map f xs)

texts_told : (texts : List (List ℕ)) → map text_of (map string texts) ≡ texts
texts_told [] = refl
texts_told (text ∷ texts) = ap (λ (l : List (List ℕ)). text ∷ l) (texts_told texts)

pub texts_back : (texts : List (List ℕ)) → texts_of (Some (column string texts)) ≡ texts
texts_back texts = ap (map text_of) (items_back (map string texts)) ∙ texts_told texts

pub strings_pass : (texts : List (List ℕ)) → length texts ≤ MOST_STRINGS → strings_fault (Some (column string texts)) ≡ None
strings_pass texts few =
    let many = length_map string texts in
    ap (list_fault is_text MOST_STRINGS) (items_back (map string texts)) ∙ list_passes is_text MOST_STRINGS (map string texts) (omega arith) (all_texts texts)
