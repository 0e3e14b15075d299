-- Cells by their rows.
use Rattle.std.proofs.Common.{◌≡◌, ◌∙◌, ℕ, ◌<◌, List, [], Option, None, Some, length, get_or, refl, sym, ap, subst, zero-add}
use Rattle.std.specs.Prelude.{map, option_map, slice_get}
use Rattle.std.specs.List.{enumerate_from}
use Rattle.std.proofs.lemmas.List.{length-map}
use Rattle.std.proofs.lemmas.List.FromFn.{get_or-enumerate_from, length-enumerate_from}
use Rattle.std.proofs.lemmas.Option.{get_or_from_slice_get, slice_get-map, slice_get_read}
use Rattle.prof_grammar.specs.Value.{Value}
use Rattle.prof_write.specs.Cells.{texts_of_cells}
use Rattle.prof_write.specs.Compact.{compact}

pub length-cells : {A : Type 0} (cell : A → Value) (rows : List A) → length (texts_of_cells cell rows) ≡ length rows
length-cells cell rows = length-map (map cell rows) compact ∙ length-map rows cell

pub row_within : {A : Type 0} (cell : A → Value) (rows : List A) (i : ℕ) → i < length (texts_of_cells cell rows) → i < length rows
row_within cell rows i h = subst (λ n. i < n) (length-cells cell rows) h

pub two_maps : {A B C : Type 0} (f : A → B) (g : B → C) (o : Option A) → option_map g (option_map f o) ≡ option_map (λ a. g (f a)) o
two_maps f g None = refl
two_maps f g (Some a) = refl

pub text_of_cell : {A : Type 0} (cell : A → Value) (rows : List A) (i : ℕ) (text : List ℕ) → option_map (λ a. compact (cell a)) (slice_get rows i) ≡ Some text →
    get_or (texts_of_cells cell rows) i [] ≡ text
text_of_cell cell rows i text h =
    get_or_from_slice_get (map compact (map cell rows)) i text []
    (slice_get-map compact (map cell rows) i ∙ ap (option_map compact) (slice_get-map cell rows i) ∙ two_maps cell compact (slice_get rows i) ∙ h)

pub text_of_row : {A : Type 0} (cell : A → Value) (rows : List A) (i : ℕ) (row : A) → slice_get rows i ≡ Some row → get_or (texts_of_cells cell rows) i [] ≡ compact (cell row)
text_of_row cell rows i row h = text_of_cell cell rows i (compact (cell row)) (ap (option_map (λ a. compact (cell a))) h)

-- a cell of a list that two functions made
pub mapped_at : {A B C : Type 0} (f : B → C) (g : A → B) (rows : List A) (i : ℕ) (row : A) (d : C) → slice_get rows i ≡ Some row → get_or (map f (map g rows)) i d ≡ f (g row)
mapped_at f g rows i row d h =
    get_or_from_slice_get (map f (map g rows)) i (f (g row)) d
    (slice_get-map f (map g rows) i ∙ ap (option_map f) (slice_get-map g rows i) ∙ two_maps g f (slice_get rows i) ∙ ap (option_map (λ a. f (g a))) h)

same_pair : {A : Type 0} {i j : ℕ} {x y : A} → i ≡ j → x ≡ y → let p : ℕ × A = (i, x) in let q : ℕ × A = (j, y) in p ≡ q
same_pair e f = cc

-- an item with its number
pub numbered_at : {A : Type 0} (xs : List A) (i : ℕ) (x : A) → i < length xs → x ≡ get_or xs i x → slice_get (enumerate_from 0 xs) i ≡ Some (i, x)
numbered_at xs i x within is =
    slice_get_read (enumerate_from 0 xs) (length xs) i (i, x) (sym (length-enumerate_from 0 xs)) within
    (sym (get_or-enumerate_from 0 xs i (i, x) within ∙ same_pair (zero-add i) (sym is)))
