-- What holds of the rows that a loop has passed, and of the next one.
use Rattle.std.proofs.Common.{◌≡◌, ◌∙◌, ℕ, ◌+◌, ◌<◌, List, Option, None, Some, length, get_or, refl, sym, ap, subst, arith, inl, inr}
use Rattle.std.specs.Prelude.{IfSome, map, slice_get}
use Rattle.std.proofs.lemmas.Bool.{cases_lt}
use Rattle.std.proofs.lemmas.Option.{get_or_from_slice_get, slice_get_read}
use Rattle.prof_back.proofs.Columns.{length_map}
use Rattle.prof_back.proofs.MarkersBack.{at_map}
use Rattle.prof_back.proofs.TablesBack.{at_place}

-- each of the first so many rows
abbrev pub Before : {A : Type 0} → (A → Type 0) → List A → ℕ → Type 0
Before {A} P xs n = (k : ℕ) → k < n → (d : A) → P (get_or xs k d)

one_at : {A : Type 0} (P : A → Type 0) (xs : List A) (i : ℕ) (x : A) → slice_get xs i ≡ Some x → Before P xs i → P x → Before P xs (i + 1)
one_at {A} P xs i x at before here k less d = elim (cases_lt k i) [
  | inl l ↦ before k l d
  | inr g ↦ (let same : i ≡ k = omega arith in
      let Q : ℕ → Type 0 = λ n. P (get_or xs n d) in
      subst Q same (subst P (sym (get_or_from_slice_get xs i x d at)) here))
]

-- a row, and a value that is equal to it
pub one_more : {A : Type 0} (P : A → Type 0) (xs : List A) (i : ℕ) (x y : A) → i < length xs → x ≡ get_or xs i x → Before P xs i → y ≡ x → P y → Before P xs (i + 1)
one_more P xs i x y inside is before same here = one_at P xs i x (slice_get_read xs (length xs) i x refl inside is) before (subst P same here)

-- a row that was asked for
pub one_more_found : {A : Type 0} (P : A → Type 0) (xs : List A) (i : ℕ) (found : Option A) → i < length xs → found ≡ slice_get xs i → Before P xs i → IfSome found P → Before P xs (i + 1)
one_more_found P xs i None inside is before here = let place = at_place xs i inside in absurd (let none : None ≡ Some place.0 = is ∙ place.1 in cc)
one_more_found P xs i (Some x) inside is before here = one_at P xs i x (sym is) before here

-- a row that is made of another
pub one_more_made : {A B : Type 0} (P : B → Type 0) (f : A → B) (rows items : List A) (all : List B) (i : ℕ) (x : A) (y : B) → map f rows ≡ all → items ≡ rows → i < length items →
    x ≡ get_or items i x → Before P all i → y ≡ f x → P y → Before P all (i + 1)
one_more_made {A} P f rows items all i x y made same inside is before known here =
    let at : slice_get items i ≡ Some x = slice_get_read items (length items) i x refl inside is in
    let Q : List A → Type 0 = λ l. slice_get l i ≡ Some x in
    let found = at_map f rows i x (subst Q same at) in
    one_at P all i (f x) (ap (λ (l : List _). slice_get l i) (sym made) ∙ found) before (subst P known here)

pub many_made : {A B : Type 0} (f : A → B) (rows items : List A) (all : List B) → map f rows ≡ all → items ≡ rows → length all ≡ length items
many_made f rows items all made same = ap length (sym made) ∙ (length_map f rows ∙ ap length (sym same))
