-- Lists of rows that grow at their end.
use Rattle.std.proofs.Common.{◌≡◌, ℕ, zero, suc, ◌+◌, ◌<◌, Option, Some, List, [], ◌∷◌, ◌++◌, length, arith, refl, sym, ◌∙◌, ap, subst, inl, inr, add-one}
use Rattle.std.specs.Prelude.{slice_get, IfSome, All}
use Rattle.std.proofs.lemmas.Bool.{cases_lt}
use Rattle.std.proofs.lemmas.List.Elements.{All-push}
use Rattle.std.proofs.lemmas.Option.{slice_get_within, get_or_from_slice_get}
use Rattle.prof_tables.specs.declared.rows.StackRow.{StackRow}
use Rattle.prof_tables.specs.declared.rows.FrameRow.{FrameRow}
use Rattle.prof_raw.specs.Cells.{SharedCells}
use Rattle.prof_raw.specs.Cells.{cell}
use Rattle.prof_tables.specs.Frames.{stack_after}
use Rattle.prof_raw.specs.CellValues.{index_of, index_or_none}
use Rattle.prof_tables.specs.Paths.{PrefixesBelow}
use Rattle.prof_tables.specs.Rows.{rows_of, stacks_below, stacks_of, frames_of, frame_at}
use Rattle.prof_raw.proofs.PushLemmas.{slice_get-push_other, slice_get-push_last, length-push}

pub length-rows_of : {A : Type 0} (row : ℕ → A) (n : ℕ) → length (rows_of row n) ≡ n
length-rows_of row zero = refl
length-rows_of row (suc n) = length-push (rows_of row n) (row n) ∙ ap suc (length-rows_of row n)

pub slice_get-rows_of : {A : Type 0} (row : ℕ → A) (n i : ℕ) → i < n → slice_get (rows_of row n) i ≡ Some (row i)
slice_get-rows_of row zero i h = absurd (omega arith)
slice_get-rows_of {A} row (suc n) i h = elim (cases_lt i n) [
  | inl l ↦ (let e = length-rows_of row n in let below : i < length (rows_of row n) = omega arith in slice_get-push_other (rows_of row n) (row n) i below ∙ slice_get-rows_of row n i l)
  | inr g ↦ (let e : n ≡ i = omega arith in
      let P : ℕ → Type 0 = λ k. slice_get (rows_of row (suc n)) k ≡ Some (row k) in
      subst P e (let Q : ℕ → Type 0 = λ k. slice_get (rows_of row (suc n)) k ≡ Some (row n) in subst Q (length-rows_of row n) (slice_get-push_last (rows_of row n) (row n))))
]

-- rows that each keep a fact
pub all_rows : {A : Type 0} (P : A → Type 0) (row : ℕ → A) (n : ℕ) → ((k : ℕ) → k < n → P (row k)) → All P (rows_of row n)
all_rows P row zero h = λ k d lt. absurd (omega arith)
all_rows P row (suc n) h = All-push P (rows_of row n) (row n) (all_rows P row n (λ k lt. h k (omega arith))) (h n (omega arith))

pub PrefixesBelow-push : (rows : List StackRow) (r : StackRow) → PrefixesBelow rows → IfSome r.prefix (λ p. p < length rows) → PrefixesBelow (rows ++ r ∷ [])
PrefixesBelow-push rows r before here i s at = elim (cases_lt i (length rows)) [
  | inl l ↦ before i s (sym (slice_get-push_other rows r i l) ∙ at)
  | inr g ↦ (let inside = slice_get_within (rows ++ r ∷ []) i s at in
      let many = length-push rows r in
      let e : length rows ≡ i = omega arith in
      let last : slice_get (rows ++ r ∷ []) (length rows) ≡ Some s = (let P : ℕ → Type 0 = λ k. slice_get (rows ++ r ∷ []) k ≡ Some s in subst P (sym e) at) in
      let known = slice_get-push_last rows r in
      let same : r ≡ s = cc in
      let P : StackRow → Type 0 = λ t. IfSome t.prefix (λ p. p < i) in
      subst P same (let Q : ℕ → Type 0 = λ k. IfSome r.prefix (λ p. p < k) in subst Q e here))
]

-- one more stack row
pub stacks_below-push : (default : ℕ) (raw : SharedCells) (i j : ℕ) (rows new : List StackRow) (frames : List FrameRow) (r : StackRow) (p : Option ℕ) (f : FrameRow) →
    rows ≡ stacks_below default raw i → new ≡ rows ++ r ∷ [] → r ≡ stack_after default rows p f → p ≡ index_or_none (cell raw.stack_prefix i) →
    j ≡ index_of (cell raw.stack_frame i) → frames ≡ frames_of raw → slice_get frames j ≡ Some f → new ≡ stacks_below default raw (i + 1)
unfolding stacks_below frames_of
stacks_below-push default raw i j rows new frames r p f is grown row prefix at all here =
    let inside : j < length frames = slice_get_within frames j f here in
    let many : length frames ≡ length raw.frame_func.cells = ap length all ∙ length-rows_of (frame_at raw) (length raw.frame_func.cells) in
    let below : j < length raw.frame_func.cells = omega arith in
    let found = slice_get-rows_of (frame_at raw) (length raw.frame_func.cells) j below in
    let e : f ≡ frame_at raw j = cc in
    let g : f ≡ frame_at raw (index_of (cell raw.stack_frame i)) = e ∙ ap (frame_at raw) at in
    rw add-one (let h : r ≡ stack_after default (stacks_below default raw i) (index_or_none (cell raw.stack_prefix i)) (frame_at raw (index_of (cell raw.stack_frame i))) = cc in cc)

pub length-stacks_below : (default : ℕ) (raw : SharedCells) (n : ℕ) → length (stacks_below default raw n) ≡ n
unfolding stacks_below
length-stacks_below default raw zero = refl
length-stacks_below default raw (suc n) = length-push (stacks_below default raw n) _ ∙ ap suc (length-stacks_below default raw n)

pub length-stacks_of : (default : ℕ) (raw : SharedCells) → length (stacks_of default raw) ≡ length raw.stack_frame.cells
unfolding stacks_of
length-stacks_of default raw = length-stacks_below default raw (length raw.stack_frame.cells)

-- a row of a list whose rows all keep a fact keeps it
pub all_at : {X : Type 0} (P : X → Type 0) (xs : List X) (i : ℕ) (x : X) → All P xs → slice_get xs i ≡ Some x → P x
all_at P xs i x h e = subst P (get_or_from_slice_get xs i x x e) (h i x (slice_get_within xs i x e))
