-- Each stack row of the columns has its frame's step.
use Rattle.std.proofs.Common.{◌≡◌, ℕ, zero, suc, ◌<◌, ◌≤◌, Option, None, Some, List, length, arith, refl, sym, ◌∙◌, ap, subst, inl, inr}
use Rattle.std.specs.Prelude.{ℤ, pos, negsuc, slice_get, IfSome, unwrap_or}
use Rattle.std.specs.List.{All}
use Rattle.std.proofs.lemmas.List.Elements.{All-push}
use Rattle.std.specs.Option.{option_or, option_map}
use Rattle.std.proofs.lemmas.Bool.{cases_lt}
use Rattle.std.proofs.lemmas.Bool.Decides.{nat_tests}
use Rattle.std.proofs.lemmas.Option.{slice_get_within}
use Rattle.prof_tables.specs.declared.rows.StackRow.{StackRow}
use Rattle.prof_tables.specs.declared.rows.FrameRow.{FrameRow}
use Rattle.prof_raw.specs.declared.column.CellKind.TheVariants as kind
use Rattle.prof_raw.specs.Cells.{SharedCells, cell}
use Rattle.prof_tables.specs.Frames.{stack_after, category_before, IsFrameOf}
use Rattle.prof_raw.specs.CellValues.{index_of, index_or_none}
use Rattle.prof_raw.specs.Rules.{cell_rule}
use Rattle.prof_tables.specs.Rows.{rows_of, stacks_below, stacks_of, frames_of, frame_at, stack_frame_at, stack_frames_of, shared_of}
use Rattle.prof_raw.specs.Fits.{FitFrames, FitStacks}
use Rattle.prof_tables.specs.Ties.{AreFrames, IsFrame, IsStackRow}
use Rattle.prof_tables.proofs.RangeLemmas.{index-below}
use Rattle.prof_tables.proofs.RowLemmas.{length-rows_of, slice_get-rows_of, length-stacks_below, length-stacks_of, all_at}
use Rattle.prof_raw.proofs.PushLemmas.{slice_get-push_other, slice_get-push_last}

abbrev own_row : ℕ → SharedCells → ℕ → List StackRow → StackRow
own_row default raw i rows = stack_after default rows (index_or_none (cell raw.stack_prefix i)) (frame_at raw (index_of (cell raw.stack_frame i)))

-- a row stands where it was appended, however many follow
row-below : (default : ℕ) (raw : SharedCells) (i n : ℕ) → i < n → slice_get (stacks_below default raw n) i ≡ Some (own_row default raw i (stacks_below default raw i))
unfolding stacks_below
row-below default raw i zero h = absurd (omega arith)
row-below default raw i (suc n) h =
    let many = length-stacks_below default raw n in
    elim (cases_lt i n) [
      | inl l ↦ (let inside : i < length (stacks_below default raw n) = omega arith in
          slice_get-push_other (stacks_below default raw n) _ i inside ∙ row-below default raw i n l)
      | inr g ↦ (let e : n ≡ i = omega arith in
          let P : ℕ → Type 0 = λ k. slice_get (stacks_below default raw (suc n)) k ≡ Some (own_row default raw k (stacks_below default raw k)) in
          subst P e (let Q : ℕ → Type 0 = λ k. slice_get (stacks_below default raw (suc n)) k ≡ Some (own_row default raw n (stacks_below default raw n)) in subst Q many (slice_get-push_last (stacks_below default raw n) _)))
    ]

-- the earlier rows stand as they stood
kept-below : (default : ℕ) (raw : SharedCells) (p i n : ℕ) → p < i → i ≤ n → slice_get (stacks_below default raw n) p ≡ slice_get (stacks_below default raw i) p
kept-below default raw p i n lt le = row-below default raw p n (omega arith) ∙ sym (row-below default raw p i lt)

category-kept : (default : ℕ) (raw : SharedCells) (i n : ℕ) (prefix : Option ℕ) → IfSome prefix (λ p. p < i) → i ≤ n → category_before (stacks_below default raw n) prefix ≡ category_before (stacks_below default raw i) prefix
category-kept default raw i n None h le = refl
category-kept default raw i n (Some p) h le = ap (λ (o : Option StackRow). option_map (λ (row : StackRow). row.category) o) (kept-below default raw p i n h le)

-- a prefix that passes is a smaller row
prefix-below : (row : ℕ) (o : Option ℤ) → cell_rule kind.Prefix row o ≡ None → IfSome (index_or_none o) (λ p. p < row)
prefix-below row None h = tt
prefix-below row (Some (pos n)) h = grind (arith, nat_tests)
prefix-below row (Some (negsuc n)) h = tt

-- frame j gives row i its step, where j is the row's cell
frame-of : (categories default : ℕ) (raw : SharedCells) (i : ℕ) → FitStacks raw → i < length raw.stack_frame.cells → IsFrameOf (shared_of categories default raw) i (index_of (cell raw.stack_frame i))
unfolding stacks_of frames_of
frame-of categories default raw i fit lt =
    let n = length raw.stack_frame.cells in
    let j = index_of (cell raw.stack_frame i) in
    let prefix = index_or_none (cell raw.stack_prefix i) in
    let frame = frame_at raw j in
    let inside : j < length raw.frame_func.cells = index-below (length raw.frame_func.cells) (cell raw.stack_frame i) (fit.frame i lt) in
    let below : IfSome prefix (λ p. p < i) = prefix-below i (cell raw.stack_prefix i) (fit.prefix i lt) in
    let few : i ≤ n = omega arith in (
      own_row default raw i (stacks_below default raw i),
      (
        frame,
        (
          row-below default raw i n lt,
          slice_get-rows_of (frame_at raw) (length raw.frame_func.cells) j inside,
          ap (λ (before : Option ℕ). let row : StackRow = record { prefix = prefix; func = frame.func; category = unwrap_or (option_or frame.category before) default } in row) (sym (category-kept default raw i n prefix below few)),
        ),
      ),
    )

-- the frames' numbers are those of the stack rows
pub frames_tied : (categories default : ℕ) (raw : SharedCells) → FitStacks raw → AreFrames (shared_of categories default raw)
unfolding stack_frames_of
frames_tied categories default raw fit =
    let n = length raw.stack_frame.cells in
    let number : ℕ → ℕ = λ i. index_of (cell raw.stack_frame i) in
    let numbers : List ℕ = rows_of number n in
    let many : length numbers ≡ n = length-rows_of number n in
    record {
      many = many ∙ sym (length-stacks_of default raw);
      frame = λ i j h.
          (let inside = slice_get_within numbers i j h in
          let lt : i < n = omega arith in
          let at : slice_get numbers i ≡ Some (number i) = slice_get-rows_of number n i lt in
          let same : number i ≡ j = cc in
          let P : ℕ → Type 0 = λ k. IsFrameOf (shared_of categories default raw) i k in
          subst P same (frame-of categories default raw i fit lt));
    }

-- an index that may be null and passes is in its range
maybe-below : (limit : ℕ) (o : Option ℤ) → cell_rule (kind.MaybeIndex limit) 0 o ≡ None → IfSome (index_or_none o) (λ n. n < limit)
maybe-below limit None h = tt
maybe-below limit (Some (pos n)) h = grind (arith, nat_tests)
maybe-below limit (Some (negsuc n)) h = tt

-- a frame of the columns is in its ranges
frame_tied : (categories : ℕ) (raw : SharedCells) (j : ℕ) → FitFrames categories raw → j < length raw.frame_func.cells → IsFrame (length raw.func_name.cells) categories (frame_at raw j)
frame_tied categories raw j fit lt = record {
  func = index-below (length raw.func_name.cells) (cell raw.frame_func j) (fit.func j lt);
  category = maybe-below categories (cell raw.frame_category j) (fit.category j lt);
}

-- the category of the row before is one of the categories
category-below : (funcs categories : ℕ) (rows : List StackRow) (prefix : Option ℕ) → All (IsStackRow funcs categories) rows → IfSome (category_before rows prefix) (λ c. c < categories)
category-below funcs categories rows None all = tt
category-below funcs categories rows (Some p) all = found (slice_get rows p) refl
  where
    found : (o : Option StackRow) → slice_get rows p ≡ o → IfSome (option_map (λ (row : StackRow). row.category) o) (λ c. c < categories)
    found None at = tt
    found (Some row) at = (all_at (IsStackRow funcs categories) rows p row all at).category

first-below : (a b : Option ℕ) (default n : ℕ) → IfSome a (λ c. c < n) → IfSome b (λ c. c < n) → default < n → unwrap_or (option_or a b) default < n
first-below (Some c) b default n ha hb h = ha
first-below None (Some c) default n ha hb h = hb
first-below None None default n ha hb h = h

-- a row of a frame is in its ranges where the rows before it are
after_tied : (default funcs categories : ℕ) (rows : List StackRow) (prefix : Option ℕ) (frame : FrameRow) → default < categories → IsFrame funcs categories frame → All (IsStackRow funcs categories) rows →
    IsStackRow funcs categories (stack_after default rows prefix frame)
after_tied default funcs categories rows prefix frame below tied all = record {
  func = tied.func;
  category = first-below frame.category (category_before rows prefix) default categories tied.category (category-below funcs categories rows prefix all) below;
}

below_tied : (default categories : ℕ) (raw : SharedCells) → default < categories → FitFrames categories raw → FitStacks raw → (n : ℕ) → n ≤ length raw.stack_frame.cells → All (IsStackRow (length raw.func_name.cells) categories) (stacks_below default raw n)
unfolding stacks_below
below_tied default categories raw below frames stacks zero le = λ k d lt. absurd (omega arith)
below_tied default categories raw below frames stacks (suc n) le =
    let before = below_tied default categories raw below frames stacks n (omega arith) in
    let lt : n < length raw.stack_frame.cells = omega arith in
    let inside : stack_frame_at raw n < length raw.frame_func.cells = index-below (length raw.frame_func.cells) (cell raw.stack_frame n) (stacks.frame n lt) in
    let tied = frame_tied categories raw (stack_frame_at raw n) frames inside in
    All-push (IsStackRow (length raw.func_name.cells) categories) (stacks_below default raw n) _ before
    (after_tied default (length raw.func_name.cells) categories (stacks_below default raw n) (index_or_none (cell raw.stack_prefix n)) (frame_at raw (stack_frame_at raw n)) below tied before)

-- each stack row of the columns is in its ranges
pub stacks_tied : (default categories : ℕ) (raw : SharedCells) → default < categories → FitFrames categories raw → FitStacks raw → All (IsStackRow (length raw.func_name.cells) categories) (stacks_of default raw)
unfolding stacks_of
stacks_tied default categories raw below frames stacks = below_tied default categories raw below frames stacks (length raw.stack_frame.cells) (omega arith)
