-- Rows, one more at a time.
use Rattle.std.proofs.Common.{◌≡◌, ℕ, suc, ◌+◌, ◌<◌, ◌≤◌, Option, None, Some, List, [], ◌∷◌, ◌++◌, Bool, true, false, refl, sym, ◌∙◌, ap, subst, arith, length, take, length-append, inl, inr}
use Rattle.std.specs.Prelude.{nat_le, not, if◌then◌else◌}
use Rattle.std.specs.Option.{option_or}
use Rattle.std.proofs.lemmas.Bool.{cases_lt}
use Rattle.std.proofs.lemmas.Bool.Decides.{nat_tests}
use Rattle.std.proofs.lemmas.Grind.{flat_map-append}
use Rattle.std.proofs.lemmas.List.{take_all, append-nil}
use Rattle.prof_grammar.specs.Value.{Value, null, boolean, number, string, array, object, items}
use Rattle.prof_layout.specs.Lists.{items_of, first_unfit}
use Rattle.prof_layout.specs.Markers.{data_texts, all_texts}
use Rattle.prof_layout.proofs.Items.{length-push, kept-full, kept-push, first_where-meets, first_where-fails}
use Rattle.prof_layout.proofs.MarkerTexts.{flat_map-push}
use Rattle.prof_gather.specs.Taking.{IsTaken}
use Rattle.prof_gather.specs.declared.objects.Kind.{Kind}
use Rattle.prof_gather.specs.declared.objects.Kind.TheVariants as kind
use Rattle.prof_column.specs.Kept.{state_by}
use Rattle.prof_column.specs.Columns.{state_for}
use Rattle.prof_schema.specs.Placed.{is_array}
use Rattle.prof_schema.specs.RowCells.{cells_kept, row_cells, all_cells, ends_from}
use Rattle.prof_schema.specs.Gathered.{AreCellsOf, AreKept, AreSoFar, AreRowsOf, AreRows}
use Rattle.prof_schema.specs.declared.cells.RowCell.{RowCell}
use Rattle.prof_schema.specs.declared.row.RowCells.{RowCells}
use Rattle.prof_schema.specs.declared.rows.Rows.{Rows}
use Rattle.prof_schema.proofs.KeptCells.{cells_kept-append, length-cells_kept, ends_from-append, length-ends_from}

-- these cells were added behind others
pub record AreAdded (values : List Value) (old new : RowCells) : Type 0 where
  pub cells : new.cells.items ≡ old.cells.items ++ cells_kept (length old.texts.items) values
  pub texts : new.texts.items ≡ old.texts.items ++ all_texts values

pub none_added : (old new : RowCells) → new.cells.items ≡ old.cells.items → new.texts.items ≡ old.texts.items → AreAdded [] old new
none_added old new c t = record { cells = c ∙ sym (append-nil old.cells.items); texts = t ∙ sym (append-nil old.texts.items) }

left_as_were : (begun mid : RowCells) → mid ≡ begun → AreAdded (take begun.left []) begun mid
left_as_were begun mid e =
    let none : take begun.left [] ≡ [] = take_all begun.left [] (omega arith) in
    subst (λ (vs : List Value). AreAdded vs begun mid) (sym none) (none_added begun mid (ap (λ (c : RowCells). c.cells.items) e) (ap (λ (c : RowCells). c.texts.items) e))

-- of a row as many cells were added as were wanted
pub taken_row : (v : Value) (begun mid : RowCells) (k : Kind) → IsTaken (λ f vs c. AreCellsOf f vs c) v begun k mid → AreAdded (take begun.left (items_of (Some v))) begun mid
taken_row (array vs) begun mid k t = record { cells = t.1.cells; texts = t.1.texts }
taken_row null begun mid k t = left_as_were begun mid t.1
taken_row (boolean b) begun mid k t = left_as_were begun mid t.1
taken_row (number s) begun mid k t = left_as_were begun mid t.1
taken_row (string s) begun mid k t = left_as_were begun mid t.1
taken_row (object ms) begun mid k t = left_as_were begun mid t.1

-- it is a row exactly where it was taken as one
pub taken_array : (v : Value) (begun mid : RowCells) (k : Kind) → IsTaken (λ f vs c. AreCellsOf f vs c) v begun k mid → k ≡ kind.Array → true ≡ is_array v
taken_array (array vs) begun mid k t e = refl
taken_array null begun mid k t e = let a = t.0 in cc
taken_array (boolean b) begun mid k t e = let a = t.0 in cc
taken_array (number s) begun mid k t e = let a = t.0 in cc
taken_array (string s) begun mid k t e = let a = t.0 in cc
taken_array (object ms) begun mid k t e = let a = t.0 in cc

pub taken_other : (v : Value) (begun mid : RowCells) (k : Kind) → IsTaken (λ f vs c. AreCellsOf f vs c) v begun k mid → (k ≡ kind.Array → ⊥) → false ≡ is_array v
taken_other (array vs) begun mid k t e = absurd (e t.0)
taken_other null begun mid k t e = refl
taken_other (boolean b) begun mid k t e = refl
taken_other (number s) begun mid k t e = refl
taken_other (string s) begun mid k t e = refl
taken_other (object ms) begun mid k t e = refl

row-values : (v : Value) → take 256 (items_of (Some v)) ≡ row_cells v
row-values (array vs) = refl
row-values null = refl
row-values (boolean b) = refl
row-values (number s) = refl
row-values (string s) = refl
row-values (object ms) = refl

-- the cells of a row past the most aren't wanted
pub record IsWanted (most : ℕ) (v : Value) (old : Rows) (begun : RowCells) (values : List Value) : Type 0 where
  pub cells : begun.cells.items ≡ old.kept.cells.items
  pub texts : begun.texts.items ≡ old.kept.texts.items
  pub few : length old.ends.items ≤ most → values ≡ row_cells v
  pub full : most < length old.ends.items → values ≡ []

pub wanted_row : (most : ℕ) (v : Value) (old : Rows) (begun : RowCells) → begun.cells.items ≡ old.kept.cells.items → begun.texts.items ≡ old.kept.texts.items →
    (length old.ends.items ≤ most → begun.left ≡ 256) → (most < length old.ends.items → begun.left ≡ 0) → IsWanted most v old begun (take begun.left (items_of (Some v)))
wanted_row most v old begun c t few full = record {
  cells = c;
  texts = t;
  few = λ h. ap (λ (n : ℕ). take n (items_of (Some v))) (few h) ∙ row-values v;
  full = λ h. ap (λ (n : ℕ). take n (items_of (Some v))) (full h);
}

-- an item that is no array has no cells
no-cells : (v : Value) → is_array v ≡ false → row_cells v ≡ []
no-cells (array vs) h = cc
no-cells null h = refl
no-cells (boolean b) h = refl
no-cells (number s) h = refl
no-cells (string s) h = refl
no-cells (object ms) h = refl

pub wanted_other : (most : ℕ) (v : Value) (old : Rows) → is_array v ≡ false → IsWanted most v old old.kept []
wanted_other most v old h = record { cells = refl; texts = refl; few = λ few. sym (no-cells v h); full = λ full. refl }

-- the row's end, where it is kept
abbrev pub ends_with : ℕ → Rows → RowCells → List ℕ
ends_with most old mid = if nat_le (length old.ends.items) most then old.ends.items ++ length mid.cells.items ∷ [] else old.ends.items

count-ends : (most : ℕ) (vs : List Value) (old : Rows) → AreKept (take (suc most) vs) old → length old.ends.items ≡ length (take (suc most) vs)
count-ends most vs old h = ap (λ (t : List ℕ). length t) h.ends ∙ length-ends_from 0 (take (suc most) vs)

kept-few : (most : ℕ) (vs : List Value) (v : Value) (old new : Rows) (begun mid : RowCells) (values : List Value) → length old.ends.items ≤ most →
    IsWanted most v old begun values → AreAdded values begun mid → new.kept ≡ mid → new.ends.items ≡ ends_with most old mid → AreKept (take (suc most) vs) old → AreKept (take (suc most) (vs ++ v ∷ [])) new
kept-few most vs v old new begun mid values few w a k e h =
    let rows = take (suc most) vs in
    let count = count-ends most vs old h in
    let more : take (suc most) (vs ++ v ∷ []) ≡ rows ++ v ∷ [] = kept-push most vs v (omega arith) in
    let all : all_cells (rows ++ v ∷ []) ≡ all_cells rows ++ row_cells v = flat_map-push row_cells rows v in
    let is : values ≡ row_cells v = w.few few in
    let place : length begun.texts.items ≡ 0 + length (all_texts (all_cells rows)) = ap (λ (t : List (List ℕ)). length t) (w.texts ∙ h.texts) ∙ (omega arith) in
    let cells : mid.cells.items ≡ cells_kept 0 (all_cells rows) ++ cells_kept (0 + length (all_texts (all_cells rows))) (row_cells v) =
    a.cells
    ∙ ap (λ (t : List RowCell). t ++ cells_kept (length begun.texts.items) values) (w.cells ∙ h.cells)
    ∙ ap (λ (n : ℕ). cells_kept 0 (all_cells rows) ++ cells_kept n values) place
    ∙ ap (λ (t : List Value). cells_kept 0 (all_cells rows) ++ cells_kept (0 + length (all_texts (all_cells rows))) t) is in
    let end : length mid.cells.items ≡ 0 + length (all_cells rows) + length (row_cells v) =
    ap (λ (t : List RowCell). length t) cells
    ∙ length-append (cells_kept 0 (all_cells rows)) (cells_kept (0 + length (all_texts (all_cells rows))) (row_cells v))
    ∙ (let m = length-cells_kept 0 (all_cells rows) in let n = length-cells_kept (0 + length (all_texts (all_cells rows))) (row_cells v) in omega arith) in
    let test : nat_le (length old.ends.items) most ≡ true = grind (arith, nat_tests) in
    record {
      cells =
          ap (λ (c : RowCells). c.cells.items) k
          ∙ cells
          ∙ sym (cells_kept-append 0 (all_cells rows) (row_cells v))
          ∙ ap (λ (t : List Value). cells_kept 0 t) (sym all)
          ∙ ap (λ (t : List Value). cells_kept 0 (all_cells t)) (sym more);
      texts =
          ap (λ (c : RowCells). c.texts.items) k
          ∙ a.texts
          ∙ ap (λ (t : List (List ℕ)). t ++ all_texts values) (w.texts ∙ h.texts)
          ∙ ap (λ (t : List Value). all_texts (all_cells rows) ++ all_texts t) is
          ∙ sym (flat_map-append data_texts (all_cells rows) (row_cells v))
          ∙ ap (λ (t : List Value). all_texts t) (sym all)
          ∙ ap (λ (t : List Value). all_texts (all_cells t)) (sym more);
      ends =
          e
          ∙ rw test (ap (λ (t : List ℕ). t ++ length mid.cells.items ∷ []) h.ends)
          ∙ ap (λ (n : ℕ). ends_from 0 rows ++ n ∷ []) end
          ∙ sym (ends_from-append 0 rows (v ∷ []))
          ∙ ap (λ (t : List Value). ends_from 0 t) (sym more);
    }

kept-none : (most : ℕ) (vs : List Value) (v : Value) (old new : Rows) (begun mid : RowCells) (values : List Value) → most < length old.ends.items →
    IsWanted most v old begun values → AreAdded values begun mid → new.kept ≡ mid → new.ends.items ≡ ends_with most old mid → AreKept (take (suc most) vs) old → AreKept (take (suc most) (vs ++ v ∷ [])) new
kept-none most vs v old new begun mid values over w a k e h =
    let count = count-ends most vs old h in
    let same : take (suc most) (vs ++ v ∷ []) ≡ take (suc most) vs = kept-full most vs v (omega arith) in
    let is : values ≡ [] = w.full over in
    let test : nat_le (length old.ends.items) most ≡ false = grind (arith, nat_tests) in
    record {
      cells =
          ap (λ (c : RowCells). c.cells.items) k
          ∙ a.cells
          ∙ ap (λ (t : List Value). begun.cells.items ++ cells_kept (length begun.texts.items) t) is
          ∙ append-nil begun.cells.items
          ∙ w.cells
          ∙ h.cells
          ∙ ap (λ (t : List Value). cells_kept 0 (all_cells t)) (sym same);
      texts =
          ap (λ (c : RowCells). c.texts.items) k
          ∙ a.texts
          ∙ ap (λ (t : List Value). begun.texts.items ++ all_texts t) is
          ∙ append-nil begun.texts.items
          ∙ w.texts
          ∙ h.texts
          ∙ ap (λ (t : List Value). all_texts (all_cells t)) (sym same);
      ends = e ∙ rw test h.ends ∙ ap (λ (t : List Value). ends_from 0 t) (sym same);
    }

or-none : (o : Option ℕ) → option_or o None ≡ o
or-none None = refl
or-none (Some x) = refl

-- the first row that is no array
bad-more : (vs : List Value) (v : Value) (old new : Option ℕ) (count : ℕ) (is_row : Bool) → is_array v ≡ is_row → count ≡ length vs → old ≡ first_unfit is_array vs →
    new ≡ option_or old (if is_row then None else Some count) → new ≡ first_unfit is_array (vs ++ v ∷ [])
bad-more vs v old new count true e n o is = is ∙ or-none old ∙ o ∙ sym (first_where-fails (λ w. not (is_array w)) vs v (ap not e))
bad-more vs v old new count false e n o is =
    is
    ∙ ap (λ (a : Option ℕ). option_or a (Some count)) o
    ∙ ap (λ (k : ℕ). option_or (first_unfit is_array vs) (Some k)) n
    ∙ sym (first_where-meets (λ w. not (is_array w)) vs v (ap not e))

-- one more row
pub rows_more : (most : ℕ) (vs : List Value) (v : Value) (old new : Rows) (begun mid : RowCells) (values : List Value) (is_row : Bool) →
    IsWanted most v old begun values → AreAdded values begun mid → new.kept ≡ mid → new.ends.items ≡ ends_with most old mid → new.count ≡ old.count + 1 →
    is_array v ≡ is_row → new.bad ≡ option_or old.bad (if is_row then None else Some old.count) → AreSoFar most vs old → AreSoFar most (vs ++ v ∷ []) new
rows_more most vs v old new begun mid values is_row w a k e n r b h = record {
  kept = elim (cases_lt most (length old.ends.items)) [
    | inl over ↦ kept-none most vs v old new begun mid values over w a k e h.kept
    | inr few ↦ kept-few most vs v old new begun mid values few w a k e h.kept
  ];
  count = n ∙ ap (λ (m : ℕ). m + 1) h.count ∙ (let l = length-push vs v in omega arith);
  bad = bad-more vs v old.bad new.bad old.count is_row r h.count h.bad b;
}

-- ---- what the whole member is

pub rows_none : (most : ℕ) (r : Rows) → AreRows most None r → (r.count ≡ 0) → AreSoFar most [] r
rows_none most r h count = record { kept = h.kept; count = count; bad = h.bad }

same_rows : (most : ℕ) (v : Value) (first now new : Rows) → items_of (Some v) ≡ [] → AreRows most None first → now ≡ first → new.most ≡ now.most → new.state ≡ state_by true (Some v) →
    new.kept ≡ now.kept → new.ends.items ≡ now.ends.items → new.bad ≡ now.bad → AreRows most (Some v) new
same_rows most v first now new none h same m s k e b = record {
  most_ = m ∙ ap (λ (r : Rows). r.most) same ∙ h.most_;
  state = s;
  kept = subst (λ (vs : List Value). AreKept (take (suc most) vs) new) (sym none) (record {
    cells = ap (λ (c : RowCells). c.cells.items) k ∙ ap (λ (r : Rows). r.kept.cells.items) same ∙ h.kept.cells;
    texts = ap (λ (c : RowCells). c.texts.items) k ∙ ap (λ (r : Rows). r.kept.texts.items) same ∙ h.kept.texts;
    ends = e ∙ ap (λ (r : Rows). r.ends.items) same ∙ h.kept.ends;
  });
  bad = b ∙ ap (λ (r : Rows). r.bad) same ∙ h.bad ∙ ap (λ (vs : List Value). first_unfit is_array vs) (sym none);
}

pub rows_read : (most : ℕ) (v : Value) (first now new : Rows) (k : Kind) → AreRows most None first → first.count ≡ 0 → IsTaken (λ a vs b. AreRowsOf a vs b) v first k now →
    new.most ≡ now.most → new.state ≡ state_for true k → new.kept ≡ now.kept → new.ends.items ≡ now.ends.items → new.bad ≡ now.bad → AreRows most (Some v) new
rows_read most (array vs) first now new k h n t m s kept e b =
    let start : AreSoFar first.most [] first = record { kept = h.kept; count = n; bad = h.bad } in
    let is : AreSoFar most (items vs) now = subst (λ (x : ℕ). AreSoFar x (items vs) now) h.most_ (t.1.rows start) in
    record {
      most_ = m ∙ t.1.most ∙ h.most_;
      state = s ∙ ap (state_for true) t.0;
      kept = record {
        cells = ap (λ (c : RowCells). c.cells.items) kept ∙ is.kept.cells;
        texts = ap (λ (c : RowCells). c.texts.items) kept ∙ is.kept.texts;
        ends = e ∙ is.kept.ends;
      };
      bad = b ∙ is.bad;
    }
rows_read most null first now new k h n t m s kept e b = same_rows most null first now new refl h t.1 m (s ∙ ap (state_for true) t.0) kept e b
rows_read most (boolean x) first now new k h n t m s kept e b = same_rows most (boolean x) first now new refl h t.1 m (s ∙ ap (state_for true) t.0) kept e b
rows_read most (number x) first now new k h n t m s kept e b = same_rows most (number x) first now new refl h t.1 m (s ∙ ap (state_for true) t.0) kept e b
rows_read most (string x) first now new k h n t m s kept e b = same_rows most (string x) first now new refl h t.1 m (s ∙ ap (state_for true) t.0) kept e b
rows_read most (object x) first now new k h n t m s kept e b = same_rows most (object x) first now new refl h t.1 m (s ∙ ap (state_for true) t.0) kept e b

-- ---- an item that was read: it began, its cells were taken, and it was counted

pub rows_item : (v : Value) (k : Kind) (old begun new : Rows) (mid : RowCells) (is_row : Bool) → begun ≡ record old { kept = record old.kept { left = begun.kept.left } } →
    (length old.ends.items ≤ old.most → begun.kept.left ≡ 256) → (old.most < length old.ends.items → begun.kept.left ≡ 0) → IsTaken (λ f vs c. AreCellsOf f vs c) v begun.kept k mid → is_array v ≡ is_row →
    new.most ≡ begun.most → new.kept ≡ mid → new.count ≡ begun.count + 1 → new.bad ≡ option_or begun.bad (if is_row then None else Some begun.count) → new.ends.items ≡ ends_with begun.most begun mid →
    (first : Rows) (vs : List Value) → AreRowsOf first vs old → AreRowsOf first (vs ++ v ∷ []) new
rows_item v k old begun new mid is_row e few full taken row most kept count bad ends first vs h =
    let wanted : IsWanted old.most v old begun.kept (take begun.kept.left (items_of (Some v))) =
    wanted_row old.most v old begun.kept (ap (λ (r : Rows). r.kept.cells.items) e) (ap (λ (r : Rows). r.kept.texts.items) e) few full in
    let n : new.count ≡ old.count + 1 = count ∙ ap (λ (r : Rows). r.count + 1) e in
    let b : new.bad ≡ option_or old.bad (if is_row then None else Some old.count) = bad ∙ ap (λ (r : Rows). option_or r.bad (if is_row then None else Some r.count)) e in
    let s : new.ends.items ≡ ends_with old.most old mid = ends ∙ ap (λ (r : Rows). ends_with r.most r mid) e in
    record {
      most = most ∙ ap (λ (r : Rows). r.most) e ∙ h.most;
      rows = λ start. subst (λ (m : ℕ). AreSoFar m (vs ++ v ∷ []) new) h.most
          (rows_more old.most vs v old new begun.kept mid (take begun.kept.left (items_of (Some v))) is_row wanted (taken_row v begun.kept mid k taken) kept s n row b
          (subst (λ (m : ℕ). AreSoFar m vs old) (sym h.most) (h.rows start)));
    }

pub rows_other : (v : Value) (old new : Rows) → is_array v ≡ false → new.most ≡ old.most → new.kept ≡ old.kept → new.count ≡ old.count + 1 → new.bad ≡ option_or old.bad (Some old.count) → new.ends.items ≡ ends_with old.most old old.kept →
    (first : Rows) (vs : List Value) → AreRowsOf first vs old → AreRowsOf first (vs ++ v ∷ []) new
rows_other v old new other most kept count bad ends first vs h = record {
  most = most ∙ h.most;
  rows = λ start. subst (λ (m : ℕ). AreSoFar m (vs ++ v ∷ []) new) h.most
      (rows_more old.most vs v old new old.kept old.kept [] false (wanted_other old.most v old other) (none_added old.kept old.kept refl refl) kept ends count other bad
      (subst (λ (m : ℕ). AreSoFar m vs old) (sym h.most) (h.rows start)));
}
