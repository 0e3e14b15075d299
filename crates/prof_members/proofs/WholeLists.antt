-- Lists that were read to their end, and what they break.
use Rattle.std.proofs.Common.{◌≡◌, ℕ, suc, ◌<◌, ◌≤◌, Option, None, Some, List, [], ◌∷◌, ◌++◌, Bool, true, false, refl, sym, ◌∙◌, ap, subst, arith, length, take, inl, inr}
use Rattle.prof_raw.specs.declared.limits.TheConstants.{MOST_CATEGORIES, MOST_ROWS, MOST_THREADS}
use Rattle.std.specs.Prelude.{map, nat_le, unwrap_or, codes}
use Rattle.std.specs.Option.{option_map, MatchOption, IsSomeAnd}
use Rattle.std.proofs.lemmas.Bool.{cases_Bool}
use Rattle.std.proofs.lemmas.Bool.Decides.{nat_tests}
use Rattle.std.proofs.lemmas.List.{take_all, length-map}
use Rattle.prof_grammar.specs.Value.{Value, null, boolean, number, string, array, object, items}
use Rattle.prof_raw.specs.declared.rule.ListFault.{ListFault}
use Rattle.prof_raw.specs.declared.rule.Rule.TheVariants as rule
use Rattle.prof_raw.specs.declared.raw.State.{State}
use Rattle.prof_raw.specs.declared.raw.State.TheVariants as state
use Rattle.prof_raw.specs.Rules.{whole_fault}
use Rattle.prof_layout.specs.Columns.{any_cell, capped, column_of}
use Rattle.prof_layout.specs.Lists.{is_object, items_of, first_where, first_unfit, wrong_kind, list_fault, optional_list_fault, needed_list_fault}
use Rattle.prof_layout.specs.Markers.{all_texts, ranges_from}
use Rattle.prof_layout.specs.Profile.{is_category, category_name, is_grey, names_with}
use Rattle.prof_layout.proofs.Items.{kept_fault}
use Rattle.prof_raw.specs.Cells.{Cells}
use Rattle.prof_gather.specs.Taking.{IsTaken}
use Rattle.prof_gather.specs.declared.objects.Kind.{Kind}
use Rattle.prof_column.specs.Kept.{state_by, kept_items}
use Rattle.prof_members.specs.Gathered.{AreThreads, IsThreadList, IsCategoryList, IsMarkerData}
use Rattle.prof_column.specs.Columns.{state_for}
use Rattle.prof_members.specs.Columns.{NoCategories, NoThreads, NoMarkers, IsThreadListOf, IsCategoryListOf, IsMarkerDataOf}
use Rattle.prof_members.specs.declared.lists.CategoryList.{CategoryList}
use Rattle.prof_members.specs.declared.lists.MarkerData.{MarkerData}
use Rattle.prof_members.specs.declared.lists.ThreadList.{ThreadList}
use Rattle.prof_members.specs.declared.threads.ThreadParts.{ThreadParts}

-- ---- what a list breaks

list_over : (fits : Value → Bool) (most : ℕ) (vs : List Value) → most < length (take (suc most) vs) → list_fault fits most vs ≡ Some (whole_fault rule.RowLimit)
list_over fits most vs over =
    let e : nat_le (length (take (suc most) vs)) most ≡ false = grind (arith, nat_tests) in
    kept_fault fits most vs (take (suc most) vs) refl ∙ rw e refl

list_within : (fits : Value → Bool) (most : ℕ) (vs : List Value) → length (take (suc most) vs) ≤ most → list_fault fits most vs ≡ option_map wrong_kind (first_unfit fits (take (suc most) vs))
list_within fits most vs few =
    let e : nat_le (length (take (suc most) vs)) most ≡ true = grind (arith, nat_tests) in
    kept_fault fits most vs (take (suc most) vs) refl ∙ rw e refl

pub optional_over : (fits : Value → Bool) (most : ℕ) (member : Option Value) → state_by false member ≡ state.Array → most < length (take (suc most) (items_of member)) →
    optional_list_fault fits most member ≡ Some (whole_fault rule.RowLimit)
optional_over fits most None s over = cc
optional_over fits most (Some null) s over = cc
optional_over fits most (Some (boolean b)) s over = cc
optional_over fits most (Some (number text)) s over = cc
optional_over fits most (Some (string text)) s over = cc
optional_over fits most (Some (array vs)) s over = list_over fits most (items vs) over
optional_over fits most (Some (object ms)) s over = cc

pub optional_within : (fits : Value → Bool) (most : ℕ) (member : Option Value) → state_by false member ≡ state.Array → length (take (suc most) (items_of member)) ≤ most →
    optional_list_fault fits most member ≡ option_map wrong_kind (first_unfit fits (take (suc most) (items_of member)))
optional_within fits most None s few = cc
optional_within fits most (Some null) s few = cc
optional_within fits most (Some (boolean b)) s few = cc
optional_within fits most (Some (number text)) s few = cc
optional_within fits most (Some (string text)) s few = cc
optional_within fits most (Some (array vs)) s few = list_within fits most (items vs) few
optional_within fits most (Some (object ms)) s few = cc

pub needed_over : (fits : Value → Bool) (most : ℕ) (member : Option Value) → state_by true member ≡ state.Array → most < length (take (suc most) (items_of member)) →
    needed_list_fault fits most member ≡ Some (whole_fault rule.RowLimit)
needed_over fits most None s over = cc
needed_over fits most (Some null) s over = cc
needed_over fits most (Some (boolean b)) s over = cc
needed_over fits most (Some (number text)) s over = cc
needed_over fits most (Some (string text)) s over = cc
needed_over fits most (Some (array vs)) s over = list_over fits most (items vs) over
needed_over fits most (Some (object ms)) s over = cc

pub needed_within : (fits : Value → Bool) (most : ℕ) (member : Option Value) → state_by true member ≡ state.Array → length (take (suc most) (items_of member)) ≤ most →
    needed_list_fault fits most member ≡ option_map wrong_kind (first_unfit fits (take (suc most) (items_of member)))
needed_within fits most None s few = cc
needed_within fits most (Some null) s few = cc
needed_within fits most (Some (boolean b)) s few = cc
needed_within fits most (Some (number text)) s few = cc
needed_within fits most (Some (string text)) s few = cc
needed_within fits most (Some (array vs)) s few = list_within fits most (items vs) few
needed_within fits most (Some (object ms)) s few = cc

-- the fault of the first item that doesn't fit
pub fault_of : (o : Option ℕ) (r : Option ListFault) (Q : ℕ → ListFault → Type 0) → ((n : ℕ) (l : ListFault) → Q n l → l ≡ wrong_kind n) →
    MatchOption o (r ≡ None) (λ n. IsSomeAnd r (Q n)) → r ≡ option_map wrong_kind o
fault_of None r Q f h = h
fault_of (Some n) None Q f h = absurd h
fault_of (Some n) (Some l) Q f h = ap (λ (x : ListFault). let o : Option ListFault = Some x in o) (f n l h)

-- all items of a list are kept that breaks nothing
all_kept : (fits : Value → Bool) (most : ℕ) (vs : List Value) → list_fault fits most vs ≡ None → take (suc most) vs ≡ vs
all_kept fits most vs h = elim (cases_Bool (nat_le (length vs) most)) [
  | inl e ↦ (let few : length vs ≤ most = grind (arith, nat_tests) in take_all (suc most) vs (omega arith))
  | inr e ↦ (let k : Some (whole_fault rule.RowLimit) ≡ None = rw e at h in cc)
]

pub optional_kept : (fits : Value → Bool) (most : ℕ) (member : Option Value) → optional_list_fault fits most member ≡ None → take (suc most) (items_of member) ≡ items_of member
optional_kept fits most None h = refl
optional_kept fits most (Some null) h = refl
optional_kept fits most (Some (boolean b)) h = refl
optional_kept fits most (Some (number text)) h = refl
optional_kept fits most (Some (string text)) h = refl
optional_kept fits most (Some (array vs)) h = all_kept fits most (items vs) h
optional_kept fits most (Some (object ms)) h = refl

pub threads-count : (vs : List Value) (ts : List ThreadParts) → AreThreads vs ts → length ts ≡ length vs
threads-count [] [] h = refl
threads-count [] (t ∷ ts) h = absurd h
threads-count (v ∷ vs) [] h = absurd h
threads-count (v ∷ vs) (t ∷ ts) h = ap suc (threads-count vs ts h.1)

pub names-count : (vs : List Value) (names : List (List ℕ)) → names ≡ map category_name vs → length names ≡ length vs
names-count vs names e = ap (λ (t : List (List ℕ)). length t) e ∙ length-map vs category_name

-- ---- the categories' names and the default

pub with_grey : (l : CategoryList) (member : Option Value) (row : ℕ) → IsCategoryList member l → optional_list_fault is_category MOST_CATEGORIES member ≡ None → l.grey ≡ Some row →
    (l.names.items ≡ names_with (map category_name (items_of member)) (first_where is_grey 0 (items_of member))) × (row ≡ unwrap_or (first_where is_grey 0 (items_of member)) (length (items_of member)))
with_grey l member row h none is =
    let whole = optional_kept is_category MOST_CATEGORIES member none in
    let found : first_where is_grey 0 (items_of member) ≡ Some row = ap (λ (t : List Value). first_where is_grey 0 t) (sym whole) ∙ sym h.grey ∙ is in (
      h.names ∙ ap (λ (t : List Value). map category_name t) whole ∙ ap (λ (o : Option ℕ). names_with (map category_name (items_of member)) o) (sym found),
      ap (λ (o : Option ℕ). unwrap_or o (length (items_of member))) (sym found),
    )

pub without_grey : (l : CategoryList) (member : Option Value) (names : List (List ℕ)) (row : ℕ) → IsCategoryList member l → optional_list_fault is_category MOST_CATEGORIES member ≡ None → l.grey ≡ None →
    names ≡ l.names.items ++ codes "Other" ∷ [] → row ≡ length l.names.items →
    (names ≡ names_with (map category_name (items_of member)) (first_where is_grey 0 (items_of member))) × (row ≡ unwrap_or (first_where is_grey 0 (items_of member)) (length (items_of member)))
without_grey l member names row h none is grown count =
    let whole = optional_kept is_category MOST_CATEGORIES member none in
    let found : first_where is_grey 0 (items_of member) ≡ None = ap (λ (t : List Value). first_where is_grey 0 t) (sym whole) ∙ sym h.grey ∙ is in
    let all : l.names.items ≡ map category_name (items_of member) = h.names ∙ ap (λ (t : List Value). map category_name t) whole in (
      grown ∙ ap (λ (t : List (List ℕ)). t ++ codes "Other" ∷ []) all ∙ ap (λ (o : Option ℕ). names_with (map category_name (items_of member)) o) (sym found),
      count ∙ names-count (items_of member) l.names.items all ∙ ap (λ (o : Option ℕ). unwrap_or o (length (items_of member))) (sym found),
    )

-- ---- members that were read

pub categories_read : (v : Value) (first l new : CategoryList) (k : Kind) → IsCategoryList None first → IsTaken (λ a vs b. IsCategoryListOf a vs b) v first k l →
    new.state ≡ state_for false k → new.names.items ≡ l.names.items → new.bad ≡ l.bad → new.grey ≡ l.grey → IsCategoryList (Some v) new
categories_read (array vs) first l new k none h s a b c =
    let start : NoCategories first = (none.names, none.bad, none.grey) in
    record { state = s ∙ ap (state_for false) h.0; names = a ∙ h.1.names start; bad = b ∙ h.1.bad start; grey = c ∙ h.1.grey start }
categories_read null first l new k none h s a b c =
    record { state = s ∙ ap (state_for false) h.0; names = a ∙ ap (λ (x : CategoryList). x.names.items) h.1 ∙ none.names; bad = b ∙ ap (λ (x : CategoryList). x.bad) h.1 ∙ none.bad; grey = c ∙ ap (λ (x : CategoryList). x.grey) h.1 ∙ none.grey }
categories_read (boolean t) first l new k none h s a b c =
    record { state = s ∙ ap (state_for false) h.0; names = a ∙ ap (λ (x : CategoryList). x.names.items) h.1 ∙ none.names; bad = b ∙ ap (λ (x : CategoryList). x.bad) h.1 ∙ none.bad; grey = c ∙ ap (λ (x : CategoryList). x.grey) h.1 ∙ none.grey }
categories_read (number t) first l new k none h s a b c =
    record { state = s ∙ ap (state_for false) h.0; names = a ∙ ap (λ (x : CategoryList). x.names.items) h.1 ∙ none.names; bad = b ∙ ap (λ (x : CategoryList). x.bad) h.1 ∙ none.bad; grey = c ∙ ap (λ (x : CategoryList). x.grey) h.1 ∙ none.grey }
categories_read (string t) first l new k none h s a b c =
    record { state = s ∙ ap (state_for false) h.0; names = a ∙ ap (λ (x : CategoryList). x.names.items) h.1 ∙ none.names; bad = b ∙ ap (λ (x : CategoryList). x.bad) h.1 ∙ none.bad; grey = c ∙ ap (λ (x : CategoryList). x.grey) h.1 ∙ none.grey }
categories_read (object t) first l new k none h s a b c =
    record { state = s ∙ ap (state_for false) h.0; names = a ∙ ap (λ (x : CategoryList). x.names.items) h.1 ∙ none.names; bad = b ∙ ap (λ (x : CategoryList). x.bad) h.1 ∙ none.bad; grey = c ∙ ap (λ (x : CategoryList). x.grey) h.1 ∙ none.grey }

no_threads : (ts : List ThreadParts) → AreThreads [] ts → ts ≡ []
no_threads [] h = refl
no_threads (t ∷ ts) h = absurd h

threads_left : (v : Value) (first l new : ThreadList) → kept_items MOST_THREADS (Some v) ≡ [] → IsThreadList None first → l ≡ first → new.state ≡ state_by true (Some v) → new.threads.items ≡ l.threads.items → new.bad ≡ l.bad → IsThreadList (Some v) new
threads_left v first l new e none same s a b = record {
  state = s;
  threads = subst (λ (vs : List Value). AreThreads vs new.threads.items) (sym e)
      (subst (λ (ts : List ThreadParts). AreThreads [] ts) (sym (a ∙ ap (λ (x : ThreadList). x.threads.items) same ∙ no_threads first.threads.items none.threads)) tt);
  bad = b ∙ ap (λ (x : ThreadList). x.bad) same ∙ none.bad ∙ ap (λ (vs : List Value). first_unfit is_object vs) (sym e);
}

pub threads_read : (v : Value) (first l new : ThreadList) (k : Kind) → IsThreadList None first → IsTaken (λ a vs b. IsThreadListOf a vs b) v first k l →
    new.state ≡ state_for true k → new.threads.items ≡ l.threads.items → new.bad ≡ l.bad → IsThreadList (Some v) new
threads_read (array vs) first l new k none h s a b =
    let start : NoThreads first = (no_threads first.threads.items none.threads, none.bad) in
    record { state = s ∙ ap (state_for true) h.0; threads = subst (λ (ts : List ThreadParts). AreThreads (kept_items MOST_THREADS (Some (array vs))) ts) (sym a) (h.1.threads start); bad = b ∙ h.1.bad start }
threads_read null first l new k none h s a b = threads_left null first l new refl none h.1 (s ∙ ap (state_for true) h.0) a b
threads_read (boolean t) first l new k none h s a b = threads_left (boolean t) first l new refl none h.1 (s ∙ ap (state_for true) h.0) a b
threads_read (number t) first l new k none h s a b = threads_left (number t) first l new refl none h.1 (s ∙ ap (state_for true) h.0) a b
threads_read (string t) first l new k none h s a b = threads_left (string t) first l new refl none h.1 (s ∙ ap (state_for true) h.0) a b
threads_read (object t) first l new k none h s a b = threads_left (object t) first l new refl none h.1 (s ∙ ap (state_for true) h.0) a b

abbrev pub with_state : State → Cells → Cells
with_state s c = record { state = s; cells = c.cells; bad = c.bad }

abbrev pub empty_with : State → Cells
empty_with s = record { state = s; cells = []; bad = None }

markers_left : (v : Value) (first l new : MarkerData) (s : State) → kept_items MOST_ROWS (Some v) ≡ [] → capped MOST_ROWS (column_of any_cell false (Some v)) ≡ empty_with s →
    first.column ≡ empty_with state.Array → first.texts.items ≡ [] → first.ranges.items ≡ [] → l ≡ first →
    new.column ≡ with_state s l.column → new.texts.items ≡ l.texts.items → new.ranges.items ≡ l.ranges.items → IsMarkerData (Some v) new
markers_left v first l new s e column c t r same a b d = record {
  column = a ∙ ap (λ (x : MarkerData). with_state s x.column) same ∙ ap (with_state s) c ∙ sym column;
  texts = b ∙ ap (λ (x : MarkerData). x.texts.items) same ∙ t ∙ ap (λ (vs : List Value). all_texts vs) (sym e);
  ranges = d ∙ ap (λ (x : MarkerData). x.ranges.items) same ∙ r ∙ ap (λ (vs : List Value). ranges_from 0 vs) (sym e);
}

pub markers_read : (v : Value) (first l new : MarkerData) (k : Kind) → first.column ≡ empty_with state.Array → first.texts.items ≡ [] → first.ranges.items ≡ [] →
    IsTaken (λ a vs b. IsMarkerDataOf a vs b) v first k l → new.column ≡ with_state (state_for false k) l.column → new.texts.items ≡ l.texts.items → new.ranges.items ≡ l.ranges.items → IsMarkerData (Some v) new
markers_read (array vs) first l new k c t r h a b d =
    let start : NoMarkers first = (c, t, r) in
    record {
      column = a ∙ ap (λ (x : Kind). with_state (state_for false x) l.column) h.0 ∙ ap (with_state state.Array) (h.1.column start);
      texts = b ∙ h.1.texts start;
      ranges = d ∙ h.1.ranges start;
    }
markers_read null first l new k c t r h a b d = markers_left null first l new state.Absent refl refl c t r h.1 (a ∙ ap (λ (x : Kind). with_state (state_for false x) l.column) h.0) b d
markers_read (boolean x) first l new k c t r h a b d = markers_left (boolean x) first l new state.NotArray refl refl c t r h.1 (a ∙ ap (λ (x : Kind). with_state (state_for false x) l.column) h.0) b d
markers_read (number x) first l new k c t r h a b d = markers_left (number x) first l new state.NotArray refl refl c t r h.1 (a ∙ ap (λ (x : Kind). with_state (state_for false x) l.column) h.0) b d
markers_read (string x) first l new k c t r h a b d = markers_left (string x) first l new state.NotArray refl refl c t r h.1 (a ∙ ap (λ (x : Kind). with_state (state_for false x) l.column) h.0) b d
markers_read (object x) first l new k c t r h a b d = markers_left (object x) first l new state.NotArray refl refl c t r h.1 (a ∙ ap (λ (x : Kind). with_state (state_for false x) l.column) h.0) b d
