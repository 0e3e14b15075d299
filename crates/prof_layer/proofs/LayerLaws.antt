-- What a list of transforms makes of a path: those of rows rewrite it, and those of samples keep it or not
use Rattle.std.proofs.Common.{◌≡◌, ℕ, zero, suc, ◌+◌, ◌-◌, ◌<◌, ◌≤◌, ℤ, Bool, true, false, cond, not, ◌&&◌, List, [], ◌∷◌, ◌++◌, length, get_or, take, Option, None, Some, sym, ap, ◌∙◌, refl, subst, arith, inl, inr}
use Rattle.std.specs.Prelude.{slice_get}
use Rattle.std.specs.List.{All, list_any}
use Rattle.std.proofs.lemmas.Bool.{cases_lt}
use Rattle.std.proofs.lemmas.List.Folds.{list_all-append}
use Rattle.std.proofs.lemmas.Option.{none-some, slice_get-get_or}
use Rattle.std.proofs.lemmas.List.FromFn.{get_or-map-range_with_len, length-map-range_with_len}
use Rattle.std.proofs.lemmas.List.Elements.{All-weaker}
use Rattle.prof_tables.specs.declared.rows.Step.{Step}
use Rattle.prof_tables.specs.declared.rows.StackRow.{StackRow}
use Rattle.prof_tables.specs.declared.rows.SampleRow.{SampleRow}
use Rattle.prof_tables.specs.Threads.{SharedTables, ThreadTables}
use Rattle.prof_tables.specs.Paths.{path, PrefixesBelow}
use Rattle.prof_tables.specs.Ties.{IsStackRow}
use Rattle.prof_path.specs.declared.lists.Span.{Span}
use Rattle.prof_path.specs.declared.transform.Transform.{Transform}
use Rattle.prof_path.specs.declared.transform.Transform.TheVariants.{MergeFunction, MergeCallNode, DropFunction, FocusSubtree, FocusFunction, FocusCategory, CollapseResource, CollapseDirectRecursion, CollapseRecursion, CollapseFunctionSubtree, FilterSamples}
use Rattle.prof_path.specs.Rewriting.{rewrite, rewrite_all, is_during}
use Rattle.prof_path.proofs.StepLaws.{empty_stays}
use Rattle.prof_layer.specs.Rewritten.{IsRowOf, AreRows, entry_at}
use Rattle.prof_layer.specs.Simulates.{LayerLists, is_of_samples, of_rows, Stands, sample_path, own_entries}
use Rattle.prof_layer.specs.Kept.{found_of, is_kept}
use Rattle.prof_layer.specs.declared.layer.Table.{Table}
use Rattle.prof_layer.specs.Stacked.{rows_over, entries_over, AreLayers}
use Rattle.prof_layer.proofs.RowLaws.{path-none}
use Rattle.prof_raw.proofs.PushLemmas.{slice_get-push_other, slice_get-push_last}

-- the empty path stays empty
pub all-empty : (t : SharedTables) (ts : List Transform) (spans : List (List Span)) (m : ℤ) → rewrite_all t ts spans [] m ≡ []
all-empty t [] spans m = refl
all-empty t (tr ∷ ts) [] m = ap (λ x. rewrite_all t ts [] x m) (empty_stays t tr [] m) ∙ all-empty t ts [] m
all-empty t (tr ∷ ts) (found ∷ spans) m = ap (λ x. rewrite_all t ts spans x m) (empty_stays t tr found m) ∙ all-empty t ts spans m

-- transforms of rows look at no intervals
spans-unread : (t : SharedTables) (tr : Transform) (found : List Span) (x : List Step) (m : ℤ) → is_of_samples tr ≡ false → rewrite t tr found x m ≡ rewrite t tr [] x m
spans-unread t (MergeFunction f) found x m h = refl
spans-unread t (MergeCallNode i q) found x m h = refl
spans-unread t (DropFunction f) found x m h = refl
spans-unread t (FocusSubtree i q false) found x m h = refl
spans-unread t (FocusSubtree i q true) found x m h = refl
spans-unread t (FocusFunction f) found x m h = refl
spans-unread t (FocusCategory c) found x m h = refl
spans-unread t (CollapseResource i r) found x m h = refl
spans-unread t (CollapseDirectRecursion i f) found x m h = refl
spans-unread t (CollapseRecursion f) found x m h = refl
spans-unread t (CollapseFunctionSubtree f) found x m h = refl
spans-unread t (FilterSamples text) found x m h = absurd (cc)

-- transforms of samples keep the path or empty it
samples-keep : (t : SharedTables) (tr : Transform) (found : List Span) (x : List Step) (m : ℤ) → is_of_samples tr ≡ true → rewrite t tr found x m ≡ cond (list_any (is_during m) found) x []
samples-keep t (MergeFunction f) found x m h = absurd (cc)
samples-keep t (MergeCallNode i q) found x m h = absurd (cc)
samples-keep t (DropFunction f) found x m h = absurd (cc)
samples-keep t (FocusSubtree i q inverted) found x m h = absurd (cc)
samples-keep t (FocusFunction f) found x m h = absurd (cc)
samples-keep t (FocusCategory c) found x m h = absurd (cc)
samples-keep t (CollapseResource i r) found x m h = absurd (cc)
samples-keep t (CollapseDirectRecursion i f) found x m h = absurd (cc)
samples-keep t (CollapseRecursion f) found x m h = absurd (cc)
samples-keep t (CollapseFunctionSubtree f) found x m h = absurd (cc)
samples-keep t (FilterSamples text) found x m h = refl

-- one transform, over what the others make
split-with : (t : SharedTables) (tr : Transform) (ts : List Transform) (spans : List (List Span)) (found : List Span) (x : List Step) (m : ℤ) (b : Bool) → is_of_samples tr ≡ b
    → ((y : List Step) → rewrite_all t ts spans y m ≡ cond (is_kept (found_of ts spans) m) (rewrite_all t (of_rows ts) [] y m) [])
    → rewrite_all t ts spans (rewrite t tr found x m) m
    ≡ cond (is_kept (cond b (found ∷ found_of ts spans) (found_of ts spans)) m) (rewrite_all t (cond (not b) (tr ∷ of_rows ts) (of_rows ts)) [] x m) []
split-with t tr ts spans found x m false h rest = rest (rewrite t tr found x m) ∙ ap (λ y. cond (is_kept (found_of ts spans) m) (rewrite_all t (of_rows ts) [] y m) []) (spans-unread t tr found x m h)
split-with t tr ts spans found x m true h rest = ap (λ y. rewrite_all t ts spans y m) (samples-keep t tr found x m h) ∙ kept t ts spans x m (list_any (is_during m) found) (rest x)
  where
    kept : (t : SharedTables) (ts : List Transform) (spans : List (List Span)) (x : List Step) (m : ℤ) (c : Bool) → rewrite_all t ts spans x m ≡ cond (is_kept (found_of ts spans) m) (rewrite_all t (of_rows ts) [] x m) []
        → rewrite_all t ts spans (cond c x []) m ≡ cond (c && is_kept (found_of ts spans) m) (rewrite_all t (of_rows ts) [] x m) []
    kept t ts spans x m true k = k
    kept t ts spans x m false k = all-empty t ts spans m

pub split : (t : SharedTables) (ts : List Transform) (spans : List (List Span)) (x : List Step) (m : ℤ)
    → rewrite_all t ts spans x m ≡ cond (is_kept (found_of ts spans) m) (rewrite_all t (of_rows ts) [] x m) []
split t [] spans x m = refl
split t (tr ∷ ts) [] x m = split-with t tr ts [] [] x m (is_of_samples tr) refl (λ y. split t ts [] y m)
split t (tr ∷ ts) (found ∷ spans) x m = split-with t tr ts spans found x m (is_of_samples tr) refl (λ y. split t ts spans y m)

-- the path of a sample that isn't kept, that has no stack, and of the others
pub sample-out : (l : LayerLists) (s : SampleRow) → is_kept (found_of l.settled l.spans) s.time ≡ false → sample_path l s ≡ []
sample-out l s h =
    split l.base.shared l.settled l.spans (path l.base.shared.stacks s.stack) s.time
    ∙ ap (λ b. cond b (rewrite_all l.base.shared (of_rows l.settled) [] (path l.base.shared.stacks s.stack) s.time) []) h

pub sample-none : (l : LayerLists) (s : SampleRow) → s.stack ≡ None → sample_path l s ≡ []
sample-none l s h =
    ap (λ stack. rewrite_all l.base.shared l.settled l.spans (path l.base.shared.stacks stack) s.time) h
    ∙ ap (λ x. rewrite_all l.base.shared l.settled l.spans x s.time) (path-none l.base.shared.stacks)
    ∙ all-empty l.base.shared l.settled l.spans s.time

pub sample-in : (l : LayerLists) (s : SampleRow) (r : ℕ) → is_kept (found_of l.settled l.spans) s.time ≡ true → s.stack ≡ Some r
    → sample_path l s ≡ rewrite_all l.base.shared (of_rows l.settled) [] (path l.base.shared.stacks (Some r)) s.time
sample-in l s r h k =
    split l.base.shared l.settled l.spans (path l.base.shared.stacks s.stack) s.time
    ∙ ap (λ b. cond b (rewrite_all l.base.shared (of_rows l.settled) [] (path l.base.shared.stacks s.stack) s.time) []) h
    ∙ ap (λ stack. rewrite_all l.base.shared (of_rows l.settled) [] (path l.base.shared.stacks stack) s.time) k

-- a list without a last item is empty
pub no-last : {A : Type 0} (xs : List A) → slice_get xs (length xs - 1) ≡ None → length xs ≡ 0
no-last [] h = refl
no-last (x ∷ xs) h = absurd (none-some (get_or (x ∷ xs) (length (x ∷ xs) - 1) x) (sym h ∙ slice_get-get_or (x ∷ xs) (length (x ∷ xs) - 1) x (omega arith)))

-- the entry of a row of the base itself
pub own-entry : (rows : List StackRow) (r : ℕ) → r < length rows → Some r ≡ entry_at (own_entries rows) r
own-entry rows r lt = sym (get_or-map-range_with_len Some 0 (length rows) r r None lt (omega arith))

-- where no table is, the entries are the base's own
pub entries-none : (own : List StackRow) (tables : List Table) (entries : List (Option ℕ)) (r : ℕ) → slice_get tables (length tables - 1) ≡ None → entries_over own tables (length tables) ≡ entries → r < length own → Some r ≡ entry_at entries r
entries-none own tables entries r none is lt =
    own-entry own r lt ∙ ap (λ n. entry_at (entries_over own tables n) r) (sym (no-last tables none)) ∙ ap (λ l. entry_at l r) is

-- the base itself stands for its own paths
pub Stands-own : (base : ThreadTables) → AreRows base.shared base.shared.stacks → Stands base [] base.shared.stacks (own_entries base.shared.stacks)
Stands-own base fit = record {
  fit = fit;
  few = omega arith;
  count = length-map-range_with_len Some 0 (length base.shared.stacks);
  paths = λ r lt m. subst (λ e. IsRowOf base.shared.stacks e (path base.shared.stacks (Some r))) (own-entry base.shared.stacks r lt) (lt, refl);
}

pub layers-begun : (base : ThreadTables) → AreRows base.shared base.shared.stacks → AreLayers base [] [] [] []
layers-begun base fit = record {
  spans_count = refl;
  tables_count = refl;
  flags_count = refl;
  each_table = λ n le. begun-table base n le fit;
  each_flags = λ n kept at. absurd (cc);
}
  where
    begun-table : (base : ThreadTables) (n : ℕ) → n ≤ 0 → AreRows base.shared base.shared.stacks → Stands base (take n []) (rows_over base.shared.stacks [] n) (entries_over base.shared.stacks [] n)
    begun-table base zero le fit = Stands-own base fit
    begun-table base (suc n) le fit = absurd (omega arith)

-- the rows of a thread are of its functions and resources
pub AreRows-own : (t : SharedTables) → PrefixesBelow t.stacks → All (IsStackRow (length t.funcs) t.categories) t.stacks → AreRows t t.stacks
AreRows-own t below steps = record {
  prefixes = below;
  steps = All-weaker (IsStackRow (length t.funcs) t.categories) (IsStackRow (length t.funcs + length t.resources) t.categories) (λ row h. record { func = omega (arith, h.func); category = h.category }) t.stacks steps;
}

-- one more list of intervals
pub is_kept-more : (found : List (List Span)) (spans : List Span) (m : ℤ) → is_kept (found ++ spans ∷ []) m ≡ (is_kept found m && list_any (is_during m) spans)
is_kept-more found spans m = list_all-append (λ spans. list_any (is_during m) spans) found (spans ∷ []) ∙ ap (λ b. is_kept found m && b) (and-true (list_any (is_during m) spans))
  where
    and-true : (b : Bool) → (b && true) ≡ b
    and-true true = refl
    and-true false = refl

-- intervals that hold the same moments are alike there
pub is_kept-alike : (found : List (List Span)) (these those : List Span) (m : ℤ) → list_any (is_during m) these ≡ list_any (is_during m) those → is_kept (found ++ these ∷ []) m ≡ is_kept (found ++ those ∷ []) m
is_kept-alike found these those m h = is_kept-more found these m ∙ ap (λ b. is_kept found m && b) h ∙ sym (is_kept-more found those m)

-- the flags of one more sample
pub flags-more : (samples : List SampleRow) (keep : SampleRow → Bool) (k : ℕ) (flags new : List Bool) (b : Bool) → length flags ≡ k → new ≡ flags ++ b ∷ []
    → ((j : ℕ) (s : SampleRow) → j < k → slice_get samples j ≡ Some s → slice_get flags j ≡ Some (keep s))
    → ((s : SampleRow) → slice_get samples k ≡ Some s → b ≡ keep s)
    → (j : ℕ) (s : SampleRow) → j < k + 1 → slice_get samples j ≡ Some s → slice_get new j ≡ Some (keep s)
flags-more samples keep k flags new b count pushed before here j s lt at = ap (λ l. slice_get l j) pushed ∙ elim (cases_lt j k) [
  | inl l ↦ (let within : j < length flags = omega arith in slice_get-push_other flags b j within ∙ before j s l at)
  | inr g ↦ (let is : k ≡ j = omega arith in
      let flags_j : length flags ≡ j = omega arith in
      let P : ℕ → Type 0 = λ n. slice_get (flags ++ b ∷ []) n ≡ Some b in
      let Q : ℕ → Type 0 = λ n. slice_get samples n ≡ Some s in
      subst P flags_j (slice_get-push_last flags b) ∙ ap Some (here s (subst Q (sym is) at)))
]
