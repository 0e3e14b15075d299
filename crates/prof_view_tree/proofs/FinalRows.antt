-- The rows of the final paths of samples
use Rattle.std.proofs.Common.{◌≡◌, ℕ, zero, suc, ◌+◌, ◌<◌, ◌≤◌, Bool, true, false, cond, List, [], ◌∷◌, ◌++◌, length, map, take, get_or, Option, Some, None, sym, ap, ◌∙◌, subst, refl, arith}
use Rattle.std.specs.Prelude.{slice_get}
use Rattle.std.specs.List.{filter, list_all}
use Rattle.std.proofs.lemmas.List.{append-nil, take_all, take_more, map-append, length-map}
use Rattle.std.proofs.lemmas.List.Elements.{filter-append}
use Rattle.std.proofs.lemmas.Option.{slice_get-get_or, slice_get_within}
use Rattle.prof_tables.specs.declared.rows.StackRow.{StackRow}
use Rattle.prof_tables.specs.declared.rows.SampleRow.{SampleRow}
use Rattle.prof_tables.specs.declared.rows.Step.{Step}
use Rattle.prof_tables.specs.Threads.{SharedTables, ThreadTables}
use Rattle.prof_tables.specs.Paths.{path}
use Rattle.prof_path.specs.declared.lists.Span.{Span}
use Rattle.prof_path.specs.declared.transform.Implementation.{Implementation}
use Rattle.prof_path.specs.Shown.{seen}
use Rattle.prof_path.specs.Terms.{terms_of}
use Rattle.prof_path.specs.Views.{ViewLists}
use Rattle.prof_path.specs.Finals.{final, found}
use Rattle.prof_layer.specs.Rewritten.{IsRowOf, entry_at}
use Rattle.prof_layer.specs.Simulates.{LayerLists, sample_path}
use Rattle.prof_layer.proofs.RowLaws.{entry-path}
use Rattle.prof_tree.specs.Nodes.{Weighed}
use Rattle.prof_view_tree.specs.Showing.{AreViewed, flag_at, final_of}
use Rattle.prof_view_tree.specs.Views.{finals, is_within, selected_samples}

-- an item is the same, whatever stands for none
pub same_item : {A : Type 0} (xs : List A) (i : ℕ) (d e : A) → i < length xs → get_or xs i d ≡ get_or xs i e
same_item [] i d e h = absurd (omega arith)
same_item (x ∷ xs) zero d e h = refl
same_item (x ∷ xs) (suc i) d e h = same_item xs i d e (omega arith)

nothing : (b : Bool) → cond {A = List Step} b [] [] ≡ []
nothing true = refl
nothing false = refl

module _ (l : LayerLists) (i : Implementation) (terms : List (List ℕ)) (s : SampleRow) where
  abbrev t : SharedTables
  t = l.base.shared

  abbrev kept_of : List Step → List Step
  kept_of y = cond (found t terms y) y []

  pub final_none : sample_path l s ≡ [] → final_of l i terms s ≡ []
  final_none e = ap (λ x. kept_of (seen t i x)) e ∙ nothing (found t terms [])

  module _ (shown : List StackRow) (outs : List (Option ℕ)) (kept : List Bool) (v : AreViewed t i terms l.top shown outs kept) (row : ℕ) (at : IsRowOf l.top (Some row) (sample_path l s)) where
    pub row_in : row < length outs
    row_in = omega (arith, at.0, v.rows.count)

    out_is : IsRowOf shown (entry_at outs row) (seen t i (sample_path l s))
    out_is = subst (λ x. IsRowOf shown (entry_at outs row) (seen t i x)) at.1 (v.rows.each row at.0)

    pub final_hidden : entry_at outs row ≡ None → final_of l i terms s ≡ []
    final_hidden e =
        let none : seen t i (sample_path l s) ≡ [] = subst (λ o. IsRowOf shown o (seen t i (sample_path l s))) e out_is in
        ap kept_of none ∙ nothing (found t terms [])

    module _ (out : ℕ) (e : entry_at outs row ≡ Some out) where
      there : IsRowOf shown (Some out) (seen t i (sample_path l s))
      there = subst (λ o. IsRowOf shown o (seen t i (sample_path l s))) e out_is

      pub out_in : out < length kept
      out_in = omega (arith, there.0, v.found.count)

      found_is : flag_at kept out ≡ found t terms (seen t i (sample_path l s))
      found_is = v.found.each out there.0 ∙ ap (found t terms) there.1

      pub final_missed : flag_at kept out ≡ false → final_of l i terms s ≡ []
      final_missed h = ap (λ b. cond b (seen t i (sample_path l s)) []) (sym found_is ∙ h)

      pub final_met : flag_at kept out ≡ true → IsRowOf shown (Some out) (final_of l i terms s)
      final_met h =
          let whole : final_of l i terms s ≡ seen t i (sample_path l s) = ap (λ b. cond b (seen t i (sample_path l s)) []) (sym found_is ∙ h) in
          (there.0, there.1 ∙ sym whole)

-- the final paths of the first samples
module _ (t : ThreadTables) (v : ViewLists) (spans : List (List Span)) where
  abbrev pub final_at : SampleRow → Weighed
  final_at s = record { steps = final t.shared v.transforms spans v.implementation (terms_of v.search) (path t.shared.stacks s.stack) s.time; weight = s.weight }

  abbrev pub is_in : SampleRow → Bool
  is_in s = list_all (is_within s.time) v.ranges

  abbrev pub finals_upto : ℕ → List Weighed
  finals_upto n = map final_at (selected_samples v.ranges (take n t.samples))

  next_is : (n : ℕ) (s : SampleRow) → slice_get t.samples n ≡ Some s → finals_upto (n + 1) ≡ finals_upto n ++ map final_at (cond (is_in s) (s ∷ []) [])
  next_is n s here =
      let within : n < length t.samples = slice_get_within t.samples n s here in
      let same : Some (get_or t.samples n s) ≡ Some s = sym (slice_get-get_or t.samples n s within) ∙ here in
      let one : get_or t.samples n s ≡ s = cc in
      ap (λ l. map final_at (filter is_in l)) (take_more t.samples n s within ∙ ap (λ z. take n t.samples ++ z ∷ []) one)
      ∙ (ap (map final_at) (filter-append is_in (take n t.samples) (s ∷ []))
      ∙ map-append final_at (filter is_in (take n t.samples)) (cond (is_in s) (s ∷ []) []))

  pub final_selected : (n : ℕ) (s : SampleRow) → slice_get t.samples n ≡ Some s → is_in s ≡ true → finals_upto n ++ final_at s ∷ [] ≡ finals_upto (n + 1)
  final_selected n s here e = sym (next_is n s here ∙ ap (λ b. finals_upto n ++ map final_at (cond b (s ∷ []) [])) e)

  pub final_outside : (n : ℕ) (s : SampleRow) → slice_get t.samples n ≡ Some s → is_in s ≡ false → finals_upto n ≡ finals_upto (n + 1)
  final_outside n s here e = sym (next_is n s here ∙ ap (λ b. finals_upto n ++ map final_at (cond b (s ∷ []) [])) e ∙ append-nil (finals_upto n))

  pub finals_all : (n : ℕ) → length t.samples ≤ n → finals_upto n ≡ finals t v spans
  finals_all n past = ap (λ l. map final_at (filter is_in l)) (take_all n t.samples past)

  filter-few : (ss : List SampleRow) (n : ℕ) → length (filter is_in (take n ss)) ≤ n
  filter-few [] zero = omega arith
  filter-few [] (suc n) = omega arith
  filter-few (s ∷ ss) zero = omega arith
  filter-few (s ∷ ss) (suc n) = by (is_in s) (filter-few ss n)
    where
      by : (b : Bool) → length (filter is_in (take n ss)) ≤ n → length (cond b (s ∷ filter is_in (take n ss)) (filter is_in (take n ss))) ≤ suc n
      by true h = omega arith
      by false h = omega arith

  pub finals_few : (n : ℕ) → length (finals_upto n) ≤ n
  finals_few n = omega (arith, filter-few t.samples n, length-map (filter is_in (take n t.samples)) final_at)

  -- the path of a sample's row
  pub final_same : (l : LayerLists) (s : SampleRow) (rows : List StackRow) (entry : Option ℕ) → l.base ≡ t → l.spans ≡ spans → l.settled ≡ v.transforms
      → IsRowOf rows entry (final_of l v.implementation (terms_of v.search) s) → path rows entry ≡ (final_at s).steps
  final_same l s rows entry base found settled h =
      entry-path rows entry (final_of l v.implementation (terms_of v.search) s) h
      ∙ (ap (λ (b : ThreadTables). final b.shared l.settled l.spans v.implementation (terms_of v.search) (path b.shared.stacks s.stack) s.time) base
      ∙ (ap (λ ts. final t.shared ts l.spans v.implementation (terms_of v.search) (path t.shared.stacks s.stack) s.time) settled
      ∙ ap (λ ss. final t.shared v.transforms ss v.implementation (terms_of v.search) (path t.shared.stacks s.stack) s.time) found))
