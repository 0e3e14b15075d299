-- A pass over rows, row by row
use Rattle.std.proofs.Common.{◌≡◌, ℕ, suc, ◌+◌, ◌<◌, ℤ, pos, Bool, true, false, cond, List, [], ◌∷◌, ◌++◌, length, map, Option, None, Some, sym, ap, ◌∙◌, refl, subst, arith, inl, inr}
use Rattle.std.specs.Prelude.{slice_get, IfSome, unwrap_or}
use Rattle.std.specs.List.{All}
use Rattle.std.proofs.lemmas.Bool.{cases_lt}
use Rattle.std.proofs.lemmas.List.{get_or-map, length-map}
use Rattle.std.proofs.lemmas.Option.{unwrap_or-slice_get}
use Rattle.prof_tables.specs.declared.rows.Step.{Step}
use Rattle.prof_tables.specs.declared.rows.StackRow.{StackRow}
use Rattle.prof_tables.specs.Threads.{SharedTables}
use Rattle.prof_tables.specs.Paths.{path, step_of, PrefixesBelow}
use Rattle.prof_tables.proofs.PathLemmas.{path-row}
use Rattle.prof_path.specs.declared.lists.Span.{Span}
use Rattle.prof_path.specs.declared.transform.Transform.{Transform}
use Rattle.prof_path.specs.declared.transform.Transform.TheVariants.{MergeFunction, MergeCallNode, DropFunction, FocusSubtree, FocusFunction, FocusCategory, CollapseResource, CollapseDirectRecursion, CollapseRecursion, CollapseFunctionSubtree, FilterSamples}
use Rattle.prof_path.specs.Rewriting.{rewrite}
use Rattle.prof_path.proofs.StepLaws.{empty_stays}
use Rattle.prof_layer.specs.declared.acts.Act.{Act}
use Rattle.prof_layer.specs.declared.passing.Place.{Place}
use Rattle.prof_layer.specs.Acts.{hit_of, next_hit, met_of, next_met, act_of, acted, first_of, IsStepwise}
use Rattle.prof_tables.specs.Ties.{IsStackRow}
use Rattle.prof_layer.specs.Rewritten.{IsRowOf, entry_at, IsRewritten}
use Rattle.prof_layer.specs.Passing.{root, place_of, out_after, rows_after, first_after, place_after, IsPlace, IsPassed}
use Rattle.prof_layer.proofs.ActLaws.{hit-step, met-step, act-step, first-step}
use Rattle.prof_layer.proofs.RowLaws.{path-none, entry-below, act-row, rows_after-prefixes, rows_after-length, IsRowOf-after}
use Rattle.prof_raw.proofs.PushLemmas.{slice_get-push_other, slice_get-push_last, length-push}

-- the place of the empty path
met-empty : (t : SharedTables) (tr : Transform) → Some 0 ≡ met_of t tr []
met-empty t (MergeFunction f) = refl
met-empty t (MergeCallNode i []) = refl
met-empty t (MergeCallNode i (f ∷ q)) = refl
met-empty t (DropFunction f) = refl
met-empty t (FocusSubtree i [] inverted) = refl
met-empty t (FocusSubtree i (f ∷ q) inverted) = refl
met-empty t (FocusFunction f) = refl
met-empty t (FocusCategory c) = refl
met-empty t (CollapseResource i r) = refl
met-empty t (CollapseDirectRecursion i f) = refl
met-empty t (CollapseRecursion f) = refl
met-empty t (CollapseFunctionSubtree f) = refl
met-empty t (FilterSamples text) = refl

hit-empty : (t : SharedTables) (tr : Transform) → false ≡ hit_of t tr []
hit-empty t (MergeFunction f) = refl
hit-empty t (MergeCallNode i q) = refl
hit-empty t (DropFunction f) = refl
hit-empty t (FocusSubtree i q inverted) = refl
hit-empty t (FocusFunction f) = refl
hit-empty t (FocusCategory c) = refl
hit-empty t (CollapseResource i r) = refl
hit-empty t (CollapseDirectRecursion i f) = refl
hit-empty t (CollapseRecursion f) = refl
hit-empty t (CollapseFunctionSubtree f) = refl
hit-empty t (FilterSamples text) = refl

first-empty : (t : SharedTables) (tr : Transform) (spans : List Span) (m : ℤ) → first_of t tr spans [] m ≡ []
first-empty t (MergeFunction f) spans m = refl
first-empty t (MergeCallNode i q) spans m = refl
first-empty t (DropFunction f) spans m = refl
first-empty t (FocusSubtree i q inverted) spans m = refl
first-empty t (FocusFunction f) spans m = refl
first-empty t (FocusCategory c) spans m = refl
first-empty t (CollapseResource i r) spans m = refl
first-empty t (CollapseDirectRecursion i f) spans m = refl
first-empty t (CollapseRecursion f) spans m = empty_stays t (CollapseFunctionSubtree f) spans m
first-empty t (CollapseFunctionSubtree f) spans m = refl
first-empty t (FilterSamples text) spans m = refl

pub root-place : (t : SharedTables) (tr : Transform) (rows : List StackRow) → IsPlace t tr rows [] root
root-place t tr rows = record {
  hit = hit-empty t tr;
  met = met-empty t tr;
  out = λ spans m. empty_stays t tr spans m;
  first = λ spans m. first-empty t tr spans m;
}

-- a place stays that of its path after more rows
place-kept : (t : SharedTables) (tr : Transform) (a : Act) (rows : List StackRow) (above : Place) (x : List Step) (place : Place) → PrefixesBelow rows
    → IsPlace t tr rows x place → IsPlace t tr (rows_after a above rows) x place
place-kept t tr a rows above x place p h = record {
  hit = h.hit;
  met = h.met;
  out = λ spans m. IsRowOf-after a rows above place.out (rewrite t tr spans x m) p (h.out spans m);
  first = λ spans m. IsRowOf-after a rows above place.first (first_of t tr spans x m) p (h.first spans m);
}

-- the row of the path up to the first step of the function
first-place : (t : SharedTables) (tr : Transform) (a : Act) (rows : List StackRow) (above : Place) (x : List Step) (s : Step) (out : Option ℕ) (spans : List Span) (m : ℤ) → PrefixesBelow rows
    → IsPlace t tr rows x above
    → IsRowOf (rows_after a above rows) out (rewrite t tr spans (x ++ s ∷ []) m)
    → IsRowOf (rows_after a above rows) (first_after tr above out) (first_of t tr spans (x ++ s ∷ []) m)
first-place t (MergeFunction f) a rows above x s out spans m p h o = refl
first-place t (MergeCallNode i q) a rows above x s out spans m p h o = refl
first-place t (DropFunction f) a rows above x s out spans m p h o = refl
first-place t (FocusSubtree i q inverted) a rows above x s out spans m p h o = refl
first-place t (FocusFunction f) a rows above x s out spans m p h o = refl
first-place t (FocusCategory c) a rows above x s out spans m p h o = refl
first-place t (CollapseResource i r) a rows above x s out spans m p h o = refl
first-place t (CollapseDirectRecursion i f) a rows above x s out spans m p h o = refl
first-place t (CollapseRecursion f) a rows above x s out spans m p h o =
    let R : Option ℕ → List Step → Type 0 = IsRowOf (rows_after a above rows) in
    subst (R (cond above.hit above.first out)) (sym (first-step t f spans x s m))
    (subst (λ b. R (cond above.hit above.first out) (cond b (rewrite t (CollapseFunctionSubtree f) spans x m) (rewrite t (CollapseRecursion f) spans (x ++ s ∷ []) m))) h.hit
    (first-cases R above.hit above.first out (rewrite t (CollapseFunctionSubtree f) spans x m) (rewrite t (CollapseRecursion f) spans (x ++ s ∷ []) m)
    (IsRowOf-after a rows above above.first (rewrite t (CollapseFunctionSubtree f) spans x m) p (h.first spans m)) o))
  where
    first-cases : (R : Option ℕ → List Step → Type 0) (b : Bool) (e f : Option ℕ) (y z : List Step) → R e y → R f z → R (cond b e f) (cond b y z)
    first-cases R true e f y z h k = h
    first-cases R false e f y z h k = k
first-place t (CollapseFunctionSubtree f) a rows above x s out spans m p h o = refl
first-place t (FilterSamples text) a rows above x s out spans m p h o = refl

-- the place of a path with one more step
pub place-step : (t : SharedTables) (tr : Transform) (rows : List StackRow) (above : Place) (x : List Step) (s : Step) → IsStepwise tr → PrefixesBelow rows → IsPlace t tr rows x above
    → IsPlace t tr (rows_after (act_of t tr above.hit above.met s) above rows) (x ++ s ∷ []) (place_after t tr above s (length rows))
place-step t tr rows above x s k p h = record {
  hit = ap (λ hit. next_hit t tr hit s) h.hit ∙ sym (hit-step t tr x s);
  met = ap (λ met. next_met t tr met s) h.met ∙ sym (met-step t tr x s);
  out = out;
  first = λ spans m. first-place t tr (act_of t tr above.hit above.met s) rows above x s (out_after (act_of t tr above.hit above.met s) above (length rows)) spans m p h (out spans m);
}
  where
    same : act_of t tr above.hit above.met s ≡ act_of t tr (hit_of t tr x) (met_of t tr x) s
    same = ap (λ hit. act_of t tr hit above.met s) h.hit ∙ ap (λ met. act_of t tr (hit_of t tr x) met s) h.met

    out : (spans : List Span) (m : ℤ)
        → IsRowOf (rows_after (act_of t tr above.hit above.met s) above rows) (out_after (act_of t tr above.hit above.met s) above (length rows)) (rewrite t tr spans (x ++ s ∷ []) m)
    out spans m =
        subst (IsRowOf (rows_after (act_of t tr above.hit above.met s) above rows) (out_after (act_of t tr above.hit above.met s) above (length rows)))
        (ap (λ a. acted a (rewrite t tr spans x m) (first_of t tr spans x m)) same ∙ sym (act-step t tr spans x s m k))
        (act-row (act_of t tr above.hit above.met s) rows above (rewrite t tr spans x m) (first_of t tr spans x m) p (h.out spans m) (h.first spans m))

-- the place of a prefix
pub above-place : (t : SharedTables) (tr : Transform) (top : List StackRow) (n : ℕ) (rows : List StackRow) (places : List Place) (prefix : Option ℕ) → IsPassed t tr top n rows places → IfSome prefix (λ p. p < n)
    → IsPlace t tr rows (path top prefix) (place_of places prefix)
above-place t tr top n rows places None h k = subst (λ x. IsPlace t tr rows x root) (sym (path-none top)) (root-place t tr rows)
above-place t tr top n rows places (Some p) h k = h.each p k

-- the first row of a pass, and one more
pub pass-begun : (t : SharedTables) (tr : Transform) (top : List StackRow) → IsPassed t tr top 0 [] []
pass-begun t tr top = record { count = refl; few = omega arith; prefixes = λ i row e. absurd (cc); each = λ k h. absurd (omega arith) }

each-more : (P : ℕ → Place → Type 0) (n : ℕ) (places : List Place) (place : Place) → length places ≡ n
    → ((k : ℕ) → k < n → P k (place_of places (Some k))) → P n place
    → (k : ℕ) → k < n + 1 → P k (place_of (places ++ place ∷ []) (Some k))
each-more P n places place count before here k lt = elim (cases_lt k n) [
  | inl l ↦ (let within : k < length places = omega arith in
      subst (λ o. P k (unwrap_or o root)) (sym (slice_get-push_other places place k within)) (before k l))
  | inr g ↦ (let same : length places ≡ k = omega arith in
      let n_k : n ≡ k = omega arith in
      let Q : ℕ → Type 0 = λ j. slice_get (places ++ place ∷ []) j ≡ Some place in
      let last : slice_get (places ++ place ∷ []) k ≡ Some place = subst Q same (slice_get-push_last places place) in
      subst (λ o. P k (unwrap_or o root)) (sym last) (let R : ℕ → Type 0 = λ j. P j place in subst R n_k here))
]

pass-with : (t : SharedTables) (tr : Transform) (top : List StackRow) (n : ℕ) (rows : List StackRow) (places : List Place) (row : StackRow) (above : Place)
    → IsStepwise tr → PrefixesBelow top → slice_get top n ≡ Some row → IsPassed t tr top n rows places → IsPlace t tr rows (path top row.prefix) above
    → IsPassed t tr top (n + 1) (rows_after (act_of t tr above.hit above.met (step_of row)) above rows) (places ++ place_after t tr above (step_of row) (length rows) ∷ [])
pass-with t tr top n rows places row above k below at h seat =
    let a : Act = act_of t tr above.hit above.met (step_of row) in
    let place : Place = place_after t tr above (step_of row) (length rows) in
    record {
      count = length-push places place ∙ ap suc h.count ∙ (let e : suc n ≡ n + 1 = omega arith in e);
      few = omega (arith, rows_after-length a rows above, h.few);
      prefixes = rows_after-prefixes a rows above h.prefixes (entry-below rows above.out (rewrite t tr [] (path top row.prefix) (pos 0)) (seat.out [] (pos 0)));
      each = each-more (λ j. IsPlace t tr (rows_after a above rows) (path top (Some j))) n places place h.count
          (λ j lt. place-kept t tr a rows above (path top (Some j)) (place_of places (Some j)) h.prefixes (h.each j lt))
          (subst (λ x. IsPlace t tr (rows_after a above rows) x place) (sym (path-row top n row below at)) (place-step t tr rows above (path top row.prefix) (step_of row) k h.prefixes seat));
    }

pub pass-more : (t : SharedTables) (tr : Transform) (top : List StackRow) (n : ℕ) (rows new_rows : List StackRow) (places new_places : List Place) (row : StackRow) (above place : Place)
    → IsStepwise tr → PrefixesBelow top → slice_get top n ≡ Some row → IsPassed t tr top n rows places
    → above ≡ place_of places row.prefix
    → place ≡ place_after t tr above (step_of row) (length rows)
    → new_rows ≡ rows_after (act_of t tr above.hit above.met (step_of row)) above rows
    → new_places ≡ places ++ place ∷ []
    → IsPassed t tr top (n + 1) new_rows new_places
pass-more t tr top n rows new_rows places new_places row above place k below at h is placed grown pushed =
    subst (λ r. IsPassed t tr top (n + 1) r new_places) (sym grown)
    (subst (λ ps. IsPassed t tr top (n + 1) (rows_after (act_of t tr above.hit above.met (step_of row)) above rows) ps)
    (sym (pushed ∙ ap (λ p. places ++ p ∷ []) placed))
    (pass-with t tr top n rows places row above k below at h
    (subst (IsPlace t tr rows (path top row.prefix)) (sym is) (above-place t tr top n rows places row.prefix h (below n row at)))))

-- all rows of the top
pub pass-done : (t : SharedTables) (tr : Transform) (top : List StackRow) (n : ℕ) (rows : List StackRow) (places : List Place) (outs : List (Option ℕ))
    → n ≡ length top → outs ≡ map (λ (p : Place). p.out) places → IsPassed t tr top n rows places
    → All (IsStackRow (length t.funcs + length t.resources) t.categories) rows
    → IsRewritten t tr top rows outs
pass-done t tr top n rows places outs all gone h steps = record {
  fit = record { prefixes = h.prefixes; steps = steps };
  few = omega (arith, h.few);
  count = ap length gone ∙ length-map places (λ (p : Place). p.out) ∙ h.count ∙ all;
  paths = λ i lt spans m.
      let within : i < length places = omega (arith, h.count) in
      let below : i < n = omega arith in
      subst (λ e. IsRowOf rows e (rewrite t tr spans (path top (Some i)) m))
      (ap (λ (p : Place). p.out) (unwrap_or-slice_get places i root) ∙ sym (get_or-map (λ (p : Place). p.out) places i root None within) ∙ ap (λ l. entry_at l i) (sym gone))
      ((h.each i below).out spans m);
}

-- where the path of a prefix went is a row
pub above-out : (t : SharedTables) (tr : Transform) (top : List StackRow) (n : ℕ) (rows : List StackRow) (places : List Place) (prefix : Option ℕ) → IsPassed t tr top n rows places → IfSome prefix (λ p. p < n)
    → IfSome (place_of places prefix).out (λ p. p < length rows)
above-out t tr top n rows places prefix h k =
    entry-below rows (place_of places prefix).out (rewrite t tr [] (path top prefix) (pos 0)) ((above-place t tr top n rows places prefix h k).out [] (pos 0))
