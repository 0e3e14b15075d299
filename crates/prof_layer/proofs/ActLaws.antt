-- What a transform makes of a path with one more step is an act on what it makes of the path
use Rattle.std.proofs.Common.{◌≡◌, ℕ, ◌+◌, ℤ, Bool, true, false, cond, not, ◌||◌, ◌&&◌, List, [], ◌∷◌, ◌++◌, length, take, Some, None, sym, ap, ◌∙◌, refl, arith}
use Rattle.std.specs.Prelude.{◌==◌, nat_lt}
use Rattle.std.specs.Option.{option_map_or}
use Rattle.std.specs.List.{list_any, position, position_or_len}
use Rattle.std.proofs.lemmas.List.Folds.{list_any-append}
use Rattle.std.proofs.lemmas.Bool.Decides.{nat_tests}
use Rattle.prof_tables.specs.declared.rows.Step.{Step}
use Rattle.prof_tables.specs.Threads.{SharedTables}
use Rattle.prof_path.specs.declared.lists.Span.{Span}
use Rattle.prof_path.specs.declared.transform.Implementation.{Implementation}
use Rattle.prof_path.specs.declared.transform.Transform.{Transform}
use Rattle.prof_path.specs.declared.transform.Transform.TheVariants.{MergeFunction, MergeCallNode, DropFunction, FocusSubtree, FocusFunction, FocusCategory, CollapseResource, CollapseDirectRecursion, CollapseRecursion, CollapseFunctionSubtree, FilterSamples}
use Rattle.prof_path.specs.Shown.{shown, names}
use Rattle.prof_path.specs.Rewriting.{rewrite, is_func, after_last_of}
use Rattle.prof_path.specs.Stepwise.{along, along_next, has_met, completes, called, next_inside, inside}
use Rattle.prof_path.proofs.StepLaws.{names_step, along_step, called_step, inside_step, merge_function, drop_function, focus_function, focus_category, collapse_recursion, collapse_function_subtree, collapse_resource, collapse_direct_recursion, merge_call_node, focus_subtree}
use Rattle.prof_layer.specs.declared.acts.Act.{Act}
use Rattle.prof_layer.specs.declared.acts.Act.TheVariants.{Stay, Below, Empty, Back}
use Rattle.prof_layer.specs.Acts.{hit_of, next_hit, met_of, met_after, next_met, act_of, acted, first_of, IsStepwise}

any-step : (f : ℕ) (x : List Step) (s : Step) → list_any (is_func f) (x ++ s ∷ []) ≡ (list_any (is_func f) x || is_func f s)
any-step f x s = list_any-append (is_func f) x (s ∷ []) ∙ ap (λ b. list_any (is_func f) x || b) (or-false (is_func f s))
  where
    or-false : (b : Bool) → (b || false) ≡ b
    or-false true = refl
    or-false false = refl

pub hit-step : (t : SharedTables) (tr : Transform) (x : List Step) (s : Step) → hit_of t tr (x ++ s ∷ []) ≡ next_hit t tr (hit_of t tr x) s
hit-step t (MergeFunction f) x s = refl
hit-step t (MergeCallNode i q) x s = refl
hit-step t (DropFunction f) x s = any-step f x s
hit-step t (FocusSubtree i q inverted) x s = refl
hit-step t (FocusFunction f) x s = any-step f x s
hit-step t (FocusCategory c) x s = refl
hit-step t (CollapseResource i r) x s = inside_step t i r x s
hit-step t (CollapseDirectRecursion i f) x s = called_step t i f x s
hit-step t (CollapseRecursion f) x s = any-step f x s
hit-step t (CollapseFunctionSubtree f) x s = any-step f x s
hit-step t (FilterSamples text) x s = refl

along-step : (t : SharedTables) (i : Implementation) (q : List ℕ) (x : List Step) (s : Step) → along q (names t i (x ++ s ∷ [])) ≡ met_after t i q (along q (names t i x)) s
along-step t i q x s = ap (along q) (names_step t i x s) ∙ go (shown t i s.func)
  where
    go : (b : Bool) → along q (cond b (names t i x ++ s.func ∷ []) (names t i x)) ≡ cond b (along_next q (along q (names t i x)) s.func) (along q (names t i x))
    go true = along_step q (names t i x) s.func
    go false = refl

pub met-step : (t : SharedTables) (tr : Transform) (x : List Step) (s : Step) → met_of t tr (x ++ s ∷ []) ≡ next_met t tr (met_of t tr x) s
met-step t (MergeFunction f) x s = refl
met-step t (MergeCallNode i q) x s = along-step t i q x s
met-step t (DropFunction f) x s = refl
met-step t (FocusSubtree i q inverted) x s = along-step t i q x s
met-step t (FocusFunction f) x s = refl
met-step t (FocusCategory c) x s = refl
met-step t (CollapseResource i r) x s = refl
met-step t (CollapseDirectRecursion i f) x s = refl
met-step t (CollapseRecursion f) x s = refl
met-step t (CollapseFunctionSubtree f) x s = refl
met-step t (FilterSamples text) x s = refl

-- an act by cases of a test
acted-cond : (b : Bool) (a c : Act) (y first : List Step) → acted (cond b a c) y first ≡ cond b (acted a y first) (acted c y first)
acted-cond true a c y first = refl
acted-cond false a c y first = refl

resource-cases : (now hit : Bool) (y first : List Step) (s r : Step)
    → cond now (cond hit y (y ++ r ∷ [])) (y ++ s ∷ []) ≡ acted (cond now (cond hit Stay (Below r)) (Below s)) y first
resource-cases true true y first s r = refl
resource-cases true false y first s r = refl
resource-cases false hit y first s r = refl

pub act-step : (t : SharedTables) (tr : Transform) (spans : List Span) (x : List Step) (s : Step) (m : ℤ) → IsStepwise tr
    → rewrite t tr spans (x ++ s ∷ []) m ≡ acted (act_of t tr (hit_of t tr x) (met_of t tr x) s) (rewrite t tr spans x m) (first_of t tr spans x m)
act-step t (MergeFunction f) spans x s m h =
    merge_function t f spans x s m ∙ sym (acted-cond (is_func f s) Stay (Below s) (rewrite t (MergeFunction f) spans x m) [])
act-step t (MergeCallNode i q) spans x s m h =
    merge_call_node t i q spans x s m ∙ sym (acted-cond (shown t i s.func && completes q (along q (names t i x)) s.func) Stay (Below s) (rewrite t (MergeCallNode i q) spans x m) [])
act-step t (DropFunction f) spans x s m h =
    drop_function t f spans x s m ∙ sym (acted-cond (list_any (is_func f) x || is_func f s) Empty (Below s) (rewrite t (DropFunction f) spans x m) [])
act-step t (FocusSubtree i q false) spans x s m h =
    focus_subtree t i q spans x s m h
    ∙ ap (λ met. cond (has_met q met) (rewrite t (FocusSubtree i q false) spans x m ++ s ∷ []) []) (along-step t i q x s)
    ∙ sym (acted-cond (has_met q (met_after t i q (along q (names t i x)) s)) (Below s) Empty (rewrite t (FocusSubtree i q false) spans x m) [])
act-step t (FocusSubtree i q true) spans x s m h = absurd h
act-step t (FocusFunction f) spans x s m h =
    focus_function t f spans x s m ∙ sym (acted-cond (list_any (is_func f) x || is_func f s) (Below s) Empty (rewrite t (FocusFunction f) spans x m) [])
act-step t (FocusCategory c) spans x s m h =
    focus_category t c spans x s m ∙ sym (acted-cond (s.category == c) (Below s) Stay (rewrite t (FocusCategory c) spans x m) [])
act-step t (CollapseResource i r) spans x s m h =
    collapse_resource t i r spans x s m
    ∙ resource-cases (next_inside t i r (inside t i r x) s) (inside t i r x) (rewrite t (CollapseResource i r) spans x m) [] s (record s { func = length t.funcs + r })
act-step t (CollapseDirectRecursion i f) spans x s m h =
    collapse_direct_recursion t i f spans x s m ∙ sym (acted-cond (is_func f s && called t i f x) Stay (Below s) (rewrite t (CollapseDirectRecursion i f) spans x m) [])
act-step t (CollapseRecursion f) spans x s m h =
    collapse_recursion t f spans x s m ∙ sym (acted-cond (is_func f s && list_any (is_func f) x) Back (Below s) (rewrite t (CollapseRecursion f) spans x m) (rewrite t (CollapseFunctionSubtree f) spans x m))
act-step t (CollapseFunctionSubtree f) spans x s m h =
    collapse_function_subtree t f spans x s m ∙ sym (acted-cond (list_any (is_func f) x) Stay (Below s) (rewrite t (CollapseFunctionSubtree f) spans x m) [])
act-step t (FilterSamples text) spans x s m h = absurd h

-- where the function doesn't come, nothing is collapsed
none_before-cons : (p : Step → Bool) (s : Step) (x : List Step) (b : Bool) → (b || list_any p x) ≡ false
    → (list_any p x ≡ false → position_or_len p x ≡ length x)
    → cond (not b) (1 + position_or_len p x) 0 ≡ length (s ∷ x)
none_before-cons p s x true k e = cc
none_before-cons p s x false k e = let rest : position_or_len p x ≡ length x = e k in omega arith

none_before : (p : Step → Bool) (x : List Step) → list_any p x ≡ false → position_or_len p x ≡ length x
none_before p [] h = refl
none_before p (s ∷ x) h = none_before-cons p s x (p s) h (none_before p x)

unmet : (f : ℕ) (x : List Step) → list_any (is_func f) x ≡ false → position (is_func f) x ≡ None
unmet f x h =
    ap (λ n. cond (nat_lt n (length x)) (Some n) None) (none_before (is_func f) x h)
    ∙ ap (λ b. cond b (Some (length x)) None) (let e : nat_lt (length x) (length x) ≡ false = grind (arith, nat_tests) in e)

and-false : (b : Bool) → (b && false) ≡ false
and-false true = refl
and-false false = refl

-- the part of a path up to the first step of a function, after one more step
pub first-step : (t : SharedTables) (f : ℕ) (spans : List Span) (x : List Step) (s : Step) (m : ℤ)
    → rewrite t (CollapseFunctionSubtree f) spans (x ++ s ∷ []) m
    ≡ cond (list_any (is_func f) x) (rewrite t (CollapseFunctionSubtree f) spans x m) (rewrite t (CollapseRecursion f) spans (x ++ s ∷ []) m)
first-step t f spans x s m = collapse_function_subtree t f spans x s m ∙ go (list_any (is_func f) x) refl
  where
    go : (b : Bool) → list_any (is_func f) x ≡ b
        → cond b (rewrite t (CollapseFunctionSubtree f) spans x m) (rewrite t (CollapseFunctionSubtree f) spans x m ++ s ∷ [])
        ≡ cond b (rewrite t (CollapseFunctionSubtree f) spans x m) (rewrite t (CollapseRecursion f) spans (x ++ s ∷ []) m)
    go true h = refl
    go false h =
        ap (λ k. option_map_or (λ k. take (k + 1) x) k x ++ s ∷ []) (unmet f x h)
        ∙ sym (ap (λ k. option_map_or (λ k. take (k + 1) x ++ after_last_of f x) k x ++ s ∷ []) (unmet f x h))
        ∙ sym (collapse_recursion t f spans x s m ∙ ap (λ b. cond b (rewrite t (CollapseFunctionSubtree f) spans x m) (rewrite t (CollapseRecursion f) spans x m ++ s ∷ [])) (ap (λ b. is_func f s && b) h ∙ and-false (is_func f s)))
