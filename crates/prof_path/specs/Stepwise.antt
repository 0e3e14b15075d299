-- What a transform makes of a path with one more step at its leaf, by what it makes of the path and a small state of it
use Rattle.std.specs.Prelude.{◌≡◌, ℕ, ◌+◌, ◌<◌, ℤ, Bool, true, false, ◌&&◌, ◌||◌, ◌==◌, List, [], ◌∷◌, ◌++◌, length, Option, Some, None, if◌then◌else◌}
use Rattle.std.specs.List.{fold, list_any}
use Rattle.std.specs.Option.{option_map, option_map_or}
use Rattle.prof_tables.specs.declared.rows.Step.{Step}
use Rattle.prof_tables.specs.Threads.{SharedTables}
use Rattle.prof_path.specs.declared.lists.Span.{Span}
use Rattle.prof_path.specs.declared.transform.Implementation.{Implementation}
use Rattle.prof_path.specs.declared.transform.Transform.{Transform}
use Rattle.prof_path.specs.declared.transform.Transform.TheVariants.{MergeFunction, MergeCallNode, DropFunction, FocusSubtree, FocusFunction, FocusCategory, CollapseResource, CollapseDirectRecursion, CollapseRecursion, CollapseFunctionSubtree, FilterSamples}
use Rattle.prof_path.specs.Shown.{shown, names}
use Rattle.prof_path.specs.Rewriting.{rewrite, rewrite_all, is_func, is_hidden, has_resource, is_during, meets}

-- how many functions of q the shown functions ns have met, from the first on, all of q at most; none once they leave it
abbrev pub along : List ℕ → List ℕ → Option ℕ
along [] ns = Some 0
along (f ∷ q) [] = Some 0
along (f ∷ q) (n ∷ ns) = if n == f then option_map (λ k. k + 1) (along q ns) else None

-- the same after one more shown function
abbrev pub along_next : List ℕ → Option ℕ → ℕ → Option ℕ
along_next q None f = None
along_next q (Some k) f = if k == length q then Some k else (if meets q k f then Some (k + 1) else None)

-- whether all of q is met, and whether a shown function is the last that was missing
abbrev pub has_met : List ℕ → Option ℕ → Bool
has_met q met = option_map_or (λ k. k == length q) met false

abbrev pub completes : List ℕ → Option ℕ → ℕ → Bool
completes q met f = option_map_or (λ k. meets q k f && k + 1 == length q) met false

-- whether, going back from the leaf past hidden steps, f is met first
abbrev pub next_called : SharedTables → Implementation → ℕ → Bool → Step → Bool
next_called t i f called s = is_func f s || (called && is_hidden t i s)

abbrev pub called : SharedTables → Implementation → ℕ → List Step → Bool
called t i f x = fold (next_called t i f) false x

-- whether the leaf is inside the resource
abbrev pub next_inside : SharedTables → Implementation → ℕ → Bool → Step → Bool
next_inside t i r inside s = has_resource t r s || (is_hidden t i s && inside)

abbrev pub inside : SharedTables → Implementation → ℕ → List Step → Bool
inside t i r x = fold (next_inside t i r) false x

-- the states
abbrev pub NamesStep : Type 0
NamesStep = (t : SharedTables) (i : Implementation) (x : List Step) (s : Step)
    → names t i (x ++ s ∷ []) ≡ (if shown t i s.func then names t i x ++ s.func ∷ [] else names t i x)

abbrev pub AlongStep : Type 0
AlongStep = (q ns : List ℕ) (f : ℕ) → along q (ns ++ f ∷ []) ≡ along_next q (along q ns) f

abbrev pub CalledStep : Type 0
CalledStep = (t : SharedTables) (i : Implementation) (f : ℕ) (x : List Step) (s : Step)
    → called t i f (x ++ s ∷ []) ≡ next_called t i f (called t i f x) s

abbrev pub InsideStep : Type 0
InsideStep = (t : SharedTables) (i : Implementation) (r : ℕ) (x : List Step) (s : Step)
    → inside t i r (x ++ s ∷ []) ≡ next_inside t i r (inside t i r x) s

-- the rewritten paths
abbrev pub EmptyStays : Type 0
EmptyStays = (t : SharedTables) (transform : Transform) (spans : List Span) (m : ℤ) → rewrite t transform spans [] m ≡ []

abbrev pub MergeFunctionStep : Type 0
MergeFunctionStep = (t : SharedTables) (f : ℕ) (spans : List Span) (x : List Step) (s : Step) (m : ℤ)
    → rewrite t (MergeFunction f) spans (x ++ s ∷ []) m
    ≡ (if is_func f s then rewrite t (MergeFunction f) spans x m else rewrite t (MergeFunction f) spans x m ++ s ∷ [])

abbrev pub MergeCallNodeStep : Type 0
MergeCallNodeStep = (t : SharedTables) (i : Implementation) (q : List ℕ) (spans : List Span) (x : List Step) (s : Step) (m : ℤ)
    → rewrite t (MergeCallNode i q) spans (x ++ s ∷ []) m
    ≡ (if shown t i s.func && completes q (along q (names t i x)) s.func
    then rewrite t (MergeCallNode i q) spans x m
    else rewrite t (MergeCallNode i q) spans x m ++ s ∷ [])

abbrev pub DropFunctionStep : Type 0
DropFunctionStep = (t : SharedTables) (f : ℕ) (spans : List Span) (x : List Step) (s : Step) (m : ℤ)
    → rewrite t (DropFunction f) spans (x ++ s ∷ []) m
    ≡ (if list_any (is_func f) x || is_func f s then [] else rewrite t (DropFunction f) spans x m ++ s ∷ [])

abbrev pub FocusSubtreeStep : Type 0
FocusSubtreeStep = (t : SharedTables) (i : Implementation) (q : List ℕ) (spans : List Span) (x : List Step) (s : Step) (m : ℤ) → 0 < length q
    → rewrite t (FocusSubtree i q false) spans (x ++ s ∷ []) m
    ≡ (if has_met q (along q (names t i (x ++ s ∷ []))) then rewrite t (FocusSubtree i q false) spans x m ++ s ∷ [] else [])

-- read from the leaf: a shown leaf has to be the first of q, and what is left of q goes on above it
abbrev pub InvertedFocusStep : Type 0
InvertedFocusStep = (t : SharedTables) (i : Implementation) (f : ℕ) (q : List ℕ) (spans : List Span) (x : List Step) (s : Step) (m : ℤ)
    → rewrite t (FocusSubtree i (f ∷ q) true) spans (x ++ s ∷ []) m
    ≡ (if is_hidden t i s
    then rewrite t (FocusSubtree i (f ∷ q) true) spans x m
    else (if is_func f s
    then (if length q == 0 then x ++ s ∷ [] else rewrite t (FocusSubtree i q true) spans x m)
    else []))

abbrev pub FocusFunctionStep : Type 0
FocusFunctionStep = (t : SharedTables) (f : ℕ) (spans : List Span) (x : List Step) (s : Step) (m : ℤ)
    → rewrite t (FocusFunction f) spans (x ++ s ∷ []) m
    ≡ (if list_any (is_func f) x || is_func f s then rewrite t (FocusFunction f) spans x m ++ s ∷ [] else [])

abbrev pub FocusCategoryStep : Type 0
FocusCategoryStep = (t : SharedTables) (c : ℕ) (spans : List Span) (x : List Step) (s : Step) (m : ℤ)
    → rewrite t (FocusCategory c) spans (x ++ s ∷ []) m
    ≡ (if s.category == c then rewrite t (FocusCategory c) spans x m ++ s ∷ [] else rewrite t (FocusCategory c) spans x m)

abbrev pub CollapseResourceStep : Type 0
CollapseResourceStep = (t : SharedTables) (i : Implementation) (r : ℕ) (spans : List Span) (x : List Step) (s : Step) (m : ℤ)
    → rewrite t (CollapseResource i r) spans (x ++ s ∷ []) m
    ≡ (if next_inside t i r (inside t i r x) s
    then (if inside t i r x
    then rewrite t (CollapseResource i r) spans x m
    else rewrite t (CollapseResource i r) spans x m ++ (record s { func = length t.funcs + r }) ∷ [])
    else rewrite t (CollapseResource i r) spans x m ++ s ∷ [])

abbrev pub CollapseDirectRecursionStep : Type 0
CollapseDirectRecursionStep = (t : SharedTables) (i : Implementation) (f : ℕ) (spans : List Span) (x : List Step) (s : Step) (m : ℤ)
    → rewrite t (CollapseDirectRecursion i f) spans (x ++ s ∷ []) m
    ≡ (if is_func f s && called t i f x
    then rewrite t (CollapseDirectRecursion i f) spans x m
    else rewrite t (CollapseDirectRecursion i f) spans x m ++ s ∷ [])

-- a further step of f leads back to the path up to the first
abbrev pub CollapseRecursionStep : Type 0
CollapseRecursionStep = (t : SharedTables) (f : ℕ) (spans : List Span) (x : List Step) (s : Step) (m : ℤ)
    → rewrite t (CollapseRecursion f) spans (x ++ s ∷ []) m
    ≡ (if is_func f s && list_any (is_func f) x
    then rewrite t (CollapseFunctionSubtree f) spans x m
    else rewrite t (CollapseRecursion f) spans x m ++ s ∷ [])

abbrev pub CollapseFunctionSubtreeStep : Type 0
CollapseFunctionSubtreeStep = (t : SharedTables) (f : ℕ) (spans : List Span) (x : List Step) (s : Step) (m : ℤ)
    → rewrite t (CollapseFunctionSubtree f) spans (x ++ s ∷ []) m
    ≡ (if list_any (is_func f) x
    then rewrite t (CollapseFunctionSubtree f) spans x m
    else rewrite t (CollapseFunctionSubtree f) spans x m ++ s ∷ [])

abbrev pub FilterSamplesStep : Type 0
FilterSamplesStep = (t : SharedTables) (text : List ℕ) (spans : List Span) (x : List Step) (s : Step) (m : ℤ)
    → rewrite t (FilterSamples text) spans (x ++ s ∷ []) m
    ≡ (if list_any (is_during m) spans then rewrite t (FilterSamples text) spans x m ++ s ∷ [] else [])

-- one more transform
abbrev pub OneMoreTransform : Type 0
OneMoreTransform = (t : SharedTables) (transforms : List Transform) (spans : List (List Span)) (transform : Transform) (found : List Span) (x : List Step) (m : ℤ)
    → length spans ≡ length transforms
    → rewrite_all t (transforms ++ transform ∷ []) (spans ++ found ∷ []) x m ≡ rewrite t transform found (rewrite_all t transforms spans x m) m
