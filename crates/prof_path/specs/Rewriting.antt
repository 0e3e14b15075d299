-- What a transform makes of a path
use Rattle.std.specs.Prelude.{ℕ, ◌+◌, ◌-◌, ℤ, int_le, Bool, true, false, not, ◌&&◌, ◌||◌, ◌==◌, nat_eq, List, [], ◌∷◌, ◌++◌, length, take, drop, reverse, Option, slice_get, if◌then◌else◌}
use Rattle.std.specs.List.{filter, find, list_any, range_with_len, remove, position}
use Rattle.std.specs.Cmp.Lexicographic.{pointwise}
use Rattle.std.specs.Option.{option_map_or}
use Rattle.prof_tables.specs.declared.rows.Step.{Step}
use Rattle.prof_tables.specs.Threads.{SharedTables, resource_of}
use Rattle.prof_path.specs.declared.lists.Span.{Span}
use Rattle.prof_path.specs.declared.transform.Implementation.{Implementation}
use Rattle.prof_path.specs.declared.transform.Transform.{Transform}
use Rattle.prof_path.specs.declared.transform.Transform.TheVariants.{MergeFunction, MergeCallNode, DropFunction, FocusSubtree, FocusFunction, FocusCategory, CollapseResource, CollapseDirectRecursion, CollapseRecursion, CollapseFunctionSubtree, FilterSamples}
use Rattle.prof_path.specs.Shown.{shown, names}

abbrev pub is_func : ℕ → Step → Bool
is_func f s = s.func == f

abbrev pub is_hidden : SharedTables → Implementation → Step → Bool
is_hidden t i s = not (shown t i s.func)

-- whether the step at k is shown, and the shown functions up to it are q
abbrev pub ends : SharedTables → Implementation → List ℕ → List Step → ℕ → Bool
ends t i q x k = option_map_or (λ (s : Step). shown t i s.func) (slice_get x k) false && pointwise nat_eq (names t i (take (k + 1) x)) q

-- the place at which q ends, of which there is at most one
abbrev pub end_of : SharedTables → Implementation → List ℕ → List Step → Option ℕ
end_of t i q x = find (ends t i q x) (range_with_len 0 (length x))

-- whether f stands in q at k
abbrev pub meets : List ℕ → ℕ → ℕ → Bool
meets q k f = option_map_or (λ g. f == g) (slice_get q k) false

-- the steps up to the one at which q ends, where the path is read from the leaf
abbrev pub up_to_end : SharedTables → Implementation → List ℕ → List Step → List Step
up_to_end t i q x = option_map_or (λ k. take (length x - k) x) (end_of t i q (reverse x)) []

-- whether a step has the resource
abbrev pub has_resource : SharedTables → ℕ → Step → Bool
has_resource t r s = option_map_or (λ o. o == r) (resource_of t s.func) false

-- each run of steps inside the resource becomes one step, that of the resource. A step is inside where it has the
-- resource, or where it is hidden and the one before is inside
abbrev pub collapsed : SharedTables → Implementation → ℕ → Bool → List Step → List Step
collapsed t i r inside [] = []
collapsed t i r inside (s ∷ x) =
    if has_resource t r s || (is_hidden t i s && inside)
    then ((if inside then [] else (record s { func = length t.funcs + r }) ∷ []) ++ collapsed t i r true x)
    else s ∷ collapsed t i r false x

-- without each step of f that is called by f. `called` says that, going back past hidden steps, f is met first
abbrev pub without_repeats : SharedTables → Implementation → ℕ → Bool → List Step → List Step
without_repeats t i f called [] = []
without_repeats t i f called (s ∷ x) =
    if is_func f s
    then ((if called then [] else s ∷ []) ++ without_repeats t i f true x)
    else s ∷ without_repeats t i f (called && is_hidden t i s) x

-- what stands after the last step of f
abbrev pub after_last_of : ℕ → List Step → List Step
after_last_of f [] = []
after_last_of f (s ∷ x) = if list_any (is_func f) (s ∷ x) then after_last_of f x else s ∷ x

-- whether a moment lies in a closed interval
abbrev pub is_during : ℤ → Span → Bool
is_during m span = int_le span.start m && int_le m span.end

-- the path that a transform makes of the path x of a sample at the moment m. `spans` are the intervals of the markers
-- that the search of a FilterSamples finds
abbrev pub rewrite : SharedTables → Transform → List Span → List Step → ℤ → List Step
rewrite t (MergeFunction f) spans x m = filter (λ s. not (is_func f s)) x
rewrite t (MergeCallNode i q) spans x m = option_map_or (remove x) (end_of t i q x) x
rewrite t (DropFunction f) spans x m = if list_any (is_func f) x then [] else x
rewrite t (FocusSubtree i q false) spans x m = option_map_or (λ k. drop k x) (end_of t i q x) []
rewrite t (FocusSubtree i q true) spans x m = up_to_end t i q x
rewrite t (FocusFunction f) spans x m = option_map_or (λ k. drop k x) (position (is_func f) x) []
rewrite t (FocusCategory c) spans x m = filter (λ s. s.category == c) x
rewrite t (CollapseResource i r) spans x m = collapsed t i r false x
rewrite t (CollapseDirectRecursion i f) spans x m = without_repeats t i f false x
rewrite t (CollapseRecursion f) spans x m = option_map_or (λ k. take (k + 1) x ++ after_last_of f x) (position (is_func f) x) x
rewrite t (CollapseFunctionSubtree f) spans x m = option_map_or (λ k. take (k + 1) x) (position (is_func f) x) x
rewrite t (FilterSamples text) spans x m = if list_any (is_during m) spans then x else []

-- the transforms in order, each with its own intervals
abbrev pub rewrite_all : SharedTables → List Transform → List (List Span) → List Step → ℤ → List Step
rewrite_all t [] spans x m = x
rewrite_all t (transform ∷ transforms) [] x m = rewrite_all t transforms [] (rewrite t transform [] x m) m
rewrite_all t (transform ∷ transforms) (found ∷ spans) x m = rewrite_all t transforms spans (rewrite t transform found x m) m
