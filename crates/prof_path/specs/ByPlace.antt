-- What the collapse of direct recursion leaves, place by place
use Rattle.std.specs.Prelude.{◌≡◌, ℕ, ℤ, Bool, false, not, ◌&&◌, ◌||◌, nat_lt, List, [], length, option_to_list, slice_get, if◌then◌else◌}
use Rattle.std.specs.List.{list_any, list_all, flat_map, range_with_len}
use Rattle.std.specs.Option.{option_map_or}
use Rattle.prof_tables.specs.declared.rows.Step.{Step}
use Rattle.prof_tables.specs.Threads.{SharedTables}
use Rattle.prof_path.specs.declared.lists.Span.{Span}
use Rattle.prof_path.specs.declared.transform.Implementation.{Implementation}
use Rattle.prof_path.specs.declared.transform.Transform.TheVariants.{CollapseDirectRecursion}
use Rattle.prof_path.specs.Rewriting.{rewrite, is_func, is_hidden}

-- whether the step at a place is of the function f, and whether it is hidden and isn't
abbrev pub has_func : List Step → ℕ → ℕ → Bool
has_func x f k = option_map_or (is_func f) (slice_get x k) false

abbrev pub is_passed : SharedTables → Implementation → List Step → ℕ → ℕ → Bool
is_passed t i x f k = option_map_or (λ s. is_hidden t i s && not (is_func f s)) (slice_get x k) false

-- whether f stands at j, and each place after it that is before k is passed over
abbrev pub is_caller : SharedTables → Implementation → List Step → ℕ → ℕ → ℕ → Bool
is_caller t i x f k j = has_func x f j && list_all (λ m. not (nat_lt j m) || is_passed t i x f m) (range_with_len 0 k)

-- whether f stands at k, and is called there by f: some place before k is its caller
abbrev pub is_repeat : SharedTables → Implementation → List Step → ℕ → ℕ → Bool
is_repeat t i x f k = has_func x f k && list_any (is_caller t i x f k) (range_with_len 0 k)

-- the steps at the places that don't pass a test
abbrev pub without_places : (ℕ → Bool) → List Step → List Step
without_places test x = flat_map (λ k. if test k then [] else option_to_list (slice_get x k)) (range_with_len 0 (length x))

-- the collapse of direct recursion leaves out each place where f is called by f
abbrev pub DirectRecursionByPlace : Type 0
DirectRecursionByPlace = (t : SharedTables) (i : Implementation) (f : ℕ) (spans : List Span) (x : List Step) (m : ℤ)
    → rewrite t (CollapseDirectRecursion i f) spans x m ≡ without_places (is_repeat t i x f) x
