-- The path of a sample as a view shows it
use Rattle.std.specs.Prelude.{ℕ, ℤ, Bool, false, ◌||◌, List, [], if◌then◌else◌}
use Rattle.std.specs.List.{list_any, list_all}
use Rattle.std.specs.Option.{option_map_or}
use Rattle.prof_tables.specs.declared.rows.Step.{Step}
use Rattle.prof_tables.specs.Threads.{SharedTables, func_name, file_name, resource_of, resource_name}
use Rattle.prof_path.specs.declared.lists.Span.{Span}
use Rattle.prof_path.specs.declared.transform.Implementation.{Implementation}
use Rattle.prof_path.specs.declared.transform.Transform.{Transform}
use Rattle.prof_path.specs.Shown.{seen}
use Rattle.prof_path.specs.Terms.{has_term}
use Rattle.prof_path.specs.Rewriting.{rewrite_all}

-- whether a term occurs in the name, the file name or the resource name of a function
abbrev pub occurs_in : SharedTables → List ℕ → ℕ → Bool
occurs_in t term f =
    has_term term (func_name t f)
    || option_map_or (has_term term) (file_name t f) false
    || option_map_or (λ r. has_term term (resource_name t r)) (resource_of t f) false

abbrev pub occurs : SharedTables → List ℕ → Step → Bool
occurs t term s = occurs_in t term s.func

-- whether each term occurs in some step
abbrev pub found : SharedTables → List (List ℕ) → List Step → Bool
found t terms x = list_all (λ term. list_any (occurs t term) x) terms

-- the path of a sample at the moment m as a view shows it: the steps that the filter shows of the rewritten path, or none
-- where a term occurs in none of these
abbrev pub final : SharedTables → List Transform → List (List Span) → Implementation → List (List ℕ) → List Step → ℤ → List Step
final t transforms spans i terms x m =
    let y = seen t i (rewrite_all t transforms spans x m) in
    if found t terms y then y else []
