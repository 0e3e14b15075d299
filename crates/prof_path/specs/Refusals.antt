-- The first rule that a transform breaks at a thread
use Rattle.std.specs.Prelude.{ℕ, ◌+◌, not, nat_lt, List, ◌==◌, length, Option, Some, None, if◌then◌else◌}
use Rattle.std.specs.List.{find}
use Rattle.std.specs.Option.{option_or, option_map}
use Rattle.prof_tables.specs.Threads.{SharedTables}
use Rattle.prof_path.specs.declared.transform.Transform.{Transform}
use Rattle.prof_path.specs.declared.transform.Transform.TheVariants.{MergeFunction, MergeCallNode, DropFunction, FocusSubtree, FocusFunction, FocusCategory, CollapseResource, CollapseDirectRecursion, CollapseRecursion, CollapseFunctionSubtree, FilterSamples}
use Rattle.prof_path.specs.declared.checking.PushRefusal.{PushRefusal}
use Rattle.prof_path.specs.declared.checking.PushRefusal.TheVariants.{FuncOut, ResourceOut, CategoryOut, EmptyPath, LongPath, LongSearch}
use Rattle.prof_path.specs.Terms.{is_long_search}

-- the first function that neither stands in the table nor is a collapsed resource
abbrev pub first_out : SharedTables → List ℕ → Option ℕ
first_out t fs = find (λ f. not (nat_lt f (length t.funcs + length t.resources))) fs

-- what is wrong with a function, and with the path of a call node
abbrev pub func_refusal : SharedTables → ℕ → Option PushRefusal
func_refusal t f = if nat_lt f (length t.funcs + length t.resources) then None else Some (FuncOut f)

abbrev pub length_refusal : ℕ → Option PushRefusal
length_refusal n = if n == 0 then Some EmptyPath else (if nat_lt 4096 n then Some (LongPath n) else None)

abbrev pub path_refusal : SharedTables → List ℕ → Option PushRefusal
path_refusal t q = option_or (option_map FuncOut (first_out t q)) (length_refusal (length q))

-- what of a transform doesn't stand in the tables, or is wrong with its path. Where more than one reason holds, a function
-- goes before the path's length
abbrev pub rule_of : SharedTables → Transform → Option PushRefusal
rule_of t (MergeFunction f) = func_refusal t f
rule_of t (MergeCallNode i q) = path_refusal t q
rule_of t (DropFunction f) = func_refusal t f
rule_of t (FocusSubtree i q inverted) = path_refusal t q
rule_of t (FocusFunction f) = func_refusal t f
rule_of t (FocusCategory c) = if nat_lt c t.categories then None else Some (CategoryOut c)
rule_of t (CollapseResource i r) = if nat_lt r (length t.resources) then None else Some (ResourceOut r)
rule_of t (CollapseDirectRecursion i f) = func_refusal t f
rule_of t (CollapseRecursion f) = func_refusal t f
rule_of t (CollapseFunctionSubtree f) = func_refusal t f
rule_of t (FilterSamples text) = None

-- what is wrong with a search
abbrev pub search_refusal : List ℕ → Option PushRefusal
search_refusal text = if is_long_search text then Some LongSearch else None

-- why a transform is refused, if it is: by its search, or by a rule of the tables
abbrev pub refusal_of : SharedTables → Transform → Option PushRefusal
refusal_of t (FilterSamples text) = search_refusal text
refusal_of t transform = rule_of t transform
