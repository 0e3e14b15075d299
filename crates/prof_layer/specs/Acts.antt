-- What a transform makes of a path with one more step: an act on the rewritten path, by a small state of the path
use Rattle.std.specs.Prelude.{ℕ, ◌+◌, ◌<◌, ℤ, Bool, true, false, ◌&&◌, ◌||◌, ◌==◌, List, [], ◌∷◌, ◌++◌, length, Option, Some, if◌then◌else◌}
use Rattle.std.specs.List.{list_any}
use Rattle.prof_tables.specs.declared.rows.Step.{Step}
use Rattle.prof_tables.specs.Threads.{SharedTables}
use Rattle.prof_path.specs.declared.transform.Implementation.{Implementation}
use Rattle.prof_path.specs.declared.transform.Transform.{Transform}
use Rattle.prof_path.specs.declared.transform.Transform.TheVariants.{MergeFunction, MergeCallNode, DropFunction, FocusSubtree, FocusFunction, FocusCategory, CollapseResource, CollapseDirectRecursion, CollapseRecursion, CollapseFunctionSubtree, FilterSamples}
use Rattle.prof_path.specs.Shown.{shown, names}
use Rattle.prof_path.specs.declared.lists.Span.{Span}
use Rattle.prof_path.specs.Rewriting.{rewrite, is_func}
use Rattle.prof_path.specs.Stepwise.{along, along_next, has_met, completes, next_called, called, next_inside, inside}
use Rattle.prof_layer.specs.declared.acts.Act.{Act}
use Rattle.prof_layer.specs.declared.acts.Act.TheVariants.{Stay, Below, Empty, Back}

-- whether the function has come, or is called at the leaf, or the leaf is inside the resource
abbrev pub hit_of : SharedTables → Transform → List Step → Bool
hit_of t (MergeFunction f) x = false
hit_of t (MergeCallNode i q) x = false
hit_of t (DropFunction f) x = list_any (is_func f) x
hit_of t (FocusSubtree i q inverted) x = false
hit_of t (FocusFunction f) x = list_any (is_func f) x
hit_of t (FocusCategory c) x = false
hit_of t (CollapseResource i r) x = inside t i r x
hit_of t (CollapseDirectRecursion i f) x = called t i f x
hit_of t (CollapseRecursion f) x = list_any (is_func f) x
hit_of t (CollapseFunctionSubtree f) x = list_any (is_func f) x
hit_of t (FilterSamples text) x = false

-- the same after one more step
abbrev pub next_hit : SharedTables → Transform → Bool → Step → Bool
next_hit t (MergeFunction f) hit s = false
next_hit t (MergeCallNode i q) hit s = false
next_hit t (DropFunction f) hit s = hit || is_func f s
next_hit t (FocusSubtree i q inverted) hit s = false
next_hit t (FocusFunction f) hit s = hit || is_func f s
next_hit t (FocusCategory c) hit s = false
next_hit t (CollapseResource i r) hit s = next_inside t i r hit s
next_hit t (CollapseDirectRecursion i f) hit s = next_called t i f hit s
next_hit t (CollapseRecursion f) hit s = hit || is_func f s
next_hit t (CollapseFunctionSubtree f) hit s = hit || is_func f s
next_hit t (FilterSamples text) hit s = false

-- how many functions of the call node's path have been met
abbrev pub met_of : SharedTables → Transform → List Step → Option ℕ
met_of t (MergeFunction f) x = Some 0
met_of t (MergeCallNode i q) x = along q (names t i x)
met_of t (DropFunction f) x = Some 0
met_of t (FocusSubtree i q inverted) x = along q (names t i x)
met_of t (FocusFunction f) x = Some 0
met_of t (FocusCategory c) x = Some 0
met_of t (CollapseResource i r) x = Some 0
met_of t (CollapseDirectRecursion i f) x = Some 0
met_of t (CollapseRecursion f) x = Some 0
met_of t (CollapseFunctionSubtree f) x = Some 0
met_of t (FilterSamples text) x = Some 0

-- the same after one more step, which counts where it is shown
abbrev pub met_after : SharedTables → Implementation → List ℕ → Option ℕ → Step → Option ℕ
met_after t i q met s = if shown t i s.func then along_next q met s.func else met

abbrev pub next_met : SharedTables → Transform → Option ℕ → Step → Option ℕ
next_met t (MergeFunction f) met s = met
next_met t (MergeCallNode i q) met s = met_after t i q met s
next_met t (DropFunction f) met s = met
next_met t (FocusSubtree i q inverted) met s = met_after t i q met s
next_met t (FocusFunction f) met s = met
next_met t (FocusCategory c) met s = met
next_met t (CollapseResource i r) met s = met
next_met t (CollapseDirectRecursion i f) met s = met
next_met t (CollapseRecursion f) met s = met
next_met t (CollapseFunctionSubtree f) met s = met
next_met t (FilterSamples text) met s = met

-- what becomes of the rewritten path
abbrev pub act_of : SharedTables → Transform → Bool → Option ℕ → Step → Act
act_of t (MergeFunction f) hit met s = if is_func f s then Stay else Below s
act_of t (MergeCallNode i q) hit met s = if shown t i s.func && completes q met s.func then Stay else Below s
act_of t (DropFunction f) hit met s = if hit || is_func f s then Empty else Below s
act_of t (FocusSubtree i q false) hit met s = if has_met q (met_after t i q met s) then Below s else Empty
act_of t (FocusSubtree i q true) hit met s = Below s
act_of t (FocusFunction f) hit met s = if hit || is_func f s then Below s else Empty
act_of t (FocusCategory c) hit met s = if s.category == c then Below s else Stay
act_of t (CollapseResource i r) hit met s = if next_inside t i r hit s then (if hit then Stay else Below (record s { func = length t.funcs + r })) else Below s
act_of t (CollapseDirectRecursion i f) hit met s = if is_func f s && hit then Stay else Below s
act_of t (CollapseRecursion f) hit met s = if is_func f s && hit then Back else Below s
act_of t (CollapseFunctionSubtree f) hit met s = if hit then Stay else Below s
act_of t (FilterSamples text) hit met s = Below s

-- the part of a path up to the first step of the function, where recursion is collapsed
abbrev pub first_of : SharedTables → Transform → List Span → List Step → ℤ → List Step
first_of t (MergeFunction f) spans x m = []
first_of t (MergeCallNode i q) spans x m = []
first_of t (DropFunction f) spans x m = []
first_of t (FocusSubtree i q inverted) spans x m = []
first_of t (FocusFunction f) spans x m = []
first_of t (FocusCategory c) spans x m = []
first_of t (CollapseResource i r) spans x m = []
first_of t (CollapseDirectRecursion i f) spans x m = []
first_of t (CollapseRecursion f) spans x m = rewrite t (CollapseFunctionSubtree f) spans x m
first_of t (CollapseFunctionSubtree f) spans x m = []
first_of t (FilterSamples text) spans x m = []

-- the transforms that go on step by step from the root, of which the two others are that up to a call node, and the one
-- of samples
abbrev pub IsStepwise : Transform → Type 0
IsStepwise (MergeFunction f) = Unit {0}
IsStepwise (MergeCallNode i q) = Unit {0}
IsStepwise (DropFunction f) = Unit {0}
IsStepwise (FocusSubtree i q false) = 0 < length q
IsStepwise (FocusSubtree i q true) = ⊥
IsStepwise (FocusFunction f) = Unit {0}
IsStepwise (FocusCategory c) = Unit {0}
IsStepwise (CollapseResource i r) = Unit {0}
IsStepwise (CollapseDirectRecursion i f) = Unit {0}
IsStepwise (CollapseRecursion f) = Unit {0}
IsStepwise (CollapseFunctionSubtree f) = Unit {0}
IsStepwise (FilterSamples text) = ⊥

-- a path after an act, where `first` is its part up to the first step of the function
abbrev pub acted : Act → List Step → List Step → List Step
acted Stay y first = y
acted (Below s) y first = y ++ s ∷ []
acted Empty y first = []
acted Back y first = first
