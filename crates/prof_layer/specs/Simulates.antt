-- Layers, and what their top says of the base
use Rattle.std.specs.Prelude.{◌≡◌, ℕ, ◌<◌, ◌≤◌, ℤ, Bool, true, false, not, List, [], length, map, Option, Some}
use Rattle.std.specs.List.{filter, range_with_len}
use Rattle.prof_tables.specs.declared.rows.Step.{Step}
use Rattle.prof_tables.specs.declared.rows.StackRow.{StackRow}
use Rattle.prof_tables.specs.declared.rows.SampleRow.{SampleRow}
use Rattle.prof_tables.specs.Threads.{ThreadTables}
use Rattle.prof_tables.specs.Paths.{path}
use Rattle.prof_path.specs.declared.lists.Span.{Span}
use Rattle.prof_path.specs.declared.transform.Transform.{Transform}
use Rattle.prof_path.specs.declared.transform.Transform.TheVariants.{MergeFunction, MergeCallNode, DropFunction, FocusSubtree, FocusFunction, FocusCategory, CollapseResource, CollapseDirectRecursion, CollapseRecursion, CollapseFunctionSubtree, FilterSamples}
use Rattle.prof_path.specs.Rewriting.{rewrite_all}
use Rattle.prof_layer.specs.Rewritten.{IsRowOf, AreRows, entry_at}

-- a base, the transforms that are settled over it with the intervals of each, the rows that these make, and for each row
-- of the base where its path went
pub record LayerLists : Type 0 where
  pub base : ThreadTables
  pub settled : List Transform
  pub spans : List (List Span)
  pub top : List StackRow
  pub entries : List (Option ℕ)

-- whether a transform asks for a sample's time, and rewrites no row
abbrev pub is_of_samples : Transform → Bool
is_of_samples (MergeFunction f) = false
is_of_samples (MergeCallNode i q) = false
is_of_samples (DropFunction f) = false
is_of_samples (FocusSubtree i q inverted) = false
is_of_samples (FocusFunction f) = false
is_of_samples (FocusCategory c) = false
is_of_samples (CollapseResource i r) = false
is_of_samples (CollapseDirectRecursion i f) = false
is_of_samples (CollapseRecursion f) = false
is_of_samples (CollapseFunctionSubtree f) = false
is_of_samples (FilterSamples text) = true

-- the transforms that rewrite rows
abbrev pub of_rows : List Transform → List Transform
of_rows transforms = filter (λ t. not (is_of_samples t)) transforms

-- rows and entries that stand for each path of the base, rewritten: an entry is none exactly where that is empty, and
-- else a row with exactly that path
pub record Stands (base : ThreadTables) (transforms : List Transform) (top : List StackRow) (entries : List (Option ℕ)) : Type 0 where
  pub fit : AreRows base.shared top
  pub few : length top ≤ length base.shared.stacks
  pub count : length entries ≡ length base.shared.stacks
  pub paths : (r : ℕ) → r < length base.shared.stacks → (m : ℤ) → IsRowOf top (entry_at entries r) (rewrite_all base.shared transforms [] (path base.shared.stacks (Some r)) m)

abbrev pub Simulates : LayerLists → Type 0
Simulates l = Stands l.base (of_rows l.settled) l.top l.entries

-- the path of a sample, rewritten by all that is settled
abbrev pub sample_path : LayerLists → SampleRow → List Step
sample_path l s = rewrite_all l.base.shared l.settled l.spans (path l.base.shared.stacks s.stack) s.time

-- the entries of the base itself
abbrev pub own_entries : List StackRow → List (Option ℕ)
own_entries rows = map Some (range_with_len 0 (length rows))
