-- A small thread, and what the definitions make of its rows and paths
use Rattle.std.specs.Prelude.{◌≡◌, ℕ, pos, true, false, List, [], ◌∷◌, ◌++◌, length, map, Option, Some, None, refl}
use Rattle.std.specs.List.{fold}
use Rattle.prof_tables.specs.declared.rows.Step.{Step}
use Rattle.prof_tables.specs.declared.rows.StackRow.{StackRow}
use Rattle.prof_tables.specs.Paths.{path}
use Rattle.prof_path.specs.declared.lists.Span.{Span}
use Rattle.prof_path.specs.declared.transform.Implementation.TheVariants.{Combined, Js}
use Rattle.prof_path.specs.declared.transform.Transform.{Transform}
use Rattle.prof_path.specs.declared.transform.Transform.TheVariants.{MergeFunction, MergeCallNode, DropFunction, FocusSubtree, FocusFunction, FocusCategory, CollapseResource, CollapseDirectRecursion, CollapseRecursion, CollapseFunctionSubtree, FilterSamples}
use Rattle.prof_path.specs.Rewriting.{rewrite}
use Rattle.prof_path.specs.Rows.{p_tables}
use Rattle.prof_layer.specs.declared.passing.Place.{Place}
use Rattle.prof_layer.specs.declared.focusing.Node.{Node}
use Rattle.prof_layer.specs.Acts.{act_of}
use Rattle.prof_layer.specs.Rewritten.{entry_at}
use Rattle.prof_layer.specs.Passing.{place_of, place_after, rows_after}
use Rattle.prof_layer.specs.Focusing.{nearest, end_above, node_of}
use Rattle.prof_layer.specs.Simulates.{of_rows}
use Rattle.prof_layer.specs.Kept.{found_of, is_kept}

-- the rows of a pass and the places of the old rows, one old row after another
record Passed : Type 0 where
  rows : List StackRow
  places : List Place

abbrev step_by : Transform → Passed → StackRow → Passed
step_by t p row =
    let above = place_of p.places row.prefix in
    let s : Step = record { func = row.func; category = row.category } in
    record {
      rows = rows_after (act_of p_tables t above.hit above.met s) above p.rows;
      places = p.places ++ place_after p_tables t above s (length p.rows) ∷ [];
    }

abbrev passed : Transform → Passed
passed t = fold (step_by t) (record { rows = []; places = [] }) p_tables.stacks

abbrev outs : Transform → List (Option ℕ)
outs t = map (λ (p : Place). p.out) (passed t).places

-- the rows are A, A B, A B C, A B C B, A B C B D and D
abbrev all_rows : List ℕ
all_rows = 0 ∷ 1 ∷ 2 ∷ 3 ∷ 4 ∷ 5 ∷ []

-- the paths of the rows that a pass makes of them, and the paths as they are rewritten one by one
abbrev by_rows : Transform → List (List Step)
by_rows t = map (λ r. path (passed t).rows (entry_at (outs t) r)) all_rows

abbrev one_by_one : Transform → List (List Step)
one_by_one t = map (λ r. rewrite p_tables t [] (path p_tables.stacks (Some r)) (pos 0)) all_rows

-- without B the paths of A and A B are one, and so are those of A C and A C without the second B
merged : outs (MergeFunction 1) ≡ Some 0 ∷ Some 0 ∷ Some 1 ∷ Some 1 ∷ Some 2 ∷ Some 3 ∷ []
merged = refl

same_merged : by_rows (MergeFunction 1) ≡ one_by_one (MergeFunction 1)
same_merged = refl

same_dropped : by_rows (DropFunction 2) ≡ one_by_one (DropFunction 2)
same_dropped = refl

same_focused : by_rows (FocusFunction 1) ≡ one_by_one (FocusFunction 1)
same_focused = refl

same_category : by_rows (FocusCategory 0) ≡ one_by_one (FocusCategory 0)
same_category = refl

same_resource : by_rows (CollapseResource Js 0) ≡ one_by_one (CollapseResource Js 0)
same_resource = refl

same_direct : by_rows (CollapseDirectRecursion Js 1) ≡ one_by_one (CollapseDirectRecursion Js 1)
same_direct = refl

-- the second B leads back to the row of A B
back : outs (CollapseRecursion 1) ≡ Some 0 ∷ Some 1 ∷ Some 2 ∷ Some 1 ∷ Some 3 ∷ Some 4 ∷ []
back = refl

same_recursion : by_rows (CollapseRecursion 1) ≡ one_by_one (CollapseRecursion 1)
same_recursion = refl

same_subtree : by_rows (CollapseFunctionSubtree 1) ≡ one_by_one (CollapseFunctionSubtree 1)
same_subtree = refl

same_node : by_rows (MergeCallNode Combined (0 ∷ 1 ∷ [])) ≡ one_by_one (MergeCallNode Combined (0 ∷ 1 ∷ []))
same_node = refl

same_call_node : by_rows (FocusSubtree Combined (0 ∷ 1 ∷ []) false) ≡ one_by_one (FocusSubtree Combined (0 ∷ 1 ∷ []) false)
same_call_node = refl

-- D B, read from the leaf, ends at the row of the second B
abbrev nodes : List Node
nodes = fold (λ ns row. ns ++ node_of p_tables Combined ns row ∷ []) [] p_tables.stacks

ends : map (λ r. end_above nodes (3 ∷ 1 ∷ []) (nearest nodes (Some r))) all_rows ≡ None ∷ None ∷ None ∷ None ∷ Some 3 ∷ None ∷ []
ends = refl

-- of two transforms of samples and one of rows a moment has to lie in an interval of both
abbrev three : List Transform
three = FilterSamples [] ∷ MergeFunction 1 ∷ FilterSamples [] ∷ []

abbrev span : ℕ → ℕ → Span
span start end = record { start = pos start; end = pos end }

abbrev their_spans : List (List Span)
their_spans = (span 1 2 ∷ span 4 5 ∷ []) ∷ [] ∷ (span 2 4 ∷ []) ∷ []

one_of_rows : of_rows three ≡ MergeFunction 1 ∷ []
one_of_rows = refl

kept_moments : map (λ m. is_kept (found_of three their_spans) (pos m)) (0 ∷ 1 ∷ 2 ∷ 3 ∷ 4 ∷ 5 ∷ []) ≡ false ∷ false ∷ true ∷ false ∷ true ∷ false ∷ []
kept_moments = refl
