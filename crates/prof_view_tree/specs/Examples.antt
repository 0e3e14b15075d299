-- Two small threads, and the trees that the definitions make of them
use Rattle.std.specs.Prelude.{◌≡◌, ℕ, ℤ, pos, negsuc, true, false, List, [], ◌∷◌, Option, Some, None, refl}
use Rattle.prof_tables.specs.declared.rows.SampleRow.{SampleRow}
use Rattle.prof_raw.specs.declared.raw.Unit.TheVariants.{Samples}
use Rattle.prof_tables.specs.Threads.{SharedTables, ThreadTables}
use Rattle.prof_path.specs.declared.transform.Range.{Range}
use Rattle.prof_path.specs.declared.transform.Implementation.{Implementation}
use Rattle.prof_path.specs.declared.transform.Implementation.TheVariants.{Combined, Js, Cpp}
use Rattle.prof_path.specs.declared.transform.Transform.{Transform}
use Rattle.prof_path.specs.declared.transform.Transform.TheVariants.{MergeFunction, MergeCallNode, DropFunction, FocusSubtree, FocusFunction, FocusCategory, CollapseResource, CollapseDirectRecursion, CollapseRecursion, CollapseFunctionSubtree, FilterSamples}
use Rattle.prof_path.specs.Views.{ViewLists}
use Rattle.prof_path.specs.Rows.{p_tables, q_tables}
use Rattle.prof_tree.specs.declared.node.Node.{Node}
use Rattle.prof_view_tree.specs.Views.{plain_tree, inverted_tree, selected_weight, dropped_weight}
use Rattle.prof_tree.specs.Nodes.{nodes_of}

abbrev thread_of : SharedTables → List SampleRow → ThreadTables
thread_of t samples = record { shared = t; name = []; unit = Samples; samples = samples; markers = record { rows = []; texts = [] } }

abbrev at : ℕ → Option ℕ → SampleRow
at time stack = record { stack = stack; time = pos time; weight = pos 1 }

-- P: six samples, a millisecond apart, on A B C, on A B C B D twice, on A B, on D, and on no stack
abbrev p_thread : ThreadTables
p_thread = thread_of p_tables (at 0 (Some 2) ∷ at 1000000 (Some 4) ∷ at 2000000 (Some 4) ∷ at 3000000 (Some 1) ∷ at 4000000 (Some 5) ∷ at 5000000 None ∷ [])

-- Q: three samples on A B, A C and A C, where each function has a category of its own
abbrev q_thread : ThreadTables
q_thread = thread_of q_tables (at 0 (Some 1) ∷ at 1000000 (Some 2) ∷ at 2000000 (Some 2) ∷ [])

abbrev view_of : List Range → List Transform → Implementation → List ℕ → ViewLists
view_of ranges transforms i search = record { thread = 0; ranges = ranges; transforms = transforms; implementation = i; search = search }

-- a node by its depth, function, total, self weight and category
abbrev row : ℕ → ℕ → ℕ → ℕ → ℕ → Node
row depth func total own category = record { depth = depth; func = func; total = pos total; own = pos own; category = category }

abbrev tree : List Transform → List Node
tree ts = plain_tree p_thread (view_of [] ts Combined []) []

abbrev dropped : List Transform → ℤ
dropped ts = dropped_weight p_thread (view_of [] ts Combined []) []

abbrev q_tree : List Transform → List Node
q_tree ts = plain_tree q_thread (view_of [] ts Combined []) []

p_tree : tree [] ≡ row 0 0 4 0 0 ∷ row 1 1 4 1 0 ∷ row 2 2 3 1 0 ∷ row 3 1 2 0 0 ∷ row 4 3 2 2 0 ∷ row 0 3 1 1 0 ∷ []
p_tree = refl

p_selected : selected_weight p_thread (view_of [] [] Combined []) [] ≡ pos 6
p_selected = refl

p_dropped : dropped [] ≡ pos 1
p_dropped = refl

without_b : tree (MergeFunction 1 ∷ []) ≡ row 0 0 4 1 0 ∷ row 1 2 3 1 0 ∷ row 2 3 2 2 0 ∷ row 0 3 1 1 0 ∷ []
without_b = refl

without_b_dropped : dropped (MergeFunction 1 ∷ []) ≡ pos 1
without_b_dropped = refl

without_all : tree (MergeFunction 0 ∷ MergeFunction 1 ∷ MergeFunction 2 ∷ MergeFunction 3 ∷ []) ≡ []
without_all = refl

without_all_dropped : dropped (MergeFunction 0 ∷ MergeFunction 1 ∷ MergeFunction 2 ∷ MergeFunction 3 ∷ []) ≡ pos 6
without_all_dropped = refl

unless_c : tree (DropFunction 2 ∷ []) ≡ row 0 0 1 0 0 ∷ row 1 1 1 1 0 ∷ row 0 3 1 1 0 ∷ []
unless_c = refl

unless_c_dropped : dropped (DropFunction 2 ∷ []) ≡ pos 4
unless_c_dropped = refl

from_b : tree (FocusFunction 1 ∷ []) ≡ row 0 1 4 1 0 ∷ row 1 2 3 1 0 ∷ row 2 1 2 0 0 ∷ row 3 3 2 2 0 ∷ []
from_b = refl

from_b_dropped : dropped (FocusFunction 1 ∷ []) ≡ pos 2
from_b_dropped = refl

up_to_d_of_b : tree (FocusSubtree Combined (3 ∷ 1 ∷ []) true ∷ []) ≡ row 0 0 2 0 0 ∷ row 1 1 2 0 0 ∷ row 2 2 2 0 0 ∷ row 3 1 2 2 0 ∷ []
up_to_d_of_b = refl

up_to_d_of_b_dropped : dropped (FocusSubtree Combined (3 ∷ 1 ∷ []) true ∷ []) ≡ pos 4
up_to_d_of_b_dropped = refl

by_resource : tree (CollapseResource Combined 0 ∷ []) ≡ row 0 0 4 0 0 ∷ row 1 4 4 2 0 ∷ row 2 3 2 2 0 ∷ row 0 3 1 1 0 ∷ []
by_resource = refl

by_resource_dropped : dropped (CollapseResource Combined 0 ∷ []) ≡ pos 1
by_resource_dropped = refl

-- of the children of A B the one with the greater total stands first
without_recursion : tree (CollapseRecursion 1 ∷ []) ≡ row 0 0 4 0 0 ∷ row 1 1 4 1 0 ∷ row 2 3 2 2 0 ∷ row 2 2 1 1 0 ∷ row 0 3 1 1 0 ∷ []
without_recursion = refl

-- the steps of the collapsed resource differ in category
q_by_resource : q_tree (CollapseResource Combined 0 ∷ []) ≡ row 0 0 3 0 0 ∷ row 1 3 3 3 0 ∷ []
q_by_resource = refl

q_of_category : q_tree (CollapseResource Combined 0 ∷ FocusCategory 1 ∷ []) ≡ row 0 3 1 1 1 ∷ []
q_of_category = refl

q_of_category_selected : selected_weight q_thread (view_of [] (CollapseResource Combined 0 ∷ FocusCategory 1 ∷ []) Combined []) [] ≡ pos 3
q_of_category_selected = refl

q_of_category_dropped : dropped_weight q_thread (view_of [] (CollapseResource Combined 0 ∷ FocusCategory 1 ∷ []) Combined []) [] ≡ pos 2
q_of_category_dropped = refl

without_direct : tree (CollapseDirectRecursion Combined 1 ∷ []) ≡ tree []
without_direct = refl

without_direct_js : tree (CollapseDirectRecursion Js 1 ∷ []) ≡ row 0 0 4 0 0 ∷ row 1 1 4 1 0 ∷ row 2 2 3 1 0 ∷ row 3 3 2 2 0 ∷ row 0 3 1 1 0 ∷ []
without_direct_js = refl

without_direct_js_dropped : dropped (CollapseDirectRecursion Js 1 ∷ []) ≡ pos 1
without_direct_js_dropped = refl

p_inverted : inverted_tree p_thread (view_of [] [] Combined []) [] ≡ row 0 3 3 3 0 ∷ row 1 1 2 0 0 ∷ row 2 2 2 0 0 ∷ row 3 1 2 0 0 ∷ row 4 0 2 0 0 ∷ row 0 1 1 1 0 ∷ row 1 0 1 0 0 ∷ row 0 2 1 1 0 ∷ row 1 1 1 0 0 ∷ row 2 0 1 0 0 ∷ []
p_inverted = refl

abbrev ranged : ℕ → ℕ → ViewLists
ranged start end = view_of (record { start = pos start; end = pos end } ∷ []) [] Combined []

-- the end of a range is outside
in_range : plain_tree p_thread (ranged 1000000 4000000) [] ≡ row 0 0 3 0 0 ∷ row 1 1 3 1 0 ∷ row 2 2 2 0 0 ∷ row 3 1 2 0 0 ∷ row 4 3 2 2 0 ∷ []
in_range = refl

in_range_selected : selected_weight p_thread (ranged 1000000 4000000) [] ≡ pos 3
in_range_selected = refl

in_range_dropped : dropped_weight p_thread (ranged 1000000 4000000) [] ≡ pos 0
in_range_dropped = refl

in_no_range : plain_tree p_thread (ranged 2000000 2000000) [] ≡ []
in_no_range = refl

in_no_range_selected : selected_weight p_thread (ranged 2000000 2000000) [] ≡ pos 0
in_no_range_selected = refl

-- the weights 5 and -5 on one function
cancelled : nodes_of 0 (record { steps = record { func = 0; category = 0 } ∷ []; weight = pos 5 } ∷ record { steps = record { func = 0; category = 0 } ∷ []; weight = negsuc 4 } ∷ []) ≡ row 0 0 0 0 0 ∷ []
cancelled = refl

without_call_node : tree (MergeCallNode Combined (0 ∷ 1 ∷ []) ∷ []) ≡ row 0 0 4 1 0 ∷ row 1 2 3 1 0 ∷ row 2 1 2 0 0 ∷ row 3 3 2 2 0 ∷ row 0 3 1 1 0 ∷ []
without_call_node = refl

without_call_node_dropped : dropped (MergeCallNode Combined (0 ∷ 1 ∷ []) ∷ []) ≡ pos 1
without_call_node_dropped = refl

from_call_node : tree (FocusSubtree Combined (0 ∷ 1 ∷ 2 ∷ []) false ∷ []) ≡ row 0 2 3 1 0 ∷ row 1 1 2 0 0 ∷ row 2 3 2 2 0 ∷ []
from_call_node = refl

from_call_node_dropped : dropped (FocusSubtree Combined (0 ∷ 1 ∷ 2 ∷ []) false ∷ []) ≡ pos 3
from_call_node_dropped = refl

without_subtree : tree (CollapseFunctionSubtree 1 ∷ []) ≡ row 0 0 4 0 0 ∷ row 1 1 4 4 0 ∷ row 0 3 1 1 0 ∷ []
without_subtree = refl

without_subtree_dropped : dropped (CollapseFunctionSubtree 1 ∷ []) ≡ pos 1
without_subtree_dropped = refl

-- a marker's interval, which is closed, from the second sample to the third
during : plain_tree p_thread (view_of [] (FilterSamples (103 ∷ 99 ∷ []) ∷ []) Combined []) ((record { start = pos 1000000; end = pos 2000000 } ∷ []) ∷ []) ≡ row 0 0 2 0 0 ∷ row 1 1 2 0 0 ∷ row 2 2 2 0 0 ∷ row 3 1 2 0 0 ∷ row 4 3 2 2 0 ∷ []
during = refl

seen_js : plain_tree p_thread (view_of [] [] Js []) [] ≡ row 0 3 3 3 0 ∷ []
seen_js = refl

seen_js_dropped : dropped_weight p_thread (view_of [] [] Js []) [] ≡ pos 3
seen_js_dropped = refl

seen_cpp : plain_tree p_thread (view_of [] [] Cpp []) [] ≡ row 0 0 4 0 0 ∷ row 1 1 4 1 0 ∷ row 2 2 3 1 0 ∷ row 3 1 2 2 0 ∷ []
seen_cpp = refl

seen_cpp_dropped : dropped_weight p_thread (view_of [] [] Cpp []) [] ≡ pos 2
seen_cpp_dropped = refl

-- the search `app`
app_found : plain_tree p_thread (view_of [] [] Combined (97 ∷ 112 ∷ 112 ∷ [])) [] ≡ row 0 0 4 0 0 ∷ row 1 1 4 1 0 ∷ row 2 2 3 1 0 ∷ row 3 1 2 0 0 ∷ row 4 3 2 2 0 ∷ []
app_found = refl

app_found_dropped : dropped_weight p_thread (view_of [] [] Combined (97 ∷ 112 ∷ 112 ∷ [])) [] ≡ pos 2
app_found_dropped = refl

-- the search ` app , d,`
both_found : plain_tree p_thread (view_of [] [] Combined (32 ∷ 97 ∷ 112 ∷ 112 ∷ 32 ∷ 44 ∷ 32 ∷ 100 ∷ 44 ∷ [])) [] ≡ row 0 0 2 0 0 ∷ row 1 1 2 0 0 ∷ row 2 2 2 0 0 ∷ row 3 1 2 0 0 ∷ row 4 3 2 2 0 ∷ []
both_found = refl

both_found_dropped : dropped_weight p_thread (view_of [] [] Combined (32 ∷ 97 ∷ 112 ∷ 112 ∷ 32 ∷ 44 ∷ 32 ∷ 100 ∷ 44 ∷ [])) [] ≡ pos 4
both_found_dropped = refl
