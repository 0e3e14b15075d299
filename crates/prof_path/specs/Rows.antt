-- Two small threads, and what the definitions make of their paths
use Rattle.std.specs.Prelude.{◌≡◌, ℕ, pos, true, false, List, [], ◌∷◌, map, Option, Some, None, refl}
use Rattle.prof_tables.specs.declared.rows.Step.{Step}
use Rattle.prof_tables.specs.declared.rows.StackRow.{StackRow}
use Rattle.prof_tables.specs.Threads.{SharedTables, Func}
use Rattle.prof_tables.specs.Paths.{path}
use Rattle.prof_path.specs.declared.transform.Implementation.{Implementation}
use Rattle.prof_path.specs.declared.transform.Implementation.TheVariants.{Combined, Js, Cpp}
use Rattle.prof_path.specs.declared.transform.Transform.{Transform}
use Rattle.prof_path.specs.declared.transform.Transform.TheVariants.{MergeFunction, MergeCallNode, DropFunction, FocusSubtree, FocusFunction, FocusCategory, CollapseResource, CollapseDirectRecursion, CollapseRecursion, CollapseFunctionSubtree, FilterSamples}
use Rattle.prof_path.specs.declared.checking.PushRefusal.TheVariants.{FuncOut, EmptyPath}
use Rattle.prof_path.specs.Shown.{funcs}
use Rattle.prof_path.specs.Rewriting.{rewrite, rewrite_all}
use Rattle.prof_path.specs.Terms.{terms_of}
use Rattle.prof_path.specs.Finals.{final, occurs_in}
use Rattle.prof_path.specs.Refusals.{refusal_of}

abbrev native_func : ℕ → Option ℕ → Func
native_func name resource = record { name = name; is_js = false; relevant_for_js = false; resource = resource; file = None }

abbrev row : Option ℕ → ℕ → ℕ → StackRow
row prefix func category = record { prefix = prefix; func = func; category = category }

abbrev step : ℕ → ℕ → Step
step func category = record { func = func; category = category }

-- P: A, B and C are native, B and C of the resource `app`, and D is JavaScript
abbrev pub p_tables : SharedTables
p_tables = record {
  strings = (65 ∷ []) ∷ (66 ∷ []) ∷ (67 ∷ []) ∷ (68 ∷ []) ∷ (97 ∷ 112 ∷ 112 ∷ []) ∷ [];
  resources = 4 ∷ [];
  funcs = native_func 0 None ∷ native_func 1 (Some 0) ∷ native_func 2 (Some 0) ∷ record { name = 3; is_js = true; relevant_for_js = false; resource = None; file = None } ∷ [];
  frames = [];
  stacks = row None 0 0 ∷ row (Some 0) 1 0 ∷ row (Some 1) 2 0 ∷ row (Some 2) 1 0 ∷ row (Some 3) 3 0 ∷ row None 3 0 ∷ [];
  stack_frames = [];
  categories = 1;
  default = 0;
}

-- Q: A of category 0, B of 1 and C of 2, and B and C are of the resource `app`
abbrev pub q_tables : SharedTables
q_tables = record {
  strings = (65 ∷ []) ∷ (66 ∷ []) ∷ (67 ∷ []) ∷ (97 ∷ 112 ∷ 112 ∷ []) ∷ [];
  resources = 3 ∷ [];
  funcs = native_func 0 None ∷ native_func 1 (Some 0) ∷ native_func 2 (Some 0) ∷ [];
  frames = [];
  stacks = row None 0 0 ∷ row (Some 0) 1 1 ∷ row (Some 0) 2 2 ∷ [];
  stack_frames = [];
  categories = 3;
  default = 0;
}

-- the stacks of the samples of P and Q
abbrev pub p_stacks : List (Option ℕ)
p_stacks = Some 2 ∷ Some 4 ∷ Some 4 ∷ Some 1 ∷ Some 5 ∷ None ∷ []

abbrev pub q_stacks : List (Option ℕ)
q_stacks = Some 1 ∷ Some 2 ∷ Some 2 ∷ []

p_paths : map (λ o. funcs (path p_tables.stacks o)) p_stacks ≡ (0 ∷ 1 ∷ 2 ∷ []) ∷ (0 ∷ 1 ∷ 2 ∷ 1 ∷ 3 ∷ []) ∷ (0 ∷ 1 ∷ 2 ∷ 1 ∷ 3 ∷ []) ∷ (0 ∷ 1 ∷ []) ∷ (3 ∷ []) ∷ [] ∷ []
p_paths = refl

-- what the transforms make of the six paths of P
abbrev rewritten : List Transform → List (List ℕ)
rewritten ts = map (λ o. funcs (rewrite_all p_tables ts [] (path p_tables.stacks o) (pos 0))) p_stacks

-- the same as a view of that filter and these terms shows them
abbrev viewed : Implementation → List (List ℕ) → List (List ℕ)
viewed i terms = map (λ o. funcs (final p_tables [] [] i terms (path p_tables.stacks o) (pos 0))) p_stacks

without_b : rewritten (MergeFunction 1 ∷ []) ≡ (0 ∷ 2 ∷ []) ∷ (0 ∷ 2 ∷ 3 ∷ []) ∷ (0 ∷ 2 ∷ 3 ∷ []) ∷ (0 ∷ []) ∷ (3 ∷ []) ∷ [] ∷ []
without_b = refl

without_all : rewritten (MergeFunction 0 ∷ MergeFunction 1 ∷ MergeFunction 2 ∷ MergeFunction 3 ∷ []) ≡ [] ∷ [] ∷ [] ∷ [] ∷ [] ∷ [] ∷ []
without_all = refl

unless_c : rewritten (DropFunction 2 ∷ []) ≡ [] ∷ [] ∷ [] ∷ (0 ∷ 1 ∷ []) ∷ (3 ∷ []) ∷ [] ∷ []
unless_c = refl

from_b : rewritten (FocusFunction 1 ∷ []) ≡ (1 ∷ 2 ∷ []) ∷ (1 ∷ 2 ∷ 1 ∷ 3 ∷ []) ∷ (1 ∷ 2 ∷ 1 ∷ 3 ∷ []) ∷ (1 ∷ []) ∷ [] ∷ [] ∷ []
from_b = refl

up_to_d_of_b : rewritten (FocusSubtree Combined (3 ∷ 1 ∷ []) true ∷ []) ≡ [] ∷ (0 ∷ 1 ∷ 2 ∷ 1 ∷ []) ∷ (0 ∷ 1 ∷ 2 ∷ 1 ∷ []) ∷ [] ∷ [] ∷ [] ∷ []
up_to_d_of_b = refl

-- the function path ends at the root
up_to_the_root : rewritten (FocusSubtree Combined (1 ∷ 0 ∷ []) true ∷ []) ≡ [] ∷ [] ∷ [] ∷ (0 ∷ []) ∷ [] ∷ [] ∷ []
up_to_the_root = refl

by_resource : rewritten (CollapseResource Combined 0 ∷ []) ≡ (0 ∷ 4 ∷ []) ∷ (0 ∷ 4 ∷ 3 ∷ []) ∷ (0 ∷ 4 ∷ 3 ∷ []) ∷ (0 ∷ 4 ∷ []) ∷ (3 ∷ []) ∷ [] ∷ []
by_resource = refl

without_recursion : rewritten (CollapseRecursion 1 ∷ []) ≡ (0 ∷ 1 ∷ 2 ∷ []) ∷ (0 ∷ 1 ∷ 3 ∷ []) ∷ (0 ∷ 1 ∷ 3 ∷ []) ∷ (0 ∷ 1 ∷ []) ∷ (3 ∷ []) ∷ [] ∷ []
without_recursion = refl

without_direct : rewritten (CollapseDirectRecursion Combined 1 ∷ []) ≡ rewritten []
without_direct = refl

-- `js` hides C, so that B calls B
without_direct_js : rewritten (CollapseDirectRecursion Js 1 ∷ []) ≡ (0 ∷ 1 ∷ 2 ∷ []) ∷ (0 ∷ 1 ∷ 2 ∷ 3 ∷ []) ∷ (0 ∷ 1 ∷ 2 ∷ 3 ∷ []) ∷ (0 ∷ 1 ∷ []) ∷ (3 ∷ []) ∷ [] ∷ []
without_direct_js = refl

without_call_node : rewritten (MergeCallNode Combined (0 ∷ 1 ∷ []) ∷ []) ≡ (0 ∷ 2 ∷ []) ∷ (0 ∷ 2 ∷ 1 ∷ 3 ∷ []) ∷ (0 ∷ 2 ∷ 1 ∷ 3 ∷ []) ∷ (0 ∷ []) ∷ (3 ∷ []) ∷ [] ∷ []
without_call_node = refl

from_call_node : rewritten (FocusSubtree Combined (0 ∷ 1 ∷ 2 ∷ []) false ∷ []) ≡ (2 ∷ []) ∷ (2 ∷ 1 ∷ 3 ∷ []) ∷ (2 ∷ 1 ∷ 3 ∷ []) ∷ [] ∷ [] ∷ [] ∷ []
from_call_node = refl

without_subtree : rewritten (CollapseFunctionSubtree 1 ∷ []) ≡ (0 ∷ 1 ∷ []) ∷ (0 ∷ 1 ∷ []) ∷ (0 ∷ 1 ∷ []) ∷ (0 ∷ 1 ∷ []) ∷ (3 ∷ []) ∷ [] ∷ []
without_subtree = refl

-- the steps of the resource differ in category, and the collapsed step has that of the first
q_by_resource : map (λ o. rewrite q_tables (CollapseResource Combined 0) [] (path q_tables.stacks o) (pos 0)) q_stacks ≡ (step 0 0 ∷ step 3 1 ∷ []) ∷ (step 0 0 ∷ step 3 2 ∷ []) ∷ (step 0 0 ∷ step 3 2 ∷ []) ∷ []
q_by_resource = refl

q_of_category : map (λ o. rewrite_all q_tables (CollapseResource Combined 0 ∷ FocusCategory 1 ∷ []) [] (path q_tables.stacks o) (pos 0)) q_stacks ≡ (step 3 1 ∷ []) ∷ [] ∷ [] ∷ []
q_of_category = refl

-- a step of another resource that is shown ends a run, and a hidden one does not
collapsed_runs : funcs (rewrite p_tables (CollapseResource Js 0) [] (step 1 0 ∷ step 0 0 ∷ step 2 0 ∷ step 3 0 ∷ step 1 0 ∷ []) (pos 0)) ≡ 4 ∷ 3 ∷ 4 ∷ []
collapsed_runs = refl

abbrev during : ℕ → List ℕ
during m = funcs (rewrite p_tables (FilterSamples (103 ∷ 99 ∷ [])) (record { start = pos 1000000; end = pos 3000000 } ∷ []) (step 3 0 ∷ []) (pos m))

-- the interval is closed
at_its_ends : during 999999 ≡ []
at_its_ends = refl

at_its_start : during 1000000 ≡ 3 ∷ []
at_its_start = refl

at_its_end : during 3000000 ≡ 3 ∷ []
at_its_end = refl

after_its_end : during 3000001 ≡ []
after_its_end = refl

seen_js : viewed Js [] ≡ [] ∷ (3 ∷ []) ∷ (3 ∷ []) ∷ [] ∷ (3 ∷ []) ∷ [] ∷ []
seen_js = refl

seen_cpp : viewed Cpp [] ≡ (0 ∷ 1 ∷ 2 ∷ []) ∷ (0 ∷ 1 ∷ 2 ∷ 1 ∷ []) ∷ (0 ∷ 1 ∷ 2 ∷ 1 ∷ []) ∷ (0 ∷ 1 ∷ []) ∷ [] ∷ [] ∷ []
seen_cpp = refl

-- ` app , d,`
two_terms : terms_of (32 ∷ 97 ∷ 112 ∷ 112 ∷ 32 ∷ 44 ∷ 32 ∷ 100 ∷ 44 ∷ []) ≡ (97 ∷ 112 ∷ 112 ∷ []) ∷ (100 ∷ []) ∷ []
two_terms = refl

-- spaces and tabs inside a term stay
inner_blanks : terms_of (9 ∷ 97 ∷ 32 ∷ 9 ∷ 98 ∷ 32 ∷ 44 ∷ 9 ∷ 32 ∷ []) ≡ (97 ∷ 32 ∷ 9 ∷ 98 ∷ []) ∷ []
inner_blanks = refl

app_found : viewed Combined ((97 ∷ 112 ∷ 112 ∷ []) ∷ []) ≡ (0 ∷ 1 ∷ 2 ∷ []) ∷ (0 ∷ 1 ∷ 2 ∷ 1 ∷ 3 ∷ []) ∷ (0 ∷ 1 ∷ 2 ∷ 1 ∷ 3 ∷ []) ∷ (0 ∷ 1 ∷ []) ∷ [] ∷ [] ∷ []
app_found = refl

-- each term has to be found, in any step, whatever the case of its letters
both_found : viewed Combined (terms_of (32 ∷ 97 ∷ 112 ∷ 112 ∷ 32 ∷ 44 ∷ 32 ∷ 100 ∷ 44 ∷ [])) ≡ [] ∷ (0 ∷ 1 ∷ 2 ∷ 1 ∷ 3 ∷ []) ∷ (0 ∷ 1 ∷ 2 ∷ 1 ∷ 3 ∷ []) ∷ [] ∷ [] ∷ [] ∷ []
both_found = refl

-- the functions are numbered up to 4, since the one resource is one too
func_out : refusal_of p_tables (MergeFunction 5) ≡ Some (FuncOut 5)
func_out = refl

func_in : refusal_of p_tables (MergeFunction 4) ≡ None
func_in = refl

first_func_out : refusal_of p_tables (MergeCallNode Combined (0 ∷ 7 ∷ 5 ∷ [])) ≡ Some (FuncOut 7)
first_func_out = refl

empty_path : refusal_of p_tables (FocusSubtree Js [] true) ≡ Some EmptyPath
empty_path = refl

-- each kind leaves the empty path empty
of_nothing : map (λ t. rewrite p_tables t [] [] (pos 0)) (MergeFunction 0 ∷ MergeCallNode Combined (0 ∷ []) ∷ DropFunction 0 ∷ FocusSubtree Combined (0 ∷ []) false ∷ FocusSubtree Combined (0 ∷ []) true ∷ FocusFunction 0 ∷ FocusCategory 0 ∷ CollapseResource Combined 0 ∷ CollapseDirectRecursion Combined 0 ∷ CollapseRecursion 0 ∷ CollapseFunctionSubtree 0 ∷ FilterSamples [] ∷ []) ≡ [] ∷ [] ∷ [] ∷ [] ∷ [] ∷ [] ∷ [] ∷ [] ∷ [] ∷ [] ∷ [] ∷ [] ∷ []
of_nothing = refl

-- `Run`, in the file `lib.js` and of the resource `app`
abbrev run_tables : SharedTables
run_tables = record {
  strings = (82 ∷ 117 ∷ 110 ∷ []) ∷ (108 ∷ 105 ∷ 98 ∷ 46 ∷ 106 ∷ 115 ∷ []) ∷ (97 ∷ 112 ∷ 112 ∷ []) ∷ [];
  resources = 2 ∷ [];
  funcs = record { name = 0; is_js = false; relevant_for_js = false; resource = Some 0; file = Some 1 } ∷ [];
  frames = [];
  stacks = [];
  stack_frames = [];
  categories = 1;
  default = 0;
}

-- `rU, LIB.,App,runlib`: a term is met in the name, in the file and in the resource, and not across two of them
met_terms : map (λ term. occurs_in run_tables term 0) (terms_of (114 ∷ 85 ∷ 44 ∷ 32 ∷ 76 ∷ 73 ∷ 66 ∷ 46 ∷ 44 ∷ 65 ∷ 112 ∷ 112 ∷ 44 ∷ 114 ∷ 117 ∷ 110 ∷ 108 ∷ 105 ∷ 98 ∷ [])) ≡ true ∷ true ∷ true ∷ false ∷ []
met_terms = refl

-- the collapsed resource has the resource's name, and no file
met_in_collapsed : map (λ term. occurs_in run_tables term 1) (terms_of (114 ∷ 85 ∷ 44 ∷ 76 ∷ 73 ∷ 66 ∷ 44 ∷ 65 ∷ 112 ∷ [])) ≡ false ∷ false ∷ true ∷ []
met_in_collapsed = refl
