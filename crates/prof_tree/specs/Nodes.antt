use Rattle.std.specs.Prelude.{◌≡◌, ◌≢◌, ◌↔◌, ℕ, ◌-◌, ℤ, pos, ◌+ℤ◌, nat_abs, true, ◌==◌, nat_eq, List, [], ◌∷◌, ◌++◌, length, map, reverse, Option, Some, None, slice_index_or, unwrap_or, if◌then◌else◌}
use Rattle.std.specs.List.{filter, list_all, starts_with, flat_map, Contains, Any, AllPairs}
use Rattle.std.specs.Cmp.Lexicographic.{pointwise}
use Rattle.std.specs.Ordering.{nat_cmp, ordering_then, match_ordering}
use Rattle.std.specs.declared.cmp.Ordering.{Ordering}
use Rattle.std.specs.declared.cmp.Ordering.TheVariants.{Less, Equal, Greater}
use Rattle.prof_tables.specs.declared.rows.Step.{Step}
use Rattle.prof_path.specs.Shown.{funcs}
use Rattle.prof_tree.specs.declared.node.Node.{Node}

-- a path and its weight
pub record Weighed : Type 0 where
  pub steps : List Step
  pub weight : ℤ

abbrev pub list_of : Weighed → List ℕ
list_of x = funcs x.steps

abbrev pub total : List Weighed → ℤ
total [] = pos 0
total (x ∷ xs) = x.weight +ℤ total xs

-- those whose functions begin with p, and those whose functions are p
abbrev pub through : List ℕ → List Weighed → List Weighed
through p xs = filter (λ x. starts_with nat_eq (list_of x) p) xs

abbrev pub ending : List ℕ → List Weighed → List Weighed
ending p xs = filter (λ x. pointwise nat_eq p (list_of x)) xs

abbrev pub total_at : List Weighed → List ℕ → ℤ
total_at xs p = total (through p xs)

abbrev pub own_at : List Weighed → List ℕ → ℤ
own_at xs p = total (ending p xs)

-- the number that each is, where there is one
abbrev pub common : List ℕ → Option ℕ
common [] = None
common (c ∷ cs) = if list_all (λ e. e == c) cs then Some c else None

-- the categories of the steps at a node
abbrev pub categories_at : List Weighed → List ℕ → List ℕ
categories_at xs p = map (λ (x : Weighed). (slice_index_or x.steps (length p - 1) (record { func = 0; category = 0 })).category) (through p xs)

abbrev pub node_at : ℕ → List Weighed → List ℕ → Node
node_at default xs p = record {
  depth = length p - 1;
  func = slice_index_or p (length p - 1) 0;
  total = total_at xs p;
  own = own_at xs p;
  category = unwrap_or (common (categories_at xs p)) default;
}

-- a node stands before those below it. Of two others the first place where they differ decides: the greater size of
-- the totals there stands first, and then the smaller function
abbrev pub sibling_cmp : List Weighed → List ℕ → ℕ → ℕ → Ordering
sibling_cmp xs at a b = ordering_then (nat_cmp (nat_abs (total_at xs (at ++ b ∷ []))) (nat_abs (total_at xs (at ++ a ∷ [])))) (nat_cmp a b)

abbrev pub path_cmp : (List ℕ → ℕ → ℕ → Ordering) → List ℕ → List ℕ → List ℕ → Ordering
path_cmp sibling at [] [] = Equal
path_cmp sibling at [] (b ∷ q) = Less
path_cmp sibling at (a ∷ p) [] = Greater
path_cmp sibling at (a ∷ p) (b ∷ q) = ordering_then (sibling at a b) (path_cmp sibling (at ++ a ∷ []) p q)

abbrev pub node_cmp : List Weighed → List ℕ → List ℕ → Ordering
node_cmp xs p q = path_cmp (sibling_cmp xs) [] p q

-- a list in an order, what is there twice once
abbrev pub insert_once : (List ℕ → List ℕ → Ordering) → List ℕ → List (List ℕ) → List (List ℕ)
insert_once cmp p [] = p ∷ []
insert_once cmp p (q ∷ qs) = match_ordering (cmp p q) (p ∷ q ∷ qs) (q ∷ qs) (q ∷ insert_once cmp p qs)

abbrev pub in_order : (List ℕ → List ℕ → Ordering) → List (List ℕ) → List (List ℕ)
in_order cmp [] = []
in_order cmp (p ∷ ps) = insert_once cmp p (in_order cmp ps)

-- the non-empty prefixes of a list
abbrev pub prefixes : List ℕ → List (List ℕ)
prefixes [] = []
prefixes (a ∷ p) = (a ∷ []) ∷ map (λ q. a ∷ q) (prefixes p)

-- the nodes, each as its functions from the root on
abbrev pub keys_of : List Weighed → List (List ℕ)
keys_of xs = in_order (node_cmp xs) (flat_map (λ x. prefixes (list_of x)) xs)

-- the list of nodes of the tree of paths
abbrev pub nodes_of : ℕ → List Weighed → List Node
nodes_of default xs = map (node_at default xs) (keys_of xs)

-- the weight of the paths that have no step
abbrev pub dropped_of : List Weighed → ℤ
dropped_of xs = total (ending [] xs)

-- the sum of the totals at depth 0, and that of all self weights
abbrev pub root_total : List Node → ℤ
root_total [] = pos 0
root_total (n ∷ ns) = (if n.depth == 0 then n.total else pos 0) +ℤ root_total ns

abbrev pub own_total : List Node → ℤ
own_total [] = pos 0
own_total (n ∷ ns) = n.own +ℤ own_total ns

-- the same for the reversed paths, where the weights stand at the roots
abbrev pub reversed : Weighed → Weighed
reversed x = record x { steps = reverse x.steps }

abbrev pub at_roots : Node → Node
at_roots n = record n { own = if n.depth == 0 then n.total else pos 0 }

abbrev pub inverted_at : ℕ → List Weighed → List ℕ → Node
inverted_at default xs p = at_roots (node_at default xs p)

abbrev pub inverted_of : ℕ → List Weighed → List Node
inverted_of default xs = map at_roots (nodes_of default (map reversed xs))

-- what the list of nodes is: the non-empty prefixes of the paths, each once, and each before those after it
abbrev pub IsNode : List Weighed → List ℕ → Type 0
IsNode xs p = (p ≢ []) × Any (λ x. starts_with nat_eq (list_of x) p ≡ true) xs

pub record AreKeys (xs : List Weighed) (keys : List (List ℕ)) : Type 0 where
  pub exact : (p : List ℕ) → Contains keys p ↔ IsNode xs p
  pub ordered : AllPairs (λ p q. node_cmp xs p q ≡ Less) keys

-- the paths with their weights
abbrev pub weighed : List (List Step) → List ℤ → List Weighed
weighed [] ws = []
weighed (x ∷ xs) [] = []
weighed (x ∷ xs) (w ∷ ws) = record { steps = x; weight = w } ∷ weighed xs ws

-- how many nodes an inverted tree may have
abbrev pub node_limit : ℕ
node_limit = 4194304
