-- The functions of the nodes are functions of the paths
use Rattle.std.proofs.Common.{ℕ, ◌-◌, ◌<◌, List, [], ◌∷◌, length, map, arith}
use Rattle.std.specs.List.{All, flat_map}
use Rattle.std.specs.Ordering.{match_ordering}
use Rattle.std.specs.declared.cmp.Ordering.{Ordering}
use Rattle.std.specs.declared.cmp.Ordering.TheVariants.{Less, Equal, Greater}
use Rattle.std.proofs.lemmas.List.Elements.{All-nil, All-cons, All-head, All-tail, All-map, All-append, All-weaker}
use Rattle.prof_tables.specs.declared.rows.Step.{Step}
use Rattle.prof_tree.specs.declared.node.Node.{Node}
use Rattle.prof_tree.specs.Nodes.{Weighed, list_of, node_at, node_cmp, insert_once, in_order, prefixes, keys_of, nodes_of}

-- functions, with a first one, each below the count
pub record IsKnown (count : ℕ) (p : List ℕ) : Type 0 where
  pub some : 0 < length p
  pub below : All (λ f. f < count) p

prefixes-known : (count : ℕ) (p : List ℕ) → All (λ f. f < count) p → All (IsKnown count) (prefixes p)
prefixes-known count [] h = All-nil (IsKnown count)
prefixes-known count (a ∷ p) h =
    All-cons (IsKnown count) (a ∷ []) (map (λ q. a ∷ q) (prefixes p))
    (record { some = omega arith; below = All-cons (λ f. f < count) a [] (All-head (λ f. f < count) a p h) (All-nil (λ f. f < count)) })
    (All-map (IsKnown count) (λ q. a ∷ q) (prefixes p)
    (All-weaker (IsKnown count) (λ q. IsKnown count (a ∷ q))
    (λ q k. record { some = omega arith; below = All-cons (λ f. f < count) a q (All-head (λ f. f < count) a p h) k.below })
    (prefixes p) (prefixes-known count p (All-tail (λ f. f < count) a p h))))

insert_once-known : (P : List ℕ → Type 0) (cmp : List ℕ → List ℕ → Ordering) (p : List ℕ) (qs : List (List ℕ)) → P p → All P qs → All P (insert_once cmp p qs)
insert_once-known P cmp p [] k h = All-cons P p [] k h
insert_once-known P cmp p (q ∷ qs) k h =
    placed (cmp p q) (insert_once-known P cmp p qs k (All-tail P q qs h))
  where
    placed : (o : Ordering) → All P (insert_once cmp p qs) → All P (match_ordering o (p ∷ q ∷ qs) (q ∷ qs) (q ∷ insert_once cmp p qs))
    placed Less rest = All-cons P p (q ∷ qs) k h
    placed Equal rest = h
    placed Greater rest = All-cons P q (insert_once cmp p qs) (All-head P q qs h) rest

in_order-known : (P : List ℕ → Type 0) (cmp : List ℕ → List ℕ → Ordering) (ps : List (List ℕ)) → All P ps → All P (in_order cmp ps)
in_order-known P cmp [] h = h
in_order-known P cmp (p ∷ ps) h = insert_once-known P cmp p (in_order cmp ps) (All-head P p ps h) (in_order-known P cmp ps (All-tail P p ps h))

all-known : (count : ℕ) (xs : List Weighed) → All (λ (x : Weighed). All (λ (s : Step). s.func < count) x.steps) xs → All (IsKnown count) (flat_map (λ x. prefixes (list_of x)) xs)
all-known count [] h = All-nil (IsKnown count)
all-known count (x ∷ xs) h =
    All-append (IsKnown count) (prefixes (list_of x)) (flat_map (λ x. prefixes (list_of x)) xs)
    (prefixes-known count (list_of x) (All-map (λ f. f < count) (λ (s : Step). s.func) x.steps (All-head (λ (x : Weighed). All (λ (s : Step). s.func < count) x.steps) x xs h)))
    (all-known count xs (All-tail (λ (x : Weighed). All (λ (s : Step). s.func < count) x.steps) x xs h))

-- where each step's function is below a count, each node's is
pub nodes_of-known : (count default : ℕ) (xs : List Weighed) → All (λ (x : Weighed). All (λ (s : Step). s.func < count) x.steps) xs
    → All (λ (node : Node). node.func < count) (nodes_of default xs)
nodes_of-known count default xs h =
    All-map (λ (node : Node). node.func < count) (node_at default xs) (keys_of xs)
    (All-weaker (IsKnown count) (λ p. (node_at default xs p).func < count) (λ p k. k.below (length p - 1) 0 (omega (arith, k.some)))
    (keys_of xs) (in_order-known (IsKnown count) (node_cmp xs) (flat_map (λ x. prefixes (list_of x)) xs) (all-known count xs h)))
