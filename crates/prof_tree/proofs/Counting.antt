-- How many nodes there are at least
use Rattle.std.proofs.Common.{◌≡◌, ◌≢◌, ℕ, zero, suc, ◌<◌, ◌≤◌, ℤ, List, [], ◌∷◌, ◌++◌, length, map, reverse, take, drop, get_or, Option, inl, inr, sym, ap, ◌∙◌, subst, refl, arith}
use Rattle.std.specs.List.{flat_map}
use Rattle.std.proofs.lemmas.List.{take-append-drop, length-take-le, length-reverse}
use Rattle.std.proofs.lemmas.Map.Steps.{length-le_from_distinct_below}
use Rattle.prof_tables.specs.declared.rows.Step.{Step}
use Rattle.prof_path.specs.Shown.{funcs}
use Rattle.prof_tree.specs.declared.branch.Branch.{Branch}
use Rattle.prof_tree.specs.Nodes.{Weighed, list_of, node_cmp, prefixes, keys_of, weighed, reversed}
use Rattle.prof_tree.specs.Forest.{EachOf, HasPrefix, key}
use Rattle.prof_tree.specs.Growing.{IsGrown, IsSmall, IsTable}
use Rattle.prof_tree.proofs.Order.{Elem, EachOf-of, in_order-has}
use Rattle.prof_tree.proofs.NodeOrder.{Pairs, HasPrefix-shorter}
use Rattle.prof_tree.proofs.Steps.{HasPrefix-has, antisymm_of, exact_of, trans_of, distinct-of, below-of}
use Rattle.prof_tree.proofs.PathSteps.{length-funcs, HasPrefix-last}
use Rattle.prof_tree.proofs.Turns.{key-long}
use Rattle.prof_tree.proofs.Balance.{starts_itself}

position : (ks : List (List ℕ)) (p : List ℕ) → Elem p ks → (k : ℕ) × (k < length ks) × (get_or ks k [] ≡ p)
position [] p e = absurd e
position (y ∷ ks) p e = elim e [ inl s ↦ (0, omega arith, s) | inr f ↦ let r = position ks p f in (suc r.0, omega (arith, r.1), r.2) ]

-- distinct lists that stand in another are at most as many as that has
module _ (ks : List (List ℕ)) (n : ℕ) (f : ℕ → List ℕ) (apart : (i j : ℕ) → i < n → j < n → f i ≡ f j → i ≡ j) (has : (i : ℕ) → i < n → Elem (f i) ks) where
  places : (m : ℕ) → m ≤ n → (l : List ℕ) × (length l ≡ m) × Pairs (λ a b. a ≢ b) l × ((q : ℕ) → Elem q l → (i : ℕ) × (i < m) × (q < length ks) × (get_or ks q [] ≡ f i))
  places zero h = ([], refl, tt, λ q e. absurd e)
  places (suc m) h =
      let r = places m (omega arith) in
      let k = position ks (f m) (has m (omega arith)) in (
        k.0 ∷ r.0,
        ap suc r.1,
        (EachOf-of (λ b. k.0 ≢ b) r.0 (λ q e s. (let w = r.3 q e in let same : m ≡ w.0 = apart m w.0 (omega arith) (omega (arith, w.1)) (sym k.2 ∙ ap (λ z. get_or ks z []) s ∙ w.3) in absurd (omega (arith, w.1)))), r.2),
        λ q e. elim e [
          | inl s ↦ (m, omega arith, subst (λ z. z < length ks) s k.1, ap (λ z. get_or ks z []) (sym s) ∙ k.2)
          | inr g ↦ let w = r.3 q g in (w.0, omega (arith, w.1), w.2, w.3)
        ],
      )

  at_most : n ≤ length ks
  at_most =
      let r = places n (omega arith) in
      let few = length-le_from_distinct_below r.0 (length ks) (distinct-of r.0 r.2) (below-of r.0 (length ks) (λ q e. (r.3 q e).2)) in
      let len = r.1 in
      omega arith

-- distinct nodes are at most as many as there are nodes
many_nodes : (zs : List Weighed) (n : ℕ) (f : ℕ → List ℕ) → ((i j : ℕ) → i < n → j < n → f i ≡ f j → i ≡ j) → ((i : ℕ) → i < n → (f i ≢ []) × HasPrefix zs (f i)) → n ≤ length (keys_of zs)
many_nodes zs n f apart each =
    at_most (keys_of zs) n f apart (λ i h. (let e = each i h in in_order-has (node_cmp zs) (antisymm_of zs) (exact_of zs) (trans_of zs) (flat_map (λ x. prefixes (list_of x)) zs) (f i) (HasPrefix-has zs (f i) e.0 e.1)))

-- rows that are nodes of the paths are at most as many as there are nodes
pub nodes_within : (zs : List Weighed) (ks : List (List ℕ)) (rows : List Branch) (look : Option ℕ × ℕ → Option ℕ) → IsTable ks rows look → ((r : ℕ) → r < length rows → HasPrefix zs (key ks r)) → length rows ≤ length (keys_of zs)
nodes_within zs ks rows look t each = many_nodes zs (length rows) (key ks) t.apart (λ r h. (key-long ks rows look t r h, each r h))

-- the rows of some of the paths are nodes of them all
pub rows_are_nodes : (xs zs : List Weighed) (ks : List (List ℕ)) (rows : List Branch) (look : Option ℕ × ℕ → Option ℕ) → IsGrown xs ks rows look → ((p : List ℕ) → HasPrefix xs p → HasPrefix zs p) → length rows ≤ length (keys_of zs)
rows_are_nodes xs zs ks rows look g more =
    many_nodes zs (length rows) (key ks) g.table.apart (λ r h. (key-long ks rows look g.table r h, more (key ks r) (g.adds.in_paths r h)))

-- a path has a node for each of its steps
pub steps_are_nodes : (zs : List Weighed) (l : List ℕ) → HasPrefix zs l → length l ≤ length (keys_of zs)
steps_are_nodes zs l h =
    many_nodes zs (length l) (λ i. take (suc i) l)
    (λ i j lt in' e. (let a = length-take-le (suc i) l (omega arith) in let b = length-take-le (suc j) l (omega arith) in let c : length (take (suc i) l) ≡ length (take (suc j) l) = ap length e in omega arith))
    (λ i lt. (
      (λ e. (let a = length-take-le (suc i) l (omega arith) in let c : length (take (suc i) l) ≡ 0 = ap length e in absurd (omega arith))),
      HasPrefix-shorter zs (take (suc i) l) (drop (suc i) l) (subst (HasPrefix zs) (sym (take-append-drop (suc i) l)) h),
    ))

-- what some of the paths begin with, all begin with
pub some_of_all : (n : ℕ) (xs : List (List Step)) (ws : List ℤ) (p : List ℕ) → HasPrefix (map reversed (weighed (take n xs) (take n ws))) p → HasPrefix (map reversed (weighed xs ws)) p
some_of_all zero xs ws p h = absurd h
some_of_all (suc n) [] ws p h = absurd h
some_of_all (suc n) (x ∷ xs) [] p h = absurd h
some_of_all (suc n) (x ∷ xs) (w ∷ ws) p h = elim h [ inl e ↦ inl e | inr k ↦ inr (some_of_all n xs ws p k) ]

-- one more path, reversed
pub reversed-more : (xs : List Weighed) (x : List Step) (w : ℤ) → map reversed (xs ++ record { steps = x; weight = w } ∷ []) ≡ map reversed xs ++ record { steps = reverse x; weight = w } ∷ []
reversed-more [] x w = refl
reversed-more (y ∷ xs) x w = ap (λ z. reversed y ∷ z) (reversed-more xs x w)

pub length-reversed : (xs : List Weighed) → length (map reversed xs) ≡ length xs
length-reversed [] = refl
length-reversed (x ∷ xs) = ap suc (length-reversed xs)

pub small-reversed : (xs : List Weighed) → EachOf IsSmall xs → EachOf IsSmall (map reversed xs)
small-reversed [] h = tt
small-reversed (x ∷ xs) h = (h.0, small-reversed xs h.1)

-- a long path makes many nodes
pub long_path : (xs : List Weighed) (zs : List Weighed) (x : List Step) (w : ℤ) → ((p : List ℕ) → HasPrefix (map reversed xs ++ record { steps = reverse x; weight = w } ∷ []) p → HasPrefix zs p) → length x ≤ length (keys_of zs)
long_path xs zs x w more =
    let n = steps_are_nodes zs (funcs (reverse x)) (more (funcs (reverse x)) (HasPrefix-last (map reversed xs) (record { steps = reverse x; weight = w }) (funcs (reverse x)) (starts_itself (funcs (reverse x))))) in
    omega (arith, length-funcs (reverse x), length-reverse x)
