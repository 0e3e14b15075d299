-- What the list of nodes is
use Rattle.std.proofs.Common.{◌≡◌, ℕ, zero, suc, ◌<◌, true, nat_eq, List, [], ◌∷◌, length, get_or, inl, inr, ap, ◌∙◌, refl, arith}
use Rattle.std.specs.List.{starts_with, flat_map, Any, AllPairs}
use Rattle.std.specs.declared.cmp.Ordering.{Ordering}
use Rattle.std.specs.declared.cmp.Ordering.TheVariants.{Less}
use Rattle.prof_tree.specs.Nodes.{Weighed, list_of, node_cmp, prefixes, keys_of, AreKeys}
use Rattle.prof_tree.specs.Forest.{EachOf, HasPrefix}
use Rattle.prof_tree.proofs.Order.{Ordered, in_order-ordered, in_order-elem, in_order-has}
use Rattle.prof_tree.proofs.Steps.{HasPrefix-elem, HasPrefix-has, antisymm_of, exact_of, trans_of}
use Rattle.prof_tree.proofs.Kids.{Elem-contains, contains-Elem}

any-of : (xs : List Weighed) (p : List ℕ) → HasPrefix xs p → Any (λ x. starts_with nat_eq (list_of x) p ≡ true) xs
any-of [] p h = absurd h
any-of (x ∷ xs) p h = elim h [ inl e ↦ (0, x, omega arith, refl, e) | inr k ↦ let w = any-of xs p k in (suc w.0, w.1, omega (arith, w.2), w.3, w.4) ]

of-any : (xs : List Weighed) (p : List ℕ) → Any (λ x. starts_with nat_eq (list_of x) p ≡ true) xs → HasPrefix xs p
of-any xs p w = at xs w.0 w.1 w.2 w.3 w.4
  where
    at : (xs : List Weighed) (k : ℕ) (x : Weighed) → k < length xs → get_or xs k x ≡ x → starts_with nat_eq (list_of x) p ≡ true → HasPrefix xs p
    at [] k x h e s = absurd (omega arith)
    at (y ∷ xs) zero x h e s = inl (ap (λ (z : Weighed). starts_with nat_eq (list_of z) p) e ∙ s)
    at (y ∷ xs) (suc k) x h e s = inr (at xs k x (omega arith) e s)

each-at : (P : List ℕ → Type 0) (xs : List (List ℕ)) (j : ℕ) (d : List ℕ) → EachOf P xs → j < length xs → P (get_or xs j d)
each-at P [] j d h lt = absurd (omega arith)
each-at P (x ∷ xs) zero d h lt = h.0
each-at P (x ∷ xs) (suc j) d h lt = each-at P xs j d h.1 (omega arith)

pairs-of : (cmp : List ℕ → List ℕ → Ordering) (xs : List (List ℕ)) → Ordered cmp xs → AllPairs (λ p q. cmp p q ≡ Less) xs
pairs-of cmp [] h = λ i j d lt in'. absurd (omega arith)
pairs-of cmp (x ∷ xs) h = λ i j d lt in'. at (pairs-of cmp xs h.1) i j d lt in'
  where
    at : AllPairs (λ p q. cmp p q ≡ Less) xs → (i j : ℕ) (d : List ℕ) → i < j → j < length (x ∷ xs) → cmp (get_or (x ∷ xs) i d) (get_or (x ∷ xs) j d) ≡ Less
    at rest zero zero d lt in' = absurd (omega arith)
    at rest zero (suc j) d lt in' = each-at (λ y. cmp x y ≡ Less) xs j d h.0 (omega arith)
    at rest (suc i) zero d lt in' = absurd (omega arith)
    at rest (suc i) (suc j) d lt in' = rest i j d (omega arith) (omega arith)

-- the nodes are the non-empty prefixes of the paths, each once, and each before those after it
pub keys_of-law : (xs : List Weighed) → AreKeys xs (keys_of xs)
keys_of-law xs = record {
  exact = λ p. (
    (λ c. (let h = HasPrefix-elem xs p (in_order-elem (node_cmp xs) (antisymm_of xs) (exact_of xs) (trans_of xs) all p (Elem-contains (keys_of xs) p c)) in (h.0, any-of xs p h.1))),
    (λ n. contains-Elem (keys_of xs) p (in_order-has (node_cmp xs) (antisymm_of xs) (exact_of xs) (trans_of xs) all p (HasPrefix-has xs p n.0 (of-any xs p n.1)))),
  );
  ordered = pairs-of (node_cmp xs) (keys_of xs) (in_order-ordered (node_cmp xs) (antisymm_of xs) (exact_of xs) (trans_of xs) all);
}
  where
    all : List (List ℕ)
    all = flat_map (λ x. prefixes (list_of x)) xs
