-- The weights of a tree balance: each path stands at one root, and ends at one node
use Rattle.std.proofs.Common.{◌≡◌, ◌≢◌, ℕ, suc, ◌-◌, ℤ, pos, ◌+ℤ◌, Bool, true, false, cond, ◌&&◌, eqb, nat_eq, List, [], ◌∷◌, ◌++◌, length, map, reverse, inl, inr, sym, ap, ◌∙◌, subst, refl, arith}
use Rattle.std.specs.List.{starts_with, filter, flat_map}
use Rattle.std.specs.Cmp.Lexicographic.{pointwise}
use Rattle.std.proofs.lemmas.Int.{ints}
use Rattle.std.proofs.lemmas.Bool.{false≢true}
use Rattle.std.proofs.lemmas.Bool.Decides.{nat_tests}
use Rattle.std.proofs.lemmas.List.{reverse-append}
use Rattle.std.proofs.lemmas.List.Elements.{filter_agree}
use Rattle.std.specs.Ordering.{ordering_reverse}
use Rattle.std.specs.declared.cmp.Ordering.TheVariants.{Less, Greater}
use Rattle.prof_tables.specs.declared.rows.Step.{Step}
use Rattle.prof_path.specs.Shown.{funcs}
use Rattle.prof_tree.specs.declared.node.Node.{Node}
use Rattle.prof_tree.specs.Nodes.{Weighed, list_of, total, total_at, own_at, node_at, node_cmp, prefixes, keys_of, nodes_of, dropped_of, root_total, own_total, reversed, at_roots, inverted_of}
use Rattle.prof_tree.specs.Forest.{HasPrefix}
use Rattle.prof_tree.proofs.Order.{Elem, EachOf, EachOf-at, EachOf-of, Ordered, in_order-ordered, in_order-elem, in_order-has}
use Rattle.prof_tree.proofs.NodeOrder.{Pairs}
use Rattle.prof_tree.proofs.Steps.{HasPrefix-elem, HasPrefix-has, antisymm_of, exact_of, trans_of}
use Rattle.prof_tree.proofs.PathSteps.{is-same, same-is, number_same}

-- the sum of a number at each list
abbrev sum_at : (List ℕ → ℤ) → List (List ℕ) → ℤ
sum_at f [] = pos 0
sum_at f (k ∷ ks) = f k +ℤ sum_at f ks

sum_at-none : (ks : List (List ℕ)) → sum_at (λ p. pos 0) ks ≡ pos 0
sum_at-none [] = refl
sum_at-none (k ∷ ks) = ap (λ z. pos 0 +ℤ z) (sum_at-none ks) ∙ omega (arith, ints)

grouped : (a b c : ℤ) → ((a +ℤ b) +ℤ c) ≡ (a +ℤ (b +ℤ c))
grouped a b c = omega (arith, ints)

moved : (a b c : ℤ) → (b +ℤ (a +ℤ c)) ≡ (a +ℤ (b +ℤ c))
moved a b c = omega (arith, ints)

turned : (a b : ℤ) → (a +ℤ b) ≡ (b +ℤ a)
turned a b = omega (arith, ints)

nothing_more : (a : ℤ) → (pos 0 +ℤ a) ≡ a
nothing_more a = omega (arith, ints)

-- each path has a list of its own among distinct ones: then the sums over the paths of each list are the sum over all
module _ (g : Weighed → List ℕ) where
  abbrev part : List Weighed → List ℕ → ℤ
  part xs p = total (filter (λ x. pointwise nat_eq p (g x)) xs)

  one-never : (x : Weighed) (xs : List Weighed) (ks : List (List ℕ)) → EachOf (λ q. q ≢ g x) ks → sum_at (part (x ∷ xs)) ks ≡ sum_at (part xs) ks
  one-never x xs [] h = refl
  one-never x xs (q ∷ ks) h =
      elim (pointwise nat_eq q (g x)) as (λ b. pointwise nat_eq q (g x) ≡ b → (total (cond b (x ∷ filter (λ x. pointwise nat_eq q (g x)) xs) (filter (λ x. pointwise nat_eq q (g x)) xs)) +ℤ sum_at (part (x ∷ xs)) ks) ≡ (part xs q +ℤ sum_at (part xs) ks)) [
        | true ↦ λ k. absurd (h.0 (sym (is-same (g x) q k)))
        | false ↦ λ k. ap (λ z. part xs q +ℤ z) (one-never x xs ks h.1)
      ] refl

  one-more : (x : Weighed) (xs : List Weighed) (ks : List (List ℕ)) → Pairs (λ p q. p ≢ q) ks → Elem (g x) ks → sum_at (part (x ∷ xs)) ks ≡ (x.weight +ℤ sum_at (part xs) ks)
  one-more x xs [] d e = absurd e
  one-more x xs (q ∷ ks) d e =
      elim (pointwise nat_eq q (g x)) as (λ b. pointwise nat_eq q (g x) ≡ b → (total (cond b (x ∷ filter (λ x. pointwise nat_eq q (g x)) xs) (filter (λ x. pointwise nat_eq q (g x)) xs)) +ℤ sum_at (part (x ∷ xs)) ks) ≡ (x.weight +ℤ (part xs q +ℤ sum_at (part xs) ks))) [
        | true ↦ λ k. ap (λ z. (x.weight +ℤ part xs q) +ℤ z) (one-never x xs ks (subst (λ l. EachOf (λ q. q ≢ l) ks) (sym (is-same (g x) q k)) (flipped q ks d.0))) ∙ grouped x.weight (part xs q) (sum_at (part xs) ks)
        | false ↦ λ k. ap (λ z. part xs q +ℤ z) (one-more x xs ks d.1 (later k)) ∙ moved x.weight (part xs q) (sum_at (part xs) ks)
      ] refl
    where
      flipped : (q : List ℕ) (ks : List (List ℕ)) → EachOf (λ r. q ≢ r) ks → EachOf (λ r. r ≢ q) ks
      flipped q [] h = tt
      flipped q (k ∷ ks) h = ((λ s. h.0 (sym s)), flipped q ks h.1)

      later : pointwise nat_eq q (g x) ≡ false → Elem (g x) ks
      later k = elim e [ inl s ↦ absurd (false≢true (sym k ∙ ap (λ z. pointwise nat_eq z (g x)) s ∙ same-is (g x))) | inr f ↦ f ]

  exchange : (xs : List Weighed) (ks : List (List ℕ)) → Pairs (λ p q. p ≢ q) ks → ((x : Weighed) → Elem x xs → Elem (g x) ks) → sum_at (part xs) ks ≡ total xs
  exchange [] ks d h = sum_at-none ks
  exchange (x ∷ xs) ks d h = one-more x xs ks d (h x (inl refl)) ∙ ap (λ z. x.weight +ℤ z) (exchange xs ks d (λ y e. h y (inr e)))

and-both : (a b : Bool) → a ≡ true → b ≡ true → (a && b) ≡ true
and-both a b h k = ap (λ x. x && b) h ∙ k

pub starts_itself : (l : List ℕ) → starts_with nat_eq l l ≡ true
starts_itself [] = refl
starts_itself (a ∷ l) = and-both _ _ (number_same a a refl) (starts_itself l)

has_prefix : (xs : List Weighed) (x : Weighed) (p : List ℕ) → Elem x xs → starts_with nat_eq (list_of x) p ≡ true → HasPrefix xs p
has_prefix [] x p e h = e
has_prefix (y ∷ xs) x p e h = elim e [ inl s ↦ inl (ap (λ (z : Weighed). starts_with nat_eq (list_of z) p) s ∙ h) | inr f ↦ inr (has_prefix xs x p f h) ]

-- the nodes, which are the non-empty prefixes and stand apart
module _ (xs : List Weighed) where
  abbrev all : List (List ℕ)
  all = flat_map (λ x. prefixes (list_of x)) xs

  is_key : (p : List ℕ) → p ≢ [] → HasPrefix xs p → Elem p (keys_of xs)
  is_key p n h = in_order-has (node_cmp xs) (antisymm_of xs) (exact_of xs) (trans_of xs) all p (HasPrefix-has xs p n h)

  not_nil : (p : List ℕ) → Elem p (keys_of xs) → p ≢ []
  not_nil p e = (HasPrefix-elem xs p (in_order-elem (node_cmp xs) (antisymm_of xs) (exact_of xs) (trans_of xs) all p e)).0

  differ_of : (ks : List (List ℕ)) → Ordered (node_cmp xs) ks → Pairs (λ p q. p ≢ q) ks
  differ_of [] h = tt
  differ_of (k ∷ ks) h = (EachOf-of (λ q. k ≢ q) ks (λ q e s. not_itself (subst (λ z. node_cmp xs k z ≡ Less) (sym s) (EachOf-at (λ z. node_cmp xs k z ≡ Less) ks q h.0 e))), differ_of ks h.1)
    where
      not_itself : node_cmp xs k k ≡ Less → ⊥
      not_itself h = let e : Less ≡ Greater = sym h ∙ antisymm_of xs k k ∙ ap ordering_reverse h in cc

  apart : Pairs (λ p q. p ≢ q) (keys_of xs)
  apart = differ_of (keys_of xs) (in_order-ordered (node_cmp xs) (antisymm_of xs) (exact_of xs) (trans_of xs) all)

  -- with the empty list before them
  nil_apart : (ks : List (List ℕ)) → ((p : List ℕ) → Elem p ks → p ≢ []) → Pairs (λ p q. p ≢ q) ks → Pairs (λ p q. p ≢ q) ([] ∷ ks)
  nil_apart ks n d = (EachOf-of (λ q. [] ≢ q) ks (λ q e s. n q e (sym s)), d)

  own_total-keys : (default : ℕ) (ks : List (List ℕ)) → own_total (map (node_at default xs) ks) ≡ sum_at (own_at xs) ks
  own_total-keys default [] = refl
  own_total-keys default (k ∷ ks) = ap (λ z. own_at xs k +ℤ z) (own_total-keys default ks)

  -- the self weights and the weight that is dropped
  pub own_balance : (default : ℕ) → (own_total (nodes_of default xs) +ℤ dropped_of xs) ≡ total xs
  own_balance default =
      turned (own_total (nodes_of default xs)) (dropped_of xs) ∙ ap (λ z. dropped_of xs +ℤ z) (own_total-keys default (keys_of xs))
      ∙ exchange list_of xs ([] ∷ keys_of xs) (nil_apart (keys_of xs) not_nil apart) (λ x e. place x e (list_of x) refl)
    where
      place : (x : Weighed) → Elem x xs → (l : List ℕ) → list_of x ≡ l → Elem l ([] ∷ keys_of xs)
      place x e [] s = inl refl
      place x e (a ∷ l) s = inr (is_key (a ∷ l) (λ k. cc) (has_prefix xs x (a ∷ l) e (ap (λ z. starts_with nat_eq z (a ∷ l)) s ∙ starts_itself (a ∷ l))))

  abbrev is_root : List ℕ → Bool
  is_root p = eqb (length p - 1) 0

  -- the root of a list
  abbrev root_of : List ℕ → List ℕ
  root_of [] = []
  root_of (a ∷ l) = a ∷ []

  not_root : (n : ℕ) → eqb (suc (suc n) - 1) 0 ≡ false
  not_root n = grind (arith, nat_tests)

  at_root : (a : ℕ) → part (λ x. root_of (list_of x)) xs (a ∷ []) ≡ total_at xs (a ∷ [])
  at_root a = ap total (filter_agree (λ x. pointwise nat_eq (a ∷ []) (root_of (list_of x))) (λ x. starts_with nat_eq (list_of x) (a ∷ [])) (λ x. same (list_of x)) xs)
    where
      same : (l : List ℕ) → pointwise nat_eq (a ∷ []) (root_of l) ≡ starts_with nat_eq l (a ∷ [])
      same [] = refl
      same (b ∷ l) = refl

  at_none : part (λ x. root_of (list_of x)) xs [] ≡ dropped_of xs
  at_none = ap total (filter_agree (λ x. pointwise nat_eq [] (root_of (list_of x))) (λ x. pointwise nat_eq [] (list_of x)) (λ x. same (list_of x)) xs)
    where
      same : (l : List ℕ) → pointwise nat_eq [] (root_of l) ≡ pointwise nat_eq [] l
      same [] = refl
      same (b ∷ l) = refl

  root_total-keys : (default : ℕ) (ks : List (List ℕ)) → ((p : List ℕ) → Elem p ks → p ≢ []) → root_total (map (node_at default xs) ks) ≡ sum_at (part (λ x. root_of (list_of x)) xs) (filter is_root ks)
  root_total-keys default [] n = refl
  root_total-keys default ([] ∷ ks) n = absurd (n [] (inl refl) refl)
  root_total-keys default ((a ∷ []) ∷ ks) n =
      ap (λ z. total_at xs (a ∷ []) +ℤ z) (root_total-keys default ks (λ p e. n p (inr e)))
      ∙ ap (λ z. z +ℤ sum_at (part (λ x. root_of (list_of x)) xs) (filter is_root ks)) (sym (at_root a))
  root_total-keys default ((a ∷ (b ∷ p)) ∷ ks) n =
      ap (λ e. cond e (total_at xs (a ∷ (b ∷ p))) (pos 0) +ℤ root_total (map (node_at default xs) ks)) (not_root (length p))
      ∙ nothing_more (root_total (map (node_at default xs) ks)) ∙ root_total-keys default ks (λ p e. n p (inr e))
      ∙ ap (λ e. sum_at (part (λ x. root_of (list_of x)) xs) (cond e ((a ∷ (b ∷ p)) ∷ filter is_root ks) (filter is_root ks))) (sym (not_root (length p)))

  filter-elem : (ks : List (List ℕ)) (p : List ℕ) → Elem p (filter is_root ks) → Elem p ks
  filter-elem [] p e = e
  filter-elem (k ∷ ks) p e =
      elim (is_root k) as (λ b. Elem p (cond b (k ∷ filter is_root ks) (filter is_root ks)) → Elem p (k ∷ ks)) [
        | true ↦ λ e. elim e [ inl s ↦ inl s | inr f ↦ inr (filter-elem ks p f) ]
        | false ↦ λ e. inr (filter-elem ks p e)
      ] e

  filter-has : (ks : List (List ℕ)) (p : List ℕ) → is_root p ≡ true → Elem p ks → Elem p (filter is_root ks)
  filter-has [] p r e = e
  filter-has (k ∷ ks) p r e =
      elim (is_root k) as (λ b. is_root k ≡ b → Elem p (cond b (k ∷ filter is_root ks) (filter is_root ks))) [
        | true ↦ λ h. elim e [ inl s ↦ inl s | inr f ↦ inr (filter-has ks p r f) ]
        | false ↦ λ h. elim e [ inl s ↦ absurd (false≢true (sym h ∙ ap is_root s ∙ r)) | inr f ↦ filter-has ks p r f ]
      ] refl

  filter-apart : (ks : List (List ℕ)) → Pairs (λ p q. p ≢ q) ks → Pairs (λ p q. p ≢ q) (filter is_root ks)
  filter-apart [] d = tt
  filter-apart (k ∷ ks) d =
      elim (is_root k) as (λ b. Pairs (λ p q. p ≢ q) (cond b (k ∷ filter is_root ks) (filter is_root ks))) [
        | true ↦ (EachOf-of (λ q. k ≢ q) (filter is_root ks) (λ q e. EachOf-at (λ q. k ≢ q) ks q d.0 (filter-elem ks q e)), filter-apart ks d.1)
        | false ↦ filter-apart ks d.1
      ]

  -- the totals of the roots and the weight that is dropped
  pub root_balance : (default : ℕ) → (root_total (nodes_of default xs) +ℤ dropped_of xs) ≡ total xs
  root_balance default =
      turned (root_total (nodes_of default xs)) (dropped_of xs) ∙ ap (λ z. dropped_of xs +ℤ z) (root_total-keys default (keys_of xs) not_nil)
      ∙ ap (λ z. z +ℤ sum_at (part (λ x. root_of (list_of x)) xs) (filter is_root (keys_of xs))) (sym at_none)
      ∙ exchange (λ x. root_of (list_of x)) xs ([] ∷ filter is_root (keys_of xs)) (nil_apart (filter is_root (keys_of xs)) (λ p e. not_nil p (filter-elem (keys_of xs) p e)) (filter-apart (keys_of xs) apart)) (λ x e. place x e (list_of x) refl)
    where
      place : (x : Weighed) → Elem x xs → (l : List ℕ) → list_of x ≡ l → Elem (root_of l) ([] ∷ filter is_root (keys_of xs))
      place x e [] s = inl refl
      place x e (a ∷ l) s = inr (filter-has (keys_of xs) (a ∷ []) refl (is_key (a ∷ []) (λ k. cc) (has_prefix xs x (a ∷ []) e (ap (λ z. starts_with nat_eq z (a ∷ [])) s ∙ and-both _ _ (number_same a a refl) refl))))

-- the reversed paths
total-reversed : (xs : List Weighed) → total (map reversed xs) ≡ total xs
total-reversed [] = refl
total-reversed (x ∷ xs) = ap (λ z. x.weight +ℤ z) (total-reversed xs)

empty-reversed : (x : List Step) → pointwise nat_eq [] (funcs (reverse x)) ≡ pointwise nat_eq [] (funcs x)
empty-reversed [] = refl
empty-reversed (s ∷ x) = ap (λ z. pointwise nat_eq [] (funcs z)) (reverse-append (s ∷ []) x) ∙ longer (reverse x)
  where
    longer : (y : List Step) → pointwise nat_eq [] (funcs (y ++ s ∷ [])) ≡ false
    longer [] = refl
    longer (t ∷ y) = refl

pub dropped-reversed : (xs : List Weighed) → dropped_of (map reversed xs) ≡ dropped_of xs
dropped-reversed [] = refl
dropped-reversed (x ∷ xs) =
    elim (pointwise nat_eq [] (list_of x)) as (λ b. pointwise nat_eq [] (list_of x) ≡ b → total (cond (pointwise nat_eq [] (list_of (reversed x))) (reversed x ∷ filter (λ x. pointwise nat_eq [] (list_of x)) (map reversed xs)) (filter (λ x. pointwise nat_eq [] (list_of x)) (map reversed xs))) ≡ total (cond b (x ∷ filter (λ x. pointwise nat_eq [] (list_of x)) xs) (filter (λ x. pointwise nat_eq [] (list_of x)) xs))) [
      | true ↦ λ k. ap (λ b. total (cond b (reversed x ∷ filter (λ x. pointwise nat_eq [] (list_of x)) (map reversed xs)) (filter (λ x. pointwise nat_eq [] (list_of x)) (map reversed xs)))) (empty-reversed x.steps ∙ k) ∙ ap (λ z. x.weight +ℤ z) (dropped-reversed xs)
      | false ↦ λ k. ap (λ b. total (cond b (reversed x ∷ filter (λ x. pointwise nat_eq [] (list_of x)) (map reversed xs)) (filter (λ x. pointwise nat_eq [] (list_of x)) (map reversed xs)))) (empty-reversed x.steps ∙ k) ∙ dropped-reversed xs
    ] refl

root_total-at_roots : (ns : List Node) → root_total (map at_roots ns) ≡ root_total ns
root_total-at_roots [] = refl
root_total-at_roots (n ∷ ns) = ap (λ z. cond (eqb n.depth 0) n.total (pos 0) +ℤ z) (root_total-at_roots ns)

-- the roots of the inverted tree and the weight that is dropped
pub inverted_balance : (default : ℕ) (xs : List Weighed) → (root_total (inverted_of default xs) +ℤ dropped_of xs) ≡ total xs
inverted_balance default xs =
    ap (λ z. z +ℤ dropped_of xs) (root_total-at_roots (nodes_of default (map reversed xs))) ∙ ap (λ z. root_total (nodes_of default (map reversed xs)) +ℤ z) (sym (dropped-reversed xs))
    ∙ root_balance (map reversed xs) default ∙ total-reversed xs
