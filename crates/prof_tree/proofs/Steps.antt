-- A walk that takes a row from what is pending, and puts its children there, lists the nodes in order
use Rattle.std.proofs.Common.{◌≡◌, ◌≢◌, ℕ, suc, ◌+◌, ◌<◌, ◌≤◌, Bool, true, false, ◌&&◌, ◌||◌, nat_abs, nat_eq, eqb, List, [], ◌∷◌, ◌++◌, length, map, reverse, get_or, Option, Some, None, MatchOption, Vec, vec_len, Global, ◌⊎◌, inl, inr, sym, ap, ◌∙◌, subst, refl, append_assoc, option_to_list, add-one, arith}
use Rattle.std.specs.List.{starts_with, flat_map, list_any, IsDistinct, AllByRecursion}
use Rattle.std.proofs.lemmas.Bool.{false≢true}
use Rattle.std.proofs.lemmas.List.{reverse-append}
use Rattle.std.proofs.lemmas.Map.Steps.{length-le_from_distinct_below}
use Rattle.std.specs.Ordering.{ordering_then, ordering_reverse, nat_cmp}
use Rattle.std.specs.declared.cmp.Ordering.{Ordering}
use Rattle.std.specs.declared.cmp.Ordering.TheVariants.{Less, Equal, Greater}
use Rattle.std.proofs.lemmas.Bool.Decides.{nat_tests}
use Rattle.prof_tree.specs.declared.branch.Branch.{Branch}
use Rattle.prof_tree.specs.Nodes.{Weighed, list_of, total_at, sibling_cmp, node_cmp, prefixes, keys_of}
use Rattle.prof_tree.proofs.Order.{path_cmp-antisymm, path_cmp-exact, path_cmp-trans, Elem, EachOf, EachOf-at, EachOf-of, Elem-left, Elem-right, Elem-cases, Ordered, same_ordered, in_order-ordered, in_order-elem, in_order-has}
use Rattle.prof_tree.proofs.NodeOrder.{sibling_total, sibling_apart, Pairs, Pairs-append, path_cmp-longer, path_cmp-right, path_cmp-left, path_cmp-siblings, Apart, Apart-left, Apart-siblings, HasPrefix, HasPrefix-shorter, key_above, key, branch, IsForest, link, NotBefore, AreKids}
use Rattle.prof_tree.specs.Forest.{HasChildren, HasForest, IsChain}

-- the prefixes of a list are what it begins with
Elem-map : (a : ℕ) (ps : List (List ℕ)) (p : List ℕ) → Elem p (map (λ q. a ∷ q) ps) → (q : List ℕ) × ((a ∷ q) ≡ p) × Elem q ps
Elem-map a [] p e = absurd e
Elem-map a (q ∷ ps) p e = elim e [ inl s ↦ (q, s, inl refl) | inr g ↦ let r = Elem-map a ps p g in (r.0, r.1, inr r.2) ]

Elem-mapped : {X : Type 0} (g : X → List ℕ) (ps : List X) (x : X) → Elem x ps → Elem (g x) (map g ps)
Elem-mapped g [] x e = absurd e
Elem-mapped g (q ∷ ps) x e = elim e [ inl s ↦ inl (ap g s) | inr k ↦ inr (Elem-mapped g ps x k) ]

Elem-unmapped : {X : Type 0} (g : X → List ℕ) (ps : List X) (p : List ℕ) → Elem p (map g ps) → (x : X) × Elem x ps × (g x ≡ p)
Elem-unmapped g [] p e = absurd e
Elem-unmapped g (q ∷ ps) p e = elim e [ inl s ↦ (q, inl refl, s) | inr k ↦ let r = Elem-unmapped g ps p k in (r.0, inr r.1, r.2) ]

eq-one : (a b : ℕ) → nat_eq a b ≡ true → a ≡ b
eq-one a b h = grind (arith, nat_tests)

one-eq : (a b : ℕ) → a ≡ b → nat_eq a b ≡ true
one-eq a b h = grind (arith, nat_tests)

and-left : (a b : Bool) → (a && b) ≡ true → a ≡ true
and-left true b h = refl
and-left false b h = h

and-right : (a b : Bool) → (a && b) ≡ true → b ≡ true
and-right true b h = h
and-right false b h = cc

and-both : (a b : Bool) → a ≡ true → b ≡ true → (a && b) ≡ true
and-both a b h k = ap (λ x. x && b) h ∙ k

prefixes-elem : (l p : List ℕ) → Elem p (prefixes l) → (p ≢ []) × (starts_with nat_eq l p ≡ true)
prefixes-elem [] p e = absurd e
prefixes-elem (a ∷ l) p e =
    elim e [
      | inl s ↦ subst (λ p. (p ≢ []) × (starts_with nat_eq (a ∷ l) p ≡ true)) s ((λ n. cc), and-both _ _ (one-eq a a refl) refl)
      | inr g ↦ let r = Elem-map a (prefixes l) p g in
          subst (λ p. (p ≢ []) × (starts_with nat_eq (a ∷ l) p ≡ true)) r.1 ((λ n. cc), and-both _ _ (one-eq a a refl) (prefixes-elem l r.0 r.2).1)
    ]

prefixes-has : (l p : List ℕ) → p ≢ [] → starts_with nat_eq l p ≡ true → Elem p (prefixes l)
prefixes-has l [] n h = absurd (n refl)
prefixes-has [] (b ∷ p) n h = cc
prefixes-has (a ∷ l) (b ∷ []) n h = inl (ap (λ c. c ∷ []) (sym (eq-one b a (and-left _ _ h))))
prefixes-has (a ∷ l) (b ∷ (c ∷ p)) n h =
    inr (subst (λ z. Elem (z ∷ (c ∷ p)) (map (λ q. a ∷ q) (prefixes l))) (sym (eq-one b a (and-left _ _ h))) (Elem-mapped (λ q. a ∷ q) (prefixes l) (c ∷ p) (prefixes-has l (c ∷ p) (λ e. cc) (and-right _ _ h))))

pub HasPrefix-elem : (xs : List Weighed) (p : List ℕ) → Elem p (flat_map (λ x. prefixes (list_of x)) xs) → (p ≢ []) × HasPrefix xs p
HasPrefix-elem [] p e = absurd e
HasPrefix-elem (x ∷ xs) p e =
    elim (Elem-cases p (prefixes (list_of x)) (flat_map (λ x. prefixes (list_of x)) xs) e) [
      | inl g ↦ let r = prefixes-elem (list_of x) p g in (r.0, inl r.1)
      | inr g ↦ let r = HasPrefix-elem xs p g in (r.0, inr r.1)
    ]

pub HasPrefix-has : (xs : List Weighed) (p : List ℕ) → p ≢ [] → HasPrefix xs p → Elem p (flat_map (λ x. prefixes (list_of x)) xs)
HasPrefix-has [] p n h = h
HasPrefix-has (x ∷ xs) p n h =
    elim h [
      | inl e ↦ Elem-left p (prefixes (list_of x)) (flat_map (λ x. prefixes (list_of x)) xs) (prefixes-has (list_of x) p n e)
      | inr k ↦ Elem-right p (prefixes (list_of x)) (flat_map (λ x. prefixes (list_of x)) xs) (HasPrefix-has xs p n k)
    ]

-- a list that ends in an element
snoc-not-nil : (u : List ℕ) (a : ℕ) → (u ++ a ∷ []) ≢ []
snoc-not-nil [] a h = cc
snoc-not-nil (b ∷ u) a h = cc

snoc-front : (u v : List ℕ) (a b : ℕ) → (u ++ a ∷ []) ≡ (v ++ b ∷ []) → u ≡ v
snoc-front [] [] a b h = refl
snoc-front [] (d ∷ v) a b h = let e : [] ≡ v ++ b ∷ [] = cc in absurd (snoc-not-nil v b (sym e))
snoc-front (c ∷ u) [] a b h = let e : u ++ a ∷ [] ≡ [] = cc in absurd (snoc-not-nil u a e)
snoc-front (c ∷ u) (d ∷ v) a b h = let e : u ++ a ∷ [] ≡ v ++ b ∷ [] = cc in let k = snoc-front u v a b e in cc

link-some : (o : Option ℕ) (s : ℕ) → link o ≡ suc s → o ≡ Some s
link-some None s h = absurd (omega arith)
link-some (Some p) s h = let e : p ≡ s = omega arith in cc

link-none : (o : Option ℕ) → link o ≡ 0 → o ≡ None
link-none None h = refl
link-none (Some p) h = absurd (omega arith)

Pairs-weaker : (R Q : ℕ → ℕ → Type 0) (xs : List ℕ) → Pairs R xs → ((x y : ℕ) → Elem x xs → Elem y xs → R x y → Q x y) → Pairs Q xs
Pairs-weaker R Q [] h f = tt
Pairs-weaker R Q (x ∷ xs) h f =
    (EachOf-of (Q x) xs (λ y e. f x y (inl refl) (inr e) (EachOf-at (R x) xs y h.0 e)), Pairs-weaker R Q xs h.1 (λ y z e g. f y z (inr e) (inr g)))

-- what is out is in order and stands before what is pending, which is in order and apart, and every node is out or pending
pub record Listed (xs : List Weighed) (ks : List (List ℕ)) (rows : List Branch) (out pend : List ℕ) : Type 0 where
  pub first : Pairs (λ r s. node_cmp xs (key ks r) (key ks s) ≡ Less) out
  pub across : (r s : ℕ) → Elem r out → Elem s pend → node_cmp xs (key ks r) (key ks s) ≡ Less
  pub pending : Pairs (λ r s. (node_cmp xs (key ks r) (key ks s) ≡ Less) × Apart (key ks r) (key ks s)) pend
  pub found : (p : List ℕ) → p ≢ [] → HasPrefix xs p → (r : ℕ) × ((Elem r out × (key ks r ≡ p)) ⊎ (Elem r pend × ((q : List ℕ) × (p ≡ key ks r ++ q))))
  pub out_in : (r : ℕ) → Elem r out → r < length rows
  pub pend_in : (r : ℕ) → Elem r pend → r < length rows

not-eqb : (a b : ℕ) → a ≢ b → eqb a b ≡ false
not-eqb a b h = grind (arith, nat_tests)

pub distinct-of : (out : List ℕ) → Pairs (λ a b. a ≢ b) out → IsDistinct eqb out
unfolding IsDistinct
distinct-of [] h = tt
distinct-of (a ∷ out) h = (each out h.0, distinct-of out h.1)
  where
    each : (xs : List ℕ) → EachOf (λ b. a ≢ b) xs → AllByRecursion (λ y. eqb a y ≡ false) xs
    each [] h = tt
    each (x ∷ xs) h = (not-eqb a x h.0, each xs h.1)

pub below-of : (out : List ℕ) (n : ℕ) → ((r : ℕ) → Elem r out → r < n) → (q : ℕ) → list_any (eqb q) out ≡ true → q < n
below-of [] n f q h = absurd (false≢true h)
below-of (a ∷ out) n f q h =
    elim (eqb q a) as (λ b. eqb q a ≡ b → (b || list_any (eqb q) out) ≡ true → q < n) [
      | true ↦ λ e _. f q (inl (sym (eq-one q a e)))
      | false ↦ λ _ k. below-of out n (λ r e. f r (inr e)) q k
    ] refl h

pub antisymm_of : (xs : List Weighed) (p q : List ℕ) → node_cmp xs p q ≡ ordering_reverse (node_cmp xs q p)
antisymm_of xs = path_cmp-antisymm (sibling_cmp xs) (sibling_total xs) (sibling_apart xs) []

pub exact_of : (xs : List Weighed) (p q : List ℕ) → node_cmp xs p q ≡ Equal → p ≡ q
exact_of xs = path_cmp-exact (sibling_cmp xs) (sibling_total xs) (sibling_apart xs) []

pub trans_of : (xs : List Weighed) (p q r : List ℕ) → node_cmp xs p q ≡ Less → node_cmp xs q r ≡ Less → node_cmp xs p r ≡ Less
trans_of xs = path_cmp-trans (sibling_cmp xs) (sibling_total xs) (sibling_apart xs) []

only_less : (o : Ordering) → o ≢ Equal → o ≢ Greater → o ≡ Less
only_less Less h k = refl
only_less Equal h k = absurd (h refl)
only_less Greater h k = absurd (k refl)

module _ (xs : List Weighed) (ks : List (List ℕ)) (rows : List Branch) (f : IsForest xs ks rows) where
  -- children of one node, in order
  kids_in_order : (kids u : List ℕ) → ((c : ℕ) → Elem c kids → (c < length rows) × (key ks c ≡ u ++ (branch rows c).func ∷ [])) → Pairs (λ c d. (c ≢ d) × NotBefore (branch rows d) (branch rows c)) kids → Pairs (λ r s. (node_cmp xs (key ks r) (key ks s) ≡ Less) × Apart (key ks r) (key ks s)) kids
  kids_in_order kids u each ranked =
      Pairs-weaker (λ c d. (c ≢ d) × NotBefore (branch rows d) (branch rows c)) (λ r s. (node_cmp xs (key ks r) (key ks s) ≡ Less) × Apart (key ks r) (key ks s)) kids ranked (λ c d in_c in_d out.
      let a = (branch rows c).func in
      let b = (branch rows d).func in
      let of_c : (branch rows c).total ≡ total_at xs (u ++ a ∷ []) = f.totals c (each c in_c).0 ∙ ap (total_at xs) (each c in_c).1 in
      let of_d : (branch rows d).total ≡ total_at xs (u ++ b ∷ []) = f.totals d (each d in_d).0 ∙ ap (total_at xs) (each d in_d).1 in
      let stands : sibling_cmp xs u a b ≢ Greater = λ k. out.1 (
      ap (λ z. ordering_then (nat_cmp (nat_abs (branch rows d).total) (nat_abs z)) (nat_cmp a b)) of_c
      ∙ ap (λ z. ordering_then (nat_cmp (nat_abs z) (nat_abs (total_at xs (u ++ a ∷ [])))) (nat_cmp a b)) of_d ∙ k) in
      let differ : a ≢ b = λ same. out.0 (f.apart c d (each c in_c).0 (each d in_d).0 ((each c in_c).1 ∙ ap (λ z. u ++ z ∷ []) same ∙ sym (each d in_d).1)) in
      let less : sibling_cmp xs u a b ≡ Less = only_less (sibling_cmp xs u a b) (λ e. differ (sibling_apart xs u a b e)) stands in (
        ap (λ z. node_cmp xs z (key ks d)) (each c in_c).1 ∙ ap (node_cmp xs (u ++ a ∷ [])) (each d in_d).1 ∙ path_cmp-siblings (sibling_cmp xs) (sibling_total xs) (sibling_apart xs) [] u a b less,
        subst (λ z. Apart z (key ks d)) (sym (each c in_c).1) (subst (λ z. Apart (u ++ a ∷ []) z) (sym (each d in_d).1) (Apart-siblings u a b differ)),
      ))

  -- a node of the paths, one step longer than that of `o`, is a child there
  kid_of : (o : Option ℕ) (a : ℕ) → ((p : ℕ) → o ≡ Some p → p < length rows) → HasPrefix xs (key_above ks o ++ a ∷ []) → (c : ℕ) × (c < length rows) × ((branch rows c).parent ≡ o) × (key ks c ≡ key_above ks o ++ a ∷ [])
  kid_of o a in_rows h =
      let w = f.whole (key_above ks o ++ a ∷ []) (snoc-not-nil (key_above ks o) a) h in
      let front : key_above ks (branch rows w.0).parent ≡ key_above ks o = snoc-front (key_above ks (branch rows w.0).parent) (key_above ks o) (branch rows w.0).func a (sym (f.keys w.0 w.1) ∙ w.2) in
      (w.0, w.1, same (branch rows w.0).parent o (λ p. f.above w.0 p w.1) in_rows front, w.2)
    where
      same : (m o : Option ℕ) → ((p : ℕ) → m ≡ Some p → p < length rows) → ((p : ℕ) → o ≡ Some p → p < length rows) → key_above ks m ≡ key_above ks o → m ≡ o
      same None None h k e = refl
      same None (Some p) h k e = absurd (snoc-not-nil _ _ (sym (f.keys p (k p refl)) ∙ sym e))
      same (Some p) None h k e = absurd (snoc-not-nil _ _ (sym (f.keys p (h p refl)) ∙ e))
      same (Some p) (Some q) h k e = let s = f.apart p q (h p refl) (k q refl) e in cc

  key-not-nil : (r : ℕ) → r < length rows → key ks r ≢ []
  key-not-nil r h e = snoc-not-nil _ _ (sym (f.keys r h) ∙ e)

  -- before the first turn
  pub Listed-none : (kids : List ℕ) → AreKids rows 0 kids → Listed xs ks rows [] kids
  Listed-none kids k = record {
    first = tt;
    across = λ r s e g. absurd e;
    pending = kids_in_order kids [] (λ c e. ((k.sound c e).0, f.keys c (k.sound c e).0 ∙ ap (λ o. key_above ks o ++ (branch rows c).func ∷ []) (link-none (branch rows c).parent (k.sound c e).1))) k.ranked;
    found = found;
    out_in = λ r e. absurd e;
    pend_in = λ r e. (k.sound r e).0;
  }
    where
      found : (p : List ℕ) → p ≢ [] → HasPrefix xs p → (r : ℕ) × ((Elem r [] × (key ks r ≡ p)) ⊎ (Elem r kids × ((q : List ℕ) × (p ≡ key ks r ++ q))))
      found [] n h = absurd (n refl)
      found (a ∷ q) n h =
          let c = kid_of None a (λ p e. cc) (HasPrefix-shorter xs (a ∷ []) q h) in
          (c.0, inr (k.whole c.0 c.1 (ap link c.2), (q, ap (λ z. z ++ q) (sym c.3))))

  -- one turn
  pub Listed-more : (out rest kids : List ℕ) (s : ℕ) → AreKids rows (suc s) kids → Listed xs ks rows out (s ∷ rest) → Listed xs ks rows (out ++ s ∷ []) (kids ++ rest)
  Listed-more out rest kids s k l =
      let in_s : s < length rows = l.pend_in s (inl refl) in
      let each : (c : ℕ) → Elem c kids → (c < length rows) × (key ks c ≡ key ks s ++ (branch rows c).func ∷ []) = λ c e. ((k.sound c e).0, f.keys c (k.sound c e).0 ∙ ap (λ o. key_above ks o ++ (branch rows c).func ∷ []) (link-some (branch rows c).parent s (k.sound c e).1)) in
      record {
        first = Pairs-append (λ r s. node_cmp xs (key ks r) (key ks s) ≡ Less) out (s ∷ []) l.first (tt, tt) (λ x y e g. elim g [ inl t ↦ subst (λ z. node_cmp xs (key ks x) (key ks z) ≡ Less) t (l.across x s e (inl refl)) | inr t ↦ absurd t ]);
        across = λ r t e g. elim (Elem-cases r out (s ∷ []) e) [
          | inl o ↦ elim (Elem-cases t kids rest g) [
            | inl c ↦ ap (node_cmp xs (key ks r)) (each t c).1 ∙ path_cmp-right (sibling_cmp xs) (sibling_total xs) (sibling_apart xs) [] (key ks r) (key ks s) ((branch rows t).func ∷ []) (l.across r s o (inl refl))
            | inr c ↦ l.across r t o (inr c)
          ]
          | inr o ↦ elim o [
            | inl same ↦ subst (λ z. node_cmp xs (key ks z) (key ks t) ≡ Less) same (elim (Elem-cases t kids rest g) as (λ _. node_cmp xs (key ks s) (key ks t) ≡ Less) [
              | inl c ↦ ap (node_cmp xs (key ks s)) (each t c).1 ∙ path_cmp-longer (sibling_cmp xs) (sibling_total xs) (sibling_apart xs) [] (key ks s) [] (branch rows t).func
              | inr c ↦ (EachOf-at (λ z. (node_cmp xs (key ks s) (key ks z) ≡ Less) × Apart (key ks s) (key ks z)) rest t l.pending.0 c).0
            ])
            | inr none ↦ absurd none
          ]
        ];
        pending = Pairs-append (λ r s. (node_cmp xs (key ks r) (key ks s) ≡ Less) × Apart (key ks r) (key ks s)) kids rest (kids_in_order kids (key ks s) each k.ranked) l.pending.1 (λ c t e g.
            let stands = EachOf-at (λ z. (node_cmp xs (key ks s) (key ks z) ≡ Less) × Apart (key ks s) (key ks z)) rest t l.pending.0 g in (
              ap (λ z. node_cmp xs z (key ks t)) (each c e).1 ∙ path_cmp-left (sibling_cmp xs) (sibling_apart xs) [] (key ks s) (key ks t) ((branch rows c).func ∷ []) stands.1 stands.0,
              subst (λ z. Apart z (key ks t)) (sym (each c e).1) (Apart-left (key ks s) (key ks t) ((branch rows c).func ∷ []) stands.1),
            ));
        found = λ p n h. found p n h (l.found p n h);
        out_in = λ r e. elim (Elem-cases r out (s ∷ []) e) [ inl o ↦ l.out_in r o | inr o ↦ elim o [ inl same ↦ subst (λ z. z < length rows) same in_s | inr none ↦ absurd none ] ];
        pend_in = λ r e. elim (Elem-cases r kids rest e) [ inl c ↦ (k.sound r c).0 | inr c ↦ l.pend_in r (inr c) ];
      }
    where
      below : (p q : List ℕ) (r : ℕ) → s ≡ r → s < length rows → HasPrefix xs p → p ≡ key ks r ++ q → (r : ℕ) × ((Elem r (out ++ s ∷ []) × (key ks r ≡ p)) ⊎ (Elem r (kids ++ rest) × ((q : List ℕ) × (p ≡ key ks r ++ q))))
      below p [] r same in_s h e = (s, inl (Elem-right s out (s ∷ []) (inl refl), ap (key ks) same ∙ sym (append_nil (key ks r)) ∙ sym e))
        where
          append_nil : (v : List ℕ) → v ++ [] ≡ v
          append_nil [] = refl
          append_nil (c ∷ v) = ap (λ w. c ∷ w) (append_nil v)
      below p (a ∷ q) r same in_s h e =
          let longer : p ≡ (key ks s ++ a ∷ []) ++ q = e ∙ ap (λ z. key ks z ++ a ∷ q) (sym same) ∙ sym (append_assoc (key ks s) (a ∷ []) q) in
          let c = kid_of (Some s) a (λ p e. (let t : s ≡ p = cc in subst (λ z. z < length rows) t in_s)) (HasPrefix-shorter xs (key ks s ++ a ∷ []) q (subst (HasPrefix xs) longer h)) in
          (c.0, inr (Elem-left c.0 kids rest (k.whole c.0 c.1 (ap link c.2)), (q, longer ∙ ap (λ z. z ++ q) (sym c.3))))

      found : (p : List ℕ) → p ≢ [] → HasPrefix xs p → (r : ℕ) × ((Elem r out × (key ks r ≡ p)) ⊎ (Elem r (s ∷ rest) × ((q : List ℕ) × (p ≡ key ks r ++ q)))) → (r : ℕ) × ((Elem r (out ++ s ∷ []) × (key ks r ≡ p)) ⊎ (Elem r (kids ++ rest) × ((q : List ℕ) × (p ≡ key ks r ++ q))))
      found p n h w = elim w.1 [
        | inl o ↦ (w.0, inl (Elem-left w.0 out (s ∷ []) o.0, o.1))
        | inr o ↦ elim o.0 [
          | inl same ↦ below p o.1.0 w.0 same (l.pend_in s (inl refl)) h o.1.1
          | inr m ↦ (w.0, inr (Elem-right w.0 kids rest m, o.1))
        ]
      ]

  Ordered-keys : (out : List ℕ) → Pairs (λ r s. node_cmp xs (key ks r) (key ks s) ≡ Less) out → Ordered (node_cmp xs) (map (key ks) out)
  Ordered-keys [] h = tt
  Ordered-keys (r ∷ out) h =
      (EachOf-of (λ y. node_cmp xs (key ks r) y ≡ Less) (map (key ks) out) (λ p e. (let w = Elem-unmapped (key ks) out p e in subst (λ y. node_cmp xs (key ks r) y ≡ Less) w.2 (EachOf-at (λ s. node_cmp xs (key ks r) (key ks s) ≡ Less) out w.0 h.0 w.1))), Ordered-keys out h.1)

  abbrev all : List (List ℕ)
  all = flat_map (λ x. prefixes (list_of x)) xs

  antisymm : (p q : List ℕ) → node_cmp xs p q ≡ ordering_reverse (node_cmp xs q p)
  antisymm = path_cmp-antisymm (sibling_cmp xs) (sibling_total xs) (sibling_apart xs) []

  exact : (p q : List ℕ) → node_cmp xs p q ≡ Equal → p ≡ q
  exact = path_cmp-exact (sibling_cmp xs) (sibling_total xs) (sibling_apart xs) []

  trans : (p q r : List ℕ) → node_cmp xs p q ≡ Less → node_cmp xs q r ≡ Less → node_cmp xs p r ≡ Less
  trans = path_cmp-trans (sibling_cmp xs) (sibling_total xs) (sibling_apart xs) []

  -- after the last turn
  pub Listed-all : (out : List ℕ) → Listed xs ks rows out [] → map (key ks) out ≡ keys_of xs
  Listed-all out l =
      same_ordered (node_cmp xs) antisymm exact trans (map (key ks) out) (keys_of xs) (Ordered-keys out l.first) (in_order-ordered (node_cmp xs) antisymm exact trans all)
      (λ p e. (let w = Elem-unmapped (key ks) out p e in in_order-has (node_cmp xs) antisymm exact trans all p (subst (λ p. Elem p all) w.2 (HasPrefix-has xs (key ks w.0) (key-not-nil w.0 (l.out_in w.0 w.1)) (f.in_paths w.0 (l.out_in w.0 w.1))))))
      (λ p e. (let h = HasPrefix-elem xs p (in_order-elem (node_cmp xs) antisymm exact trans all p e) in let w = l.found p h.0 h.1 in elim w.1 [
        | inl o ↦ subst (λ z. Elem z (map (key ks) out)) o.1 (Elem-mapped (key ks) out w.0 o.0)
        | inr o ↦ absurd o.0
      ]))

  not_itself : (p : List ℕ) → node_cmp xs p p ≡ Less → ⊥
  not_itself p h = let e : Less ≡ Greater = sym h ∙ antisymm p p ∙ ap ordering_reverse h in cc

  -- a row that is pending leaves room for it in what is out
  pub room : (out rest : List ℕ) (s : ℕ) → Listed xs ks rows out (s ∷ rest) → length out < length rows
  room out rest s l =
      let few = length-le_from_distinct_below (s ∷ out) (length rows) (distinct-of (s ∷ out) (
        EachOf-of (λ b. s ≢ b) out (λ r e same. not_itself (key ks s) (subst (λ z. node_cmp xs (key ks z) (key ks s) ≡ Less) (sym same) (l.across r s e (inl refl)))),
        Pairs-weaker (λ r s. node_cmp xs (key ks r) (key ks s) ≡ Less) (λ a b. a ≢ b) out l.first (λ a b _ _ h same. not_itself (key ks a) (subst (λ z. node_cmp xs (key ks a) (key ks z) ≡ Less) (sym same) h)),
      ))
      (below-of (s ∷ out) (length rows) (λ r e. elim e [ inl same ↦ subst (λ z. z < length rows) same (l.pend_in s (inl refl)) | inr o ↦ l.out_in r o ])) in
      omega arith

  -- what is out are rows, each once
  pub few_out : (out pend : List ℕ) → Listed xs ks rows out pend → length out ≤ length rows
  few_out out pend l =
      length-le_from_distinct_below out (length rows) (distinct-of out (Pairs-weaker (λ r s. node_cmp xs (key ks r) (key ks s) ≡ Less) (λ a b. a ≢ b) out l.first (λ a b _ _ h same. not_itself (key ks a) (subst (λ z. node_cmp xs (key ks a) (key ks z) ≡ Less) (sym same) h))))
      (below-of out (length rows) l.out_in)

-- the stack holds the first of each chain that is pending
abbrev pub Stacked : List (Option ℕ) → List ℕ → List ℕ → Type 0
Stacked next [] pend = pend ≡ []
Stacked next (r ∷ stack) pend = (l : List ℕ) × (rest : List ℕ) × IsChain next (Some r) l × Stacked next stack rest × (pend ≡ l ++ rest)

stacked_more : (next : List (Option ℕ)) (o : Option ℕ) (l stack pend : List ℕ) → IsChain next o l → Stacked next stack pend → Stacked next (option_to_list o ++ stack) (l ++ pend)
stacked_more next None [] stack pend h k = k
stacked_more next None (r ∷ l) stack pend h k = let e = h.0 in cc
stacked_more next (Some r) l stack pend h k = (l, pend, h, k, refl)

reversed_one : (o : Option ℕ) (mid : List ℕ) → reverse (mid ++ option_to_list o) ≡ option_to_list o ++ reverse mid
reversed_one None mid = ap reverse (append_nil mid)
  where
    append_nil : (v : List ℕ) → v ++ [] ≡ v
    append_nil [] = refl
    append_nil (c ∷ v) = ap (λ w. c ∷ w) (append_nil v)
reversed_one (Some r) mid = reverse-append mid (r ∷ [])

-- a chain goes on the stack
pub stacked_pushed : (next : List (Option ℕ)) (o : Option ℕ) (l stack stack' pend : List ℕ) → stack' ≡ stack ++ option_to_list o → IsChain next o l → Stacked next (reverse stack) pend → Stacked next (reverse stack') (l ++ pend)
stacked_pushed next o l stack stack' pend e h k = subst (λ z. Stacked next z (l ++ pend)) (sym (ap reverse e ∙ reversed_one o stack)) (stacked_more next o l (reverse stack) pend h k)

-- what is out and what is pending, in the chains of the stack
pub record Pending (rows : List Branch) (next : List (Option ℕ)) (out stack : List ℕ) : Type 0 where
  pub pend : List ℕ
  pub stacked : Stacked next (reverse stack) pend
  pub listed : (xs : List Weighed) (ks : List (List ℕ)) → IsForest xs ks rows → Listed xs ks rows out pend

-- the chains of the roots, before the first turn
pub Pending-none : (rows : List Branch) (first next : List (Option ℕ)) (o : Option ℕ) (out stack empty : List ℕ) → HasChildren rows first next → o ≡ get_or first 0 None → out ≡ [] → empty ≡ [] → stack ≡ empty ++ option_to_list o → Pending rows next out stack
Pending-none rows first next o out stack empty h is e n s =
    let w = h.each 0 (omega (arith, h.len)) in
    record {
      pend = w.0 ++ [];
      stacked = stacked_pushed next o w.0 empty stack [] s (subst (λ z. IsChain next z w.0) (sym is) w.1) (subst (λ z. Stacked next (reverse z) []) (sym n) refl);
      listed = λ xs ks f. subst (λ z. Listed xs ks rows z (w.0 ++ [])) (sym e) (subst (Listed xs ks rows []) (sym (append_nil w.0)) (Listed-none xs ks rows f w.0 w.2));
    }
  where
    append_nil : (v : List ℕ) → v ++ [] ≡ v
    append_nil [] = refl
    append_nil (c ∷ v) = ap (λ w. c ∷ w) (append_nil v)

-- the row on top of the stack, the siblings after it, and what else is pending
popped : (rows : List Branch) (next : List (Option ℕ)) (out stack mid : List ℕ) (r : ℕ) → stack ≡ mid ++ r ∷ [] → (k : Pending rows next out stack) → (l : List ℕ) × (rest : List ℕ) × IsChain next (get_or next r None) l × Stacked next (reverse mid) rest × (k.pend ≡ r ∷ (l ++ rest))
popped rows next out stack mid r e k = at (subst (λ z. Stacked next z k.pend) (ap reverse e ∙ reverse-append mid (r ∷ [])) k.stacked)
  where
    at : Stacked next (r ∷ reverse mid) k.pend → (l : List ℕ) × (rest : List ℕ) × IsChain next (get_or next r None) l × Stacked next (reverse mid) rest × (k.pend ≡ r ∷ (l ++ rest))
    at w = go w.0 w.2 w.4
      where
        go : (l : List ℕ) → IsChain next (Some r) l → k.pend ≡ l ++ w.1 → (l : List ℕ) × (rest : List ℕ) × IsChain next (get_or next r None) l × Stacked next (reverse mid) rest × (k.pend ≡ r ∷ (l ++ rest))
        go [] h e = cc
        go (q ∷ l) h e = let s : r ≡ q = (let f = h.0 in cc) in (l, w.1, subst (λ z. IsChain next (get_or next z None) l) (sym s) h.1, w.3, e ∙ ap (λ z. z ∷ (l ++ w.1)) (sym s))

-- one turn takes the row on top, and puts the siblings after it and then its children there
pub Pending-more : (rows : List Branch) (first next : List (Option ℕ)) (out out' stack mid stack1 stack2 : List ℕ) (sibling child : Option ℕ) (r : ℕ) → HasForest rows → HasChildren rows first next → stack ≡ mid ++ r ∷ [] → out' ≡ out ++ r ∷ []
    → sibling ≡ get_or next r None → child ≡ get_or first (r + 1) None → stack1 ≡ mid ++ option_to_list sibling → stack2 ≡ stack1 ++ option_to_list child → Pending rows next out stack → Pending rows next out' stack2
Pending-more rows first next out out' stack mid stack1 stack2 sibling child r f h e o is_next is_first s1 s2 k =
    let p = popped rows next out stack mid r e k in
    let l = p.0 in
    let rest = p.1 in
    let in_rows : r < length rows = (subst (λ z. Listed f.0 f.1 rows out z) p.4 (k.listed f.0 f.1 f.2)).pend_in r (inl refl) in
    let w = h.each (r + 1) (omega (arith, h.len)) in
    record {
      pend = w.0 ++ (l ++ rest);
      stacked = stacked_pushed next child w.0 stack1 stack2 (l ++ rest) s2 (subst (λ z. IsChain next z w.0) (sym is_first) w.1)
          (stacked_pushed next sibling l mid stack1 rest s1 (subst (λ z. IsChain next z l) (sym is_next) p.2) p.3);
      listed = λ xs ks g. subst (λ z. Listed xs ks rows z (w.0 ++ (l ++ rest))) (sym o)
          (Listed-more xs ks rows g out (l ++ rest) w.0 r (subst (λ z. AreKids rows z w.0) (add-one r) w.2) (subst (Listed xs ks rows out) p.4 (k.listed xs ks g)));
    }

-- the row on top is one of the rows
pub top_in : (rows : List Branch) (next : List (Option ℕ)) (out stack mid : List ℕ) (r : ℕ) → HasForest rows → stack ≡ mid ++ r ∷ [] → Pending rows next out stack → r < length rows
top_in rows next out stack mid r f e k = (subst (λ z. Listed f.0 f.1 rows out z) (popped rows next out stack mid r e k).4 (k.listed f.0 f.1 f.2)).pend_in r (inl refl)

-- and there is room for it in what is out
pub top_room : (rows : List Branch) (next : List (Option ℕ)) (out stack mid : List ℕ) (r : ℕ) → HasForest rows → stack ≡ mid ++ r ∷ [] → Pending rows next out stack → length out < length rows
top_room rows next out stack mid r f e k = let p = popped rows next out stack mid r e k in room f.0 f.1 rows f.2 out (p.0 ++ p.1) r (subst (λ z. Listed f.0 f.1 rows out z) p.4 (k.listed f.0 f.1 f.2))

-- with an empty stack nothing is pending
pub Pending-all : (rows : List Branch) (next : List (Option ℕ)) (out stack : List ℕ) → stack ≡ [] → Pending rows next out stack → (xs : List Weighed) (ks : List (List ℕ)) → IsForest xs ks rows → map (key ks) out ≡ keys_of xs
Pending-all rows next out stack e k xs ks f =
    let none : k.pend ≡ [] = subst (λ z. Stacked next (reverse z) k.pend) e k.stacked in
    Listed-all xs ks rows f out (subst (Listed xs ks rows out) none (k.listed xs ks f))

pub none_popped : (o : Option ℕ) (stack mid : Vec ℕ Global) → ((x : ℕ) → o ≡ Some x → ⊥) → MatchOption o ((vec_len stack ≡ 0) × (vec_len mid ≡ 0)) (λ _. vec_len mid + 1 ≡ vec_len stack) → stack.items ≡ []
none_popped (Some x) stack mid n h = absurd (n x refl)
none_popped None stack mid n h = empty stack.items (omega (arith, h.0, stack.ok.0))
  where
    empty : (xs : List ℕ) → length xs ≡ 0 → xs ≡ []
    empty [] e = refl
    empty (x ∷ xs) e = absurd (omega arith)
