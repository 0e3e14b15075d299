-- Chains of siblings: their rows by parents, and then in order
use Rattle.std.proofs.Common.{◌≡◌, ◌≢◌, ℕ, zero, suc, ◌+◌, ◌<◌, ◌≤◌, Bool, true, false, nat_abs, eqb, List, [], ◌∷◌, ◌++◌, length, map, reverse, take, get_or, set, get_or-set_same, get_or-set_other, Option, Some, None, is_some, replicate, inl, inr, sym, ap, ◌∙◌, subst, refl, append_assoc, length-append, arith}
use Rattle.std.specs.List.{IsDistinct, AllByRecursion, Contains}
use Rattle.std.specs.Ordering.{ordering_then, ordering_reverse, nat_cmp, is_lt}
use Rattle.std.specs.declared.cmp.Ordering.{Ordering}
use Rattle.std.specs.declared.cmp.Ordering.TheVariants.{Less, Equal, Greater}
use Rattle.std.specs.List.Sorted.{IsPermutation, IsSorted}
use Rattle.std.specs.Cmp.{IsTotalOrder}
use Rattle.std.proofs.lemmas.Cmp.{nat_cmp_total, on_total, then_total, back_total}
use Rattle.std.proofs.lemmas.List.Sorted.{sorted_far, ranks_by, Contains-permutation, IsPermutation-sym}
use Rattle.std.proofs.lemmas.List.{reverse-append, map-append, length-map, length-set, map_more}
use Rattle.std.proofs.lemmas.Map.Steps.{length-le_from_distinct_below}
use Rattle.std.proofs.lemmas.Map.Keys.{IsDistinct-IsPermutation}
use Rattle.std.proofs.lemmas.Bool.Decides.{nat_tests}
use Rattle.std.proofs.lemmas.Bool.{false≢true}
use Rattle.prof_tree.specs.declared.branch.Branch.{Branch}
use Rattle.prof_tree.specs.declared.listing.Rank.{Rank}
use Rattle.prof_tree.specs.Forest.{Elem, EachOf, Pairs, branch, link, NotBefore, AreKids, HasForest, IsChain, HasChildren}
use Rattle.prof_tree.specs.Ranks.{rank_at, rank_cmp, rows_of, EachOnce, HasChain, AreRanked, AreSiblings, HasSiblings}
use Rattle.prof_tree.proofs.Order.{EachOf-at, EachOf-of, Elem-left, Elem-right, Elem-cases}
use Rattle.prof_tree.proofs.NodeOrder.{Pairs-append}
use Rattle.prof_tree.proofs.Steps.{distinct-of, below-of}

module _ {K : Type 0} where
  pub Elem-contains : (xs : List K) (x : K) → Contains xs x → Elem x xs
  Elem-contains xs x c = at xs c.0 c.1 c.2
    where
      at : (xs : List K) (k : ℕ) → k < length xs → get_or xs k x ≡ x → Elem x xs
      at [] k h e = absurd (omega arith)
      at (y ∷ xs) zero h e = inl e
      at (y ∷ xs) (suc k) h e = inr (at xs k (omega arith) e)

  pub contains-Elem : (xs : List K) (x : K) → Elem x xs → Contains xs x
  contains-Elem [] x e = absurd e
  contains-Elem (y ∷ xs) x e = elim e [ inl s ↦ (0, omega arith, s) | inr f ↦ let c = contains-Elem xs x f in (suc c.0, omega (arith, c.1), c.2) ]

  pub Pairs-of : (R : K → K → Type 0) (xs : List K) → ((i j : ℕ) (d : K) → i < j → j < length xs → R (get_or xs i d) (get_or xs j d)) → Pairs R xs
  Pairs-of R [] f = tt
  Pairs-of R (x ∷ xs) f = (each x xs (λ j d h. f 0 (suc j) d (omega arith) (omega arith)), Pairs-of R xs (λ i j d h k. f (suc i) (suc j) d (omega arith) (omega arith)))
    where
      each : (x : K) (ys : List K) → ((j : ℕ) (d : K) → j < length ys → R x (get_or ys j d)) → EachOf (R x) ys
      each x [] g = tt
      each x (y ∷ ys) g = (g 0 y (omega arith), each x ys (λ j d h. g (suc j) d (omega arith)))

  pub Pairs-both : (R Q : K → K → Type 0) (xs : List K) → Pairs R xs → Pairs Q xs → Pairs (λ x y. R x y × Q x y) xs
  Pairs-both R Q [] h k = tt
  Pairs-both R Q (x ∷ xs) h k = (EachOf-of (λ y. R x y × Q x y) xs (λ y e. (EachOf-at (R x) xs y h.0 e, EachOf-at (Q x) xs y k.0 e)), Pairs-both R Q xs h.1 k.1)

  pub Pairs-first : (R Q : K → K → Type 0) (xs : List K) → Pairs (λ x y. R x y × Q x y) xs → Pairs R xs
  Pairs-first R Q [] h = tt
  Pairs-first R Q (x ∷ xs) h = (EachOf-of (R x) xs (λ y e. (EachOf-at (λ y. R x y × Q x y) xs y h.0 e).0), Pairs-first R Q xs h.1)

  pub Elem-reverse : (x : K) (xs : List K) → Elem x xs → Elem x (reverse xs)
  Elem-reverse x [] e = e
  Elem-reverse x (y ∷ xs) e = subst (Elem x) (sym (reverse-append (y ∷ []) xs)) (elim e as (λ _. Elem x (reverse xs ++ y ∷ [])) [ inl s ↦ Elem-right x (reverse xs) (y ∷ []) (inl s) | inr f ↦ Elem-left x (reverse xs) (y ∷ []) (Elem-reverse x xs f) ])

  pub Elem-reversed : (x : K) (xs : List K) → Elem x (reverse xs) → Elem x xs
  Elem-reversed x [] e = e
  Elem-reversed x (y ∷ xs) e = elim (Elem-cases x (reverse xs) (y ∷ []) (subst (Elem x) (reverse-append (y ∷ []) xs) e)) [ inl f ↦ inr (Elem-reversed x xs f) | inr f ↦ elim f [ inl s ↦ inl s | inr n ↦ absurd n ] ]

  pub Pairs-reverse : (R : K → K → Type 0) (xs : List K) → Pairs (λ x y. R y x) xs → Pairs R (reverse xs)
  Pairs-reverse R [] h = tt
  Pairs-reverse R (x ∷ xs) h = subst (Pairs R) (sym (reverse-append (x ∷ []) xs)) (Pairs-append R (reverse xs) (x ∷ []) (Pairs-reverse R xs h.1) (tt, tt) (λ y z e f. elim f [ inl s ↦ subst (R y) s (EachOf-at (λ y. R y x) xs y h.0 (Elem-reversed y xs e)) | inr n ↦ absurd n ]))

rank_total : IsTotalOrder rank_cmp
rank_total = then_total (on_total (λ (r : Rank). r.size) nat_cmp_total) (then_total (back_total (on_total (λ (r : Rank). r.func.0) nat_cmp_total)) (on_total (λ (r : Rank). r.row) nat_cmp_total))

row_eq : Rank → Rank → Bool
row_eq x y = eqb x.row y.row

row_flips : (x y : Rank) → row_eq x y ≡ row_eq y x
unfolding row_eq
row_flips x y = grind (arith, nat_tests)

distinct_ranks : (rows : List Branch) (l : List ℕ) → EachOnce l → IsDistinct row_eq (map (rank_at rows) l)
unfolding IsDistinct row_eq
distinct_ranks rows [] h = tt
distinct_ranks rows (a ∷ l) h = (each a l h.0, distinct_ranks rows l h.1)
  where
    each : (a : ℕ) (l : List ℕ) → EachOf (λ b. a ≢ b) l → AllByRecursion (λ (y : Rank). eqb a y.row ≡ false) (map (rank_at rows) l)
    each a [] h = tt
    each a (b ∷ l) h = ((let n : a ≢ b = h.0 in grind (arith, nat_tests)), each a l h.1)

distinct_pairs : (rs : List Rank) → IsDistinct row_eq rs → Pairs (λ (x y : Rank). x.row ≢ y.row) rs
unfolding IsDistinct row_eq
distinct_pairs [] h = tt
distinct_pairs (r ∷ rs) h = (each r rs h.0, distinct_pairs rs h.1)
  where
    each : (r : Rank) (xs : List Rank) → AllByRecursion (λ (y : Rank). eqb r.row y.row ≡ false) xs → EachOf (λ (y : Rank). r.row ≢ y.row) xs
    each r [] h = tt
    each r (x ∷ xs) h = ((λ s. absurd (false≢true (sym h.0 ∙ (let t : eqb r.row x.row ≡ true = grind (arith, nat_tests) in t)))), each r xs h.1)

not_greater : (o p q : Ordering) → is_lt (ordering_reverse (ordering_then o (ordering_then p q))) ≡ false → ordering_then o p ≢ Greater
not_greater Less p q h e = cc
not_greater Equal Less q h e = cc
not_greater Equal Equal q h e = cc
not_greater Equal Greater q h e = cc
not_greater Greater p q h e = cc

same_number : (a b : ℕ) → eqb a b ≡ true → a ≡ b
same_number a b h = grind (arith, nat_tests)

number_same : (a b : ℕ) → a ≡ b → eqb a b ≡ true
number_same a b h = grind (arith, nat_tests)

module _ {X : Type 0} (f : X → ℕ) where
  mapped-elem : (xs : List X) (x : X) → Elem x xs → Elem (f x) (map f xs)
  mapped-elem [] x e = absurd e
  mapped-elem (y ∷ xs) x e = elim e [ inl s ↦ inl (ap f s) | inr g ↦ inr (mapped-elem xs x g) ]

  elem-mapped : (xs : List X) (c : ℕ) → Elem c (map f xs) → (x : X) × Elem x xs × (f x ≡ c)
  elem-mapped [] c e = absurd e
  elem-mapped (y ∷ xs) c e = elim e [ inl s ↦ (y, inl refl, s) | inr g ↦ let w = elem-mapped xs c g in (w.0, inr w.1, w.2) ]

  mapped-pairs : (R : ℕ → ℕ → Type 0) (xs : List X) → Pairs (λ x y. R (f x) (f y)) xs → Pairs R (map f xs)
  mapped-pairs R [] h = tt
  mapped-pairs R (x ∷ xs) h = (EachOf-of (R (f x)) (map f xs) (λ c e. (let w = elem-mapped xs c e in subst (R (f x)) w.2 (EachOf-at (λ y. R (f x) (f y)) xs w.0 h.0 w.1))), mapped-pairs R xs h.1)

  mapped-at : (xs : List X) (i : ℕ) (d : X) → i < length xs → Elem (f (get_or xs i d)) (map f xs)
  mapped-at [] i d h = absurd (omega arith)
  mapped-at (x ∷ xs) zero d h = inl refl
  mapped-at (x ∷ xs) (suc i) d h = inr (mapped-at xs i d (omega arith))

  -- what stands at a place doesn't stand before it
  mapped-once : (xs : List X) (i : ℕ) (d : X) → EachOnce (map f xs) → i < length xs → Elem (f (get_or xs i d)) (map f (take i xs)) → ⊥
  mapped-once [] i d h lt e = absurd (omega arith)
  mapped-once (x ∷ xs) zero d h lt e = absurd e
  mapped-once (x ∷ xs) (suc i) d h lt e =
      elim e [
        | inl s ↦ EachOf-at (λ c. f x ≢ c) (map f xs) (f (get_or xs i d)) h.0 (mapped-at xs i d (omega arith)) s
        | inr g ↦ mapped-once xs i d h.1 (omega arith) g
      ]

-- a chain is one list
pub chain-some : (next : List (Option ℕ)) (o : Option ℕ) (row : ℕ) (l : List ℕ) → o ≡ Some row → IsChain next o l → (rest : List ℕ) × (l ≡ row ∷ rest) × IsChain next (get_or next row None) rest
chain-some next o row [] e h = cc
chain-some next o row (r ∷ l) e h = let s : r ≡ row = (let f = h.0 in cc) in (l, ap (λ z. z ∷ l) s, subst (λ z. IsChain next (get_or next z None) l) s h.1)

pub chain-nothing : (next : List (Option ℕ)) (o : Option ℕ) (l : List ℕ) → o ≡ None → IsChain next o l → l ≡ []
chain-nothing next o [] e h = refl
chain-nothing next o (r ∷ l) e h = let f = h.0 in cc

pub chain-one : (next : List (Option ℕ)) (row : ℕ) (l : List ℕ) → get_or next row None ≡ None → IsChain next (Some row) l → l ≡ row ∷ []
chain-one next row l e h = let w = chain-some next (Some row) row l refl h in w.1 ∙ ap (λ z. row ∷ z) (chain-nothing next (get_or next row None) w.0 e w.2)

chain-kept : (next next' : List (Option ℕ)) (o : Option ℕ) (l : List ℕ) → ((row : ℕ) → Elem row l → get_or next' row None ≡ get_or next row None) → IsChain next o l → IsChain next' o l
chain-kept next next' o [] f h = h
chain-kept next next' o (r ∷ l) f h = (h.0, subst (λ z. IsChain next' z l) (sym (f r (inl refl))) (chain-kept next next' (get_or next r None) l (λ row e. f row (inr e)) h.1))

-- a write at a row that is not in a chain leaves the chain
chain-set : (next : List (Option ℕ)) (row : ℕ) (v o : Option ℕ) (l : List ℕ) → (Elem row l → ⊥) → IsChain next o l → IsChain (set next row v) o l
chain-set next row v o l n = chain-kept next (set next row v) o l (λ r e. get_or-set_other next row r v None (λ s. n (subst (λ z. Elem z l) s e)))

pub chain-same : (next : List (Option ℕ)) (o : Option ℕ) (l k : List ℕ) → IsChain next o l → IsChain next o k → l ≡ k
chain-same next o [] k h g = sym (chain-nothing next o k h g)
chain-same next o (r ∷ l) k h g = let w = chain-some next o r k h.0 g in ap (λ z. r ∷ z) (chain-same next (get_or next r None) l w.0 h.1 w.2) ∙ sym w.1

pub top-in : (n : ℕ) (next : List (Option ℕ)) (head : Option ℕ) (row : ℕ) → HasChain n next head → head ≡ Some row → row < n
top-in n next head row h e = let w = chain-some next head row h.0 e h.1 in EachOf-at (λ row. row < n) h.0 row h.2 (subst (Elem row) (sym w.1) (inl refl))

pub nothing-is : (o : Option ℕ) → ((x : ℕ) → o ≡ Some x → ⊥) → o ≡ None
nothing-is None n = refl
nothing-is (Some x) n = absurd (n x refl)

pub none-is : (o : Option ℕ) (b : Bool) → b ≡ is_some o → b ≡ false → o ≡ None
none-is None b e f = refl
none-is (Some x) b e f = absurd (false≢true (sym f ∙ e))

pub longer : {X : Type 0} (xs ys : List X) (x : X) → ys ≡ xs ++ x ∷ [] → length ys ≡ length xs + 1
longer xs ys x e = ap length e ∙ length-append xs (x ∷ [])

-- a chain as far as it was taken
abbrev pub Taken : List Branch → List (Option ℕ) → Option ℕ → Option ℕ → List Rank → Type 0
Taken rows next head at ranks = (l : List ℕ) → IsChain next head l → (taken : List ℕ) × (rest : List ℕ) × (l ≡ taken ++ rest) × IsChain next at rest × (ranks ≡ map (rank_at rows) taken)

pub taken-none : (rows : List Branch) (next : List (Option ℕ)) (head : Option ℕ) (ranks : List Rank) → ranks ≡ [] → Taken rows next head head ranks
taken-none rows next head ranks e = λ l h. ([], l, refl, h, e)

pub taken-in : (rows : List Branch) (n : ℕ) (next : List (Option ℕ)) (head at : Option ℕ) (ranks : List Rank) (row : ℕ) → HasChain n next head → Taken rows next head at ranks → at ≡ Some row → (row < n) × (length ranks < n)
taken-in rows n next head at ranks row h k e =
    let w = k h.0 h.1 in
    let s = chain-some next at row w.1 e w.3 in
    let all : h.0 ≡ w.0 ++ row ∷ s.0 = w.2 ∙ ap (λ z. w.0 ++ z) s.1 in
    let few : length h.0 ≤ n = length-le_from_distinct_below h.0 n (distinct-of h.0 h.3) (below-of h.0 n (λ r e. EachOf-at (λ row. row < n) h.0 r h.2 e)) in
    let long : length h.0 ≡ length w.0 + length (row ∷ s.0) = ap length all ∙ length-append w.0 (row ∷ s.0) in
    let same : length ranks ≡ length w.0 = ap length w.4 ∙ length-map w.0 (rank_at rows) in
    (EachOf-at (λ row. row < n) h.0 row h.2 (subst (Elem row) (sym all) (Elem-right row w.0 (row ∷ s.0) (inl refl))), omega (arith, few, long, same))

pub taken-more : (rows : List Branch) (next : List (Option ℕ)) (head at : Option ℕ) (ranks ranks' : List Rank) (row : ℕ) → Taken rows next head at ranks → at ≡ Some row → ranks' ≡ ranks ++ rank_at rows row ∷ [] → Taken rows next head (get_or next row None) ranks'
taken-more rows next head at ranks ranks' row k e more = λ l h.
    let w = k l h in
    let s = chain-some next at row w.1 e w.3 in
    (w.0 ++ row ∷ [], s.0, w.2 ∙ ap (λ z. w.0 ++ z) s.1 ∙ sym (append_assoc w.0 (row ∷ []) s.0), s.2, more ∙ ap (λ z. z ++ rank_at rows row ∷ []) w.4 ∙ sym (map-append (rank_at rows) w.0 (row ∷ [])))

pub taken-all : (rows : List Branch) (next : List (Option ℕ)) (head at : Option ℕ) (ranks : List Rank) → Taken rows next head at ranks → at ≡ None → (l : List ℕ) → IsChain next head l → ranks ≡ map (rank_at rows) l
taken-all rows next head at ranks k e l h =
    let w = k l h in
    w.4 ∙ ap (map (rank_at rows)) (sym (w.2 ∙ ap (λ z. w.0 ++ z) (chain-nothing next at w.1 e w.3) ∙ append_nil w.0))
  where
    append_nil : (v : List ℕ) → v ++ [] ≡ v
    append_nil [] = refl
    append_nil (c ∷ v) = ap (λ w. c ∷ w) (append_nil v)

-- the rows of ranks become a chain, the last first
pub place-in : (n : ℕ) (ranks : List Rank) (i : ℕ) (d : Rank) → EachOf (λ row. row < n) (rows_of ranks) → i < length ranks → (get_or ranks i d).row < n
place-in n ranks i d h lt = EachOf-at (λ row. row < n) (rows_of ranks) (get_or ranks i d).row h (mapped-at (λ (r : Rank). r.row) ranks i d lt)

pub put-more : (next : List (Option ℕ)) (head : Option ℕ) (ranks : List Rank) (i : ℕ) (d : Rank) → EachOnce (rows_of ranks) → i < length ranks → (get_or ranks i d).row < length next
    → IsChain next head (reverse (rows_of (take i ranks))) → IsChain (set next (get_or ranks i d).row head) (Some (get_or ranks i d).row) (reverse (rows_of (take (i + 1) ranks)))
put-more next head ranks i d once lt in_next h =
    let row = (get_or ranks i d).row in
    let before = rows_of (take i ranks) in
    let list : reverse (rows_of (take (i + 1) ranks)) ≡ row ∷ reverse before = ap reverse (map_more (λ (r : Rank). r.row) ranks i d lt) ∙ reverse-append before (row ∷ []) in
    subst (IsChain (set next row head) (Some row)) (sym list) (
      refl,
      subst (λ z. IsChain (set next row head) z (reverse before)) (sym (get_or-set_same next row head None in_next))
          (chain-set next row head head (reverse before) (λ e. mapped-once (λ (r : Rank). r.row) ranks i d once lt (Elem-reversed row before e)) h),
    )

pub put-others : (old next : List (Option ℕ)) (head : Option ℕ) (ranks : List Rank) (i : ℕ) (d : Rank) → i < length ranks → ((row : ℕ) → (Elem row (rows_of (take i ranks)) → ⊥) → get_or next row None ≡ get_or old row None)
    → (row : ℕ) → (Elem row (rows_of (take (i + 1) ranks)) → ⊥) → get_or (set next (get_or ranks i d).row head) row None ≡ get_or old row None
put-others old next head ranks i d lt f row n =
    let last = (get_or ranks i d).row in
    let before = rows_of (take i ranks) in
    let m : Elem row (before ++ last ∷ []) → ⊥ = λ e. n (subst (Elem row) (sym (map_more (λ (r : Rank). r.row) ranks i d lt)) e) in
    get_or-set_other next last row head None (λ s. m (Elem-right row before (last ∷ []) (inl (sym s)))) ∙ f row (λ e. m (Elem-left row before (last ∷ []) e))

-- sorted ranks of the rows of a chain
module _ (rows : List Branch) (l : List ℕ) (ranks : List Rank) (same : IsPermutation (map (rank_at rows) l) ranks) where
  of-rank : (r : Rank) → Elem r ranks → (r ≡ rank_at rows r.row) × Elem r.row l
  of-rank r e = from l (Elem-contains _ r (Contains-permutation ranks (map (rank_at rows) l) r (IsPermutation-sym _ _ same) (contains-Elem ranks r e)))
    where
      from : (k : List ℕ) → Elem r (map (rank_at rows) k) → (r ≡ rank_at rows r.row) × Elem r.row k
      from [] e = absurd e
      from (c ∷ k) e = elim e [
        | inl s ↦ (sym s ∙ ap (rank_at rows) (ap (λ (r : Rank). r.row) s), inl (ap (λ (r : Rank). r.row) s))
        | inr g ↦ let w = from k g in (w.0, inr w.1)
      ]

  has-rank : (c : ℕ) → Elem c l → Elem (rank_at rows c) ranks
  has-rank c e = Elem-contains ranks (rank_at rows c) (Contains-permutation (map (rank_at rows) l) ranks (rank_at rows c) same (contains-Elem (map (rank_at rows) l) (rank_at rows c) (to l e)))
    where
      to : (k : List ℕ) → Elem c k → Elem (rank_at rows c) (map (rank_at rows) k)
      to [] e = absurd e
      to (b ∷ k) e = elim e [ inl s ↦ inl (ap (rank_at rows) s) | inr g ↦ inr (to k g) ]

  pub elem-sorted : (c : ℕ) → Elem c (rows_of ranks) → Elem c l
  elem-sorted c e = let w = elem-mapped (λ (r : Rank). r.row) ranks c e in subst (λ z. Elem z l) w.2 (of-rank w.0 w.1).1

  pub sorted-elem : (c : ℕ) → Elem c l → Elem c (rows_of ranks)
  sorted-elem c e = mapped-elem (λ (r : Rank). r.row) ranks (rank_at rows c) (has-rank c e)

  rows-differ : EachOnce l → Pairs (λ (x y : Rank). x.row ≢ y.row) ranks
  rows-differ once = distinct_pairs ranks (IsDistinct-IsPermutation row_eq row_flips (map (rank_at rows) l) ranks same (distinct_ranks rows l once))

  pub sorted-once : EachOnce l → EachOnce (rows_of ranks)
  sorted-once once = mapped-pairs (λ (r : Rank). r.row) (λ c d. c ≢ d) ranks (rows-differ once)

  pub sorted-in : (n : ℕ) → EachOf (λ row. row < n) l → EachOf (λ row. row < n) (rows_of ranks)
  sorted-in n h = EachOf-of (λ row. row < n) (rows_of ranks) (λ c e. EachOf-at (λ row. row < n) l c h (elem-sorted c e))

  pub sorted-ranked : EachOnce l → IsSorted rank_cmp ranks → AreRanked rows l (reverse (rows_of ranks))
  sorted-ranked once up = record {
    sound = λ c e. elem-sorted c (Elem-reversed c (rows_of ranks) e);
    whole = λ c e. Elem-reverse c (rows_of ranks) (sorted-elem c e);
    ranked = Pairs-reverse (λ c d. (c ≢ d) × NotBefore (branch rows d) (branch rows c)) (rows_of ranks) (mapped-pairs (λ (r : Rank). r.row) (λ c d. (d ≢ c) × NotBefore (branch rows c) (branch rows d)) ranks (pairs ranks (λ r e. (of-rank r e).0)
        (Pairs-both (λ (x y : Rank). x.row ≢ y.row) (λ x y. is_lt (rank_cmp y x) ≡ false) ranks (rows-differ once)
        (Pairs-of (λ x y. is_lt (rank_cmp y x) ≡ false) ranks (λ i j d lt in_ranks. sorted_far (λ x y. is_lt (rank_cmp x y)) (ranks_by rank_total (λ x. x)) ranks up i j d (omega arith) in_ranks)))));
  }
    where
      pairs : (rs : List Rank) → ((r : Rank) → Elem r rs → r ≡ rank_at rows r.row) → Pairs (λ (x y : Rank). (x.row ≢ y.row) × (is_lt (rank_cmp y x) ≡ false)) rs → Pairs (λ (x y : Rank). (y.row ≢ x.row) × NotBefore (branch rows x.row) (branch rows y.row)) rs
      pairs [] f h = tt
      pairs (x ∷ rs) f h = (
        EachOf-of (λ (y : Rank). (y.row ≢ x.row) × NotBefore (branch rows x.row) (branch rows y.row)) rs (λ y e.
            let k = EachOf-at (λ (y : Rank). (x.row ≢ y.row) × (is_lt (rank_cmp y x) ≡ false)) rs y h.0 e in
            ((λ s. k.0 (sym s)), from x y (f x (inl refl)) (f y (inr e)) k.1)),
        pairs rs (λ r e. f r (inr e)) h.1,
      )
        where
          from : (x y : Rank) → x ≡ rank_at rows x.row → y ≡ rank_at rows y.row → is_lt (rank_cmp y x) ≡ false → NotBefore (branch rows x.row) (branch rows y.row)
          from x y ex ey k g =
              not_greater (nat_cmp x.size y.size) (nat_cmp y.func.0 x.func.0) (nat_cmp x.row y.row) (ap is_lt (sym (rank_total.antisymm y x)) ∙ k)
              (ap (λ (z : Rank). ordering_then (nat_cmp z.size y.size) (nat_cmp y.func.0 z.func.0)) ex ∙ ap (λ (z : Rank). ordering_then (nat_cmp (nat_abs (branch rows x.row).total) z.size) (nat_cmp z.func.0 (branch rows x.row).func)) ey ∙ g)

pub sorted-of : (rows : List Branch) (l : List ℕ) (xs ys zs : List Rank) → xs ≡ map (rank_at rows) l → IsPermutation xs ys → zs ≡ ys → IsPermutation (map (rank_at rows) l) zs
sorted-of rows l xs ys zs e h f = subst (IsPermutation (map (rank_at rows) l)) (sym f) (subst (λ z. IsPermutation z ys) e h)

pub ranked-none : (rows : List Branch) (l : List ℕ) → l ≡ [] → AreRanked rows l l
ranked-none rows l e = record { sound = λ c h. h; whole = λ c h. h; ranked = subst (Pairs (λ c d. (c ≢ d) × NotBefore (branch rows d) (branch rows c))) (sym e) tt }

pub ranked-one : (rows : List Branch) (l : List ℕ) (row : ℕ) → l ≡ row ∷ [] → AreRanked rows l l
ranked-one rows l row e = record { sound = λ c h. h; whole = λ c h. h; ranked = subst (Pairs (λ c d. (c ≢ d) × NotBefore (branch rows d) (branch rows c))) (sym e) (tt, tt) }

-- a parent is one of the rows
pub link_in : (rows : List Branch) (r : ℕ) → HasForest rows → r < length rows → link (branch rows r).parent < length rows + 1
link_in rows r w lt = at (branch rows r).parent (λ p e. w.2.above r p lt e)
  where
    at : (o : Option ℕ) → ((p : ℕ) → o ≡ Some p → p < length rows) → link o < length rows + 1
    at None f = omega arith
    at (Some p) f = omega (arith, f p refl)

nothing_at : (m p : ℕ) → let none : List (Option ℕ) = replicate m None in get_or none p None ≡ None
nothing_at zero p = refl
nothing_at (suc m) zero = refl
nothing_at (suc m) (suc p) = nothing_at m p

pub at_none : (xs : List (Option ℕ)) (i : ℕ) (v : Option ℕ) → i < length xs → v ≡ get_or xs i v → v ≡ get_or xs i None
at_none xs i v lt e = e ∙ same xs i lt
  where
    same : (xs : List (Option ℕ)) (i : ℕ) → i < length xs → get_or xs i v ≡ get_or xs i None
    same [] i h = absurd (omega arith)
    same (x ∷ xs) zero h = refl
    same (x ∷ xs) (suc i) h = same xs i (omega arith)

pub siblings-chain : (rows : List Branch) (next : List (Option ℕ)) (head : Option ℕ) (p : ℕ) → (l : List ℕ) × IsChain next head l × AreSiblings rows (length rows) p l → HasChain (length rows) next head
siblings-chain rows next head p w = (w.0, w.1, EachOf-of (λ row. row < length rows) w.0 (λ c e. (w.2.sound c e).0), w.2.apart)

-- before the first row each chain is empty
pub linked-none : (rows : List Branch) (first next : List (Option ℕ)) (m p : ℕ) → first ≡ replicate m None → (l : List ℕ) × IsChain next (get_or first p None) l × AreSiblings rows 0 p l
linked-none rows first next m p e = ([], ap (λ z. get_or z p None) e ∙ nothing_at m p, record { sound = λ c h. absurd h; whole = λ c lt h. absurd (omega arith); apart = tt })

-- one more row goes first where its parent says
pub linked-more : (rows : List Branch) (first next : List (Option ℕ)) (place row : ℕ) → place ≡ link (branch rows row).parent → place < length first → row < length next
    → ((p : ℕ) → p < length first → (l : List ℕ) × IsChain next (get_or first p None) l × AreSiblings rows row p l)
    → (p : ℕ) → p < length first → (l : List ℕ) × IsChain (set next row (get_or first place None)) (get_or (set first place (Some row)) p None) l × AreSiblings rows (row + 1) p l
linked-more rows first next place row at in_first in_next each p in_p =
    let w = each p in_p in
    let head = get_or first place None in
    let new : Elem row w.0 → ⊥ = λ e. (let h = (w.2.sound row e).0 in absurd (omega (arith, h))) in
    let kept : IsChain (set next row head) (get_or first p None) w.0 = chain-set next row head (get_or first p None) w.0 new w.1 in
    elim (eqb place p) as (λ b. eqb place p ≡ b → (l : List ℕ) × IsChain (set next row head) (get_or (set first place (Some row)) p None) l × AreSiblings rows (row + 1) p l) [
      | true ↦ λ e.
          let same : place ≡ p = same_number place p e in (
            row ∷ w.0,
            (
              subst (λ q. get_or (set first place (Some row)) q None ≡ Some row) same (get_or-set_same first place (Some row) None in_first),
              subst (λ z. IsChain (set next row head) z w.0) (ap (λ q. get_or first q None) (sym same) ∙ sym (get_or-set_same next row head None in_next)) kept,
            ),
            record {
              sound = λ c e. elim e [ inl s ↦ ((omega (arith, s)), ap (λ z. link (branch rows z).parent) (sym s) ∙ sym at ∙ same) | inr g ↦ let h = w.2.sound c g in ((let k = h.0 in omega (arith, k)), h.1) ];
              whole = λ c lt k. whole-more p w.0 w.2 c lt k;
              apart = (EachOf-of (λ c. row ≢ c) w.0 (λ c e s. new (subst (λ z. Elem z w.0) (sym s) e)), w.2.apart);
            },
          )
      | false ↦ λ e.
          let differ : place ≢ p = grind (arith, nat_tests) in (
            w.0,
            subst (λ z. IsChain (set next row head) z w.0) (sym (get_or-set_other first place p (Some row) None (λ s. differ (sym s)))) kept,
            record {
              sound = λ c e. (let h = w.2.sound c e in ((let k = h.0 in omega (arith, k)), h.1));
              whole = λ c lt k. elim (whole-more p w.0 w.2 c lt k) [ inl s ↦ absurd (differ (at ∙ ap (λ z. link (branch rows z).parent) s ∙ k)) | inr g ↦ g ];
              apart = w.2.apart;
            },
          )
    ] refl
  where
    whole-more : (p : ℕ) (l : List ℕ) → AreSiblings rows row p l → (c : ℕ) → c < row + 1 → link (branch rows c).parent ≡ p → Elem c (row ∷ l)
    whole-more p l h c lt k =
        elim (eqb row c) as (λ b. eqb row c ≡ b → Elem c (row ∷ l)) [
          | true ↦ λ e. inl (same_number row c e)
          | false ↦ λ e. (let n : row ≢ c = grind (arith, nat_tests) in inr (h.whole c (omega (arith, n, lt)) k))
        ] refl

-- the chains of the first places are in order
pub record HasRanked (rows : List Branch) (done : ℕ) (first next : List (Option ℕ)) : Type 0 where
  pub all : HasSiblings rows first next
  pub kids : (p : ℕ) → p < done → (l : List ℕ) × IsChain next (get_or first p None) l × AreKids rows p l

-- the order of one more chain leaves the others
pub ranked-more : (rows : List Branch) (done : ℕ) (first next next' : List (Option ℕ)) (top : Option ℕ) → done < length first → HasRanked rows done first next
    → ((l : List ℕ) → IsChain next (get_or first done None) l → (k : List ℕ) × IsChain next' top k × AreRanked rows l k)
    → ((l : List ℕ) → IsChain next (get_or first done None) l → (row : ℕ) → (Elem row l → ⊥) → get_or next' row None ≡ get_or next row None)
    → length next' ≡ length next → HasRanked rows (done + 1) (set first done top) next'
ranked-more rows done first next next' top lt h chain others len =
    let w = h.all.each done lt in
    let r = chain w.0 w.1 in
    let apart : (q : ℕ) → q ≢ done → (l : List ℕ) → IsChain next (get_or first q None) l → ((c : ℕ) → Elem c l → link (branch rows c).parent ≡ q) → IsChain next' (get_or (set first done top) q None) l =
    λ q n l c f. subst (λ z. IsChain next' z l) (sym (get_or-set_other first done q top None n))
    (chain-kept next next' (get_or first q None) l (λ row e. others w.0 w.1 row (λ g. n (sym (f row e) ∙ (w.2.sound row g).1))) c) in
    let here : (q : ℕ) → done ≡ q → IsChain next' (get_or (set first done top) q None) r.0 =
    λ q s. subst (λ z. IsChain next' (get_or (set first done top) z None) r.0) s (subst (λ z. IsChain next' z r.0) (sym (get_or-set_same first done top None lt)) r.1) in
    record {
      all = record {
        len = length-set first done top ∙ h.all.len;
        len_next = len ∙ h.all.len_next;
        each = λ q in_q. elim (eqb done q) as (λ b. eqb done q ≡ b → (l : List ℕ) × IsChain next' (get_or (set first done top) q None) l × AreSiblings rows (length rows) q l) [
          | true ↦ λ e. (let s = same_number done q e in (
            r.0,
            here q s,
            subst (λ z. AreSiblings rows (length rows) z r.0) s record {
              sound = λ c e. w.2.sound c (r.2.sound c e);
              whole = λ c lt k. r.2.whole c (w.2.whole c lt k);
              apart = Pairs-first (λ c d. c ≢ d) (λ c d. NotBefore (branch rows d) (branch rows c)) r.0 r.2.ranked;
            },
          ))
          | false ↦ λ e. (let n : q ≢ done = grind (arith, nat_tests) in let v = h.all.each q (subst (λ z. q < z) (length-set first done top) in_q) in (v.0, apart q n v.0 v.1 (λ c e. (v.2.sound c e).1), v.2))
        ] refl;
      };
      kids = λ q in_q. elim (eqb done q) as (λ b. eqb done q ≡ b → (l : List ℕ) × IsChain next' (get_or (set first done top) q None) l × AreKids rows q l) [
        | true ↦ λ e. (let s = same_number done q e in (
          r.0,
          here q s,
          subst (λ z. AreKids rows z r.0) s record {
            sound = λ c e. w.2.sound c (r.2.sound c e);
            whole = λ c lt k. r.2.whole c (w.2.whole c lt k);
            ranked = r.2.ranked;
          },
        ))
        | false ↦ λ e. (let n : q ≢ done = grind (arith, nat_tests) in let v = h.kids q (omega (arith, n, in_q)) in (v.0, apart q n v.0 v.1 (λ c e. (v.2.sound c e).1), v.2))
      ] refl;
    }

pub ranked-all : (rows : List Branch) (done : ℕ) (first next : List (Option ℕ)) → length first ≤ done → HasRanked rows done first next → HasChildren rows first next
ranked-all rows done first next le h = record {
  len = h.all.len;
  len_next = h.all.len_next;
  each = λ p lt. h.kids p (omega (arith, lt, le));
}

pub ranked-start : (rows : List Branch) (first next : List (Option ℕ)) → HasSiblings rows first next → HasRanked rows 0 first next
ranked-start rows first next h = record { all = h; kids = λ p lt. absurd (omega arith) }
