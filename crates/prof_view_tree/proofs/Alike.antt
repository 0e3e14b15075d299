-- Paths that make the same nodes
use Rattle.std.proofs.Common.{◌≡◌, ◌≢◌, ℕ, zero, suc, ◌+◌, ◌<◌, ℤ, pos, ◌+ℤ◌, Bool, true, false, cond, ◌&&◌, eqb, List, [], ◌∷◌, ◌++◌, length, map, Option, Some, None, inl, inr, sym, ap, ◌∙◌, subst, refl, arith}
use Rattle.std.specs.List.{list_all}
use Rattle.std.proofs.lemmas.Int.{ints}
use Rattle.std.proofs.lemmas.Bool.{false≢true}
use Rattle.prof_tables.specs.declared.rows.Step.{Step}
use Rattle.prof_tree.specs.declared.branch.Branch.{Branch}
use Rattle.prof_tree.specs.Nodes.{Weighed, total, through, ending, common, categories_at}
use Rattle.prof_tree.specs.Forest.{HasPrefix, key}
use Rattle.prof_tree.specs.Growing.{Adds, Owns, IsGrown}
use Rattle.prof_view_tree.specs.Weighing.{AreAlike, held, with_more}
use Rattle.prof_tree.proofs.PathSteps.{starts, is, category_in, same_number, number_same}
use Rattle.prof_tree.proofs.Turns.{key-long}

pub alike_same : (xs : List Weighed) → AreAlike xs xs
alike_same xs = record {
  totals = λ p n. refl;
  owns = λ p n. refl;
  categories = λ p n test. refl;
  forth = λ p n h. h;
  back = λ p n h. h;
}

pub alike_on : (xs ys zs : List Weighed) → AreAlike xs ys → AreAlike ys zs → AreAlike xs zs
alike_on xs ys zs a b = record {
  totals = λ p n. a.totals p n ∙ b.totals p n;
  owns = λ p n. a.owns p n ∙ b.owns p n;
  categories = λ p n test. a.categories p n test ∙ b.categories p n test;
  forth = λ p n h. b.forth p n (a.forth p n h);
  back = λ p n h. a.back p n (b.back p n h);
}

pub alike_back : (xs ys : List Weighed) → AreAlike xs ys → AreAlike ys xs
alike_back xs ys a = record {
  totals = λ p n. sym (a.totals p n);
  owns = λ p n. sym (a.owns p n);
  categories = λ p n test. sym (a.categories p n test);
  forth = λ p n h. a.back p n h;
  back = λ p n h. a.forth p n h;
}

-- behind the same first path
first_total : (t : Weighed) (a : Bool) (xs ys : List Weighed) → total xs ≡ total ys → total (cond a (t ∷ xs) xs) ≡ total (cond a (t ∷ ys) ys)
first_total t true xs ys e = ap (λ z. t.weight +ℤ z) e
first_total t false xs ys e = e

first_all : (test : ℕ → Bool) (f : Weighed → ℕ) (t : Weighed) (a : Bool) (xs ys : List Weighed) → list_all test (map f xs) ≡ list_all test (map f ys) → list_all test (map f (cond a (t ∷ xs) xs)) ≡ list_all test (map f (cond a (t ∷ ys) ys))
first_all test f t true xs ys e = ap (λ b. test (f t) && b) e
first_all test f t false xs ys e = e

pub alike_first : (t : Weighed) (xs ys : List Weighed) → AreAlike xs ys → AreAlike (t ∷ xs) (t ∷ ys)
alike_first t xs ys a = record {
  totals = λ p n. first_total t (starts t p) (through p xs) (through p ys) (a.totals p n);
  owns = λ p n. first_total t (is t p) (ending p xs) (ending p ys) (a.owns p n);
  categories = λ p n test. first_all test (λ x. category_in x p) t (starts t p) (through p xs) (through p ys) (a.categories p n test);
  forth = λ p n h. elim h [ inl e ↦ inl e | inr k ↦ inr (a.forth p n k) ];
  back = λ p n h. elim h [ inl e ↦ inl e | inr k ↦ inr (a.back p n k) ];
}

-- the first two in the other order
swap_total : (t u : Weighed) (xs : List Weighed) (a b : Bool) → total (cond a (t ∷ cond b (u ∷ xs) xs) (cond b (u ∷ xs) xs)) ≡ total (cond b (u ∷ cond a (t ∷ xs) xs) (cond a (t ∷ xs) xs))
swap_total t u xs true true = omega (arith, ints)
swap_total t u xs true false = refl
swap_total t u xs false true = refl
swap_total t u xs false false = refl

swap_and : (a b c : Bool) → (a && (b && c)) ≡ (b && (a && c))
swap_and true b c = refl
swap_and false true c = refl
swap_and false false c = refl

swap_all : (test : ℕ → Bool) (f : Weighed → ℕ) (t u : Weighed) (xs : List Weighed) (a b : Bool) → list_all test (map f (cond a (t ∷ cond b (u ∷ xs) xs) (cond b (u ∷ xs) xs))) ≡ list_all test (map f (cond b (u ∷ cond a (t ∷ xs) xs) (cond a (t ∷ xs) xs)))
swap_all test f t u xs true true = swap_and (test (f t)) (test (f u)) (list_all test (map f xs))
swap_all test f t u xs true false = refl
swap_all test f t u xs false true = refl
swap_all test f t u xs false false = refl

swap_prefix : (t u : Weighed) (xs : List Weighed) (p : List ℕ) → HasPrefix (t ∷ u ∷ xs) p → HasPrefix (u ∷ t ∷ xs) p
swap_prefix t u xs p h = elim h [ inl e ↦ inr (inl e) | inr k ↦ elim k [ inl e ↦ inl e | inr m ↦ inr (inr m) ] ]

pub alike_swapped : (t u : Weighed) (xs : List Weighed) → AreAlike (t ∷ u ∷ xs) (u ∷ t ∷ xs)
alike_swapped t u xs = record {
  totals = λ p n. swap_total t u (through p xs) (starts t p) (starts u p);
  owns = λ p n. swap_total t u (ending p xs) (is t p) (is u p);
  categories = λ p n test. swap_all test (λ x. category_in x p) t u (through p xs) (starts t p) (starts u p);
  forth = λ p n h. swap_prefix t u xs p h;
  back = λ p n h. swap_prefix u t xs p h;
}

-- the first one as the last
pub alike_moved : (t : Weighed) (xs : List Weighed) → AreAlike (t ∷ xs) (xs ++ t ∷ [])
alike_moved t [] = alike_same (t ∷ [])
alike_moved t (u ∷ xs) = alike_on (t ∷ u ∷ xs) (u ∷ t ∷ xs) (u ∷ (xs ++ t ∷ [])) (alike_swapped t u xs) (alike_first u (t ∷ xs) (xs ++ t ∷ []) (alike_moved t xs))

-- with the same last path
pub alike_last : (t : Weighed) (xs ys : List Weighed) → AreAlike xs ys → AreAlike (xs ++ t ∷ []) (ys ++ t ∷ [])
alike_last t xs ys a =
    alike_on (xs ++ t ∷ []) (t ∷ xs) (ys ++ t ∷ []) (alike_back (t ∷ xs) (xs ++ t ∷ []) (alike_moved t xs))
    (alike_on (t ∷ xs) (t ∷ ys) (ys ++ t ∷ []) (alike_first t xs ys a) (alike_moved t ys))

-- a weight in two parts
module _ (x : List Step) (v w : ℤ) where
  abbrev whole : Weighed
  whole = record { steps = x; weight = v +ℤ w }

  abbrev part : Weighed
  part = record { steps = x; weight = v }

  abbrev rest : Weighed
  rest = record { steps = x; weight = w }

  split_total : (xs : List Weighed) (a : Bool) → total (cond a (whole ∷ xs) xs) ≡ total (cond a (part ∷ cond a (rest ∷ xs) xs) (cond a (rest ∷ xs) xs))
  split_total xs true = omega (arith, ints)
  split_total xs false = refl

  twice : (a b : Bool) → (a && b) ≡ (a && (a && b))
  twice true b = refl
  twice false b = refl

  split_all : (test : ℕ → Bool) (p : List ℕ) (xs : List Weighed) (a : Bool) → list_all test (map (λ t. category_in t p) (cond a (whole ∷ xs) xs)) ≡ list_all test (map (λ t. category_in t p) (cond a (part ∷ cond a (rest ∷ xs) xs) (cond a (rest ∷ xs) xs)))
  split_all test p xs true = twice (test (category_in part p)) (list_all test (map (λ t. category_in t p) xs))
  split_all test p xs false = refl

  pub alike_split : (xs : List Weighed) → AreAlike (whole ∷ xs) (part ∷ rest ∷ xs)
  alike_split xs = record {
    totals = λ p n. split_total (through p xs) (starts part p);
    owns = λ p n. split_total (ending p xs) (is part p);
    categories = λ p n test. split_all test p (through p xs) (starts part p);
    forth = λ p n h. elim h [ inl e ↦ inl e | inr k ↦ inr (inr k) ];
    back = λ p n h. elim h [ inl e ↦ inl e | inr k ↦ elim k [ inl e ↦ inl e | inr m ↦ inr m ] ];
  }

-- a path without a step
pub alike_empty : (w : ℤ) (xs : List Weighed) → AreAlike xs (record { steps = []; weight = w } ∷ xs)
alike_empty w xs = record {
  totals = λ p n. ap (λ b. total (cond b (record { steps = []; weight = w } ∷ through p xs) (through p xs))) (sym (no_start p n));
  owns = λ p n. ap (λ b. total (cond b (record { steps = []; weight = w } ∷ ending p xs) (ending p xs))) (sym (not_is p n));
  categories = λ p n test. ap (λ b. list_all test (map (λ t. category_in t p) (cond b (record { steps = []; weight = w } ∷ through p xs) (through p xs)))) (sym (no_start p n));
  forth = λ p n h. inr h;
  back = λ p n h. elim h [ inl e ↦ absurd (false≢true (sym (no_start p n) ∙ e)) | inr k ↦ k ];
}
  where
    no_start : (p : List ℕ) → p ≢ [] → starts (record { steps = []; weight = w }) p ≡ false
    no_start [] n = absurd (n refl)
    no_start (a ∷ p) n = refl

    not_is : (p : List ℕ) → p ≢ [] → is (record { steps = []; weight = w }) p ≡ false
    not_is [] n = absurd (n refl)
    not_is (a ∷ p) n = refl

-- one more weight at a row is one more path
pub held_more : (path_at : ℕ → List Step) (first : ℕ) (ws : List (Option ℤ)) (row place : ℕ) (w : ℤ) → row < length ws → place ≡ first + row → AreAlike (held path_at first (with_more ws row w)) (held path_at first ws ++ record { steps = path_at place; weight = w } ∷ [])
held_more path_at first [] row place w h e = absurd (omega arith)
held_more path_at first (None ∷ ws) zero place w h e =
    let here : place ≡ first = omega arith in
    let none : (pos 0 +ℤ w) ≡ w = omega (arith, ints) in
    subst (λ z. AreAlike (record { steps = path_at first; weight = pos 0 +ℤ w } ∷ held path_at (suc first) ws) (held path_at (suc first) ws ++ record { steps = path_at z; weight = w } ∷ [])) (sym here)
    (subst (λ z. AreAlike (record { steps = path_at first; weight = z } ∷ held path_at (suc first) ws) (held path_at (suc first) ws ++ record { steps = path_at first; weight = w } ∷ [])) (sym none)
    (alike_moved (record { steps = path_at first; weight = w }) (held path_at (suc first) ws)))
held_more path_at first (Some v ∷ ws) zero place w h e =
    let here : place ≡ first = omega arith in
    let rest = held path_at (suc first) ws in
    let one : Weighed = record { steps = path_at first; weight = v } in
    let more : Weighed = record { steps = path_at first; weight = w } in
    let sum : Weighed = record { steps = path_at first; weight = v +ℤ w } in
    subst (λ z. AreAlike (sum ∷ rest) (one ∷ (rest ++ record { steps = path_at z; weight = w } ∷ []))) (sym here)
    (alike_on (sum ∷ rest) (one ∷ more ∷ rest) (one ∷ (rest ++ more ∷ [])) (alike_split (path_at first) v w rest) (alike_first one (more ∷ rest) (rest ++ more ∷ []) (alike_moved more rest)))
held_more path_at first (None ∷ ws) (suc row) place w h e = held_more path_at (suc first) ws row place w (omega arith) (omega arith)
held_more path_at first (Some v ∷ ws) (suc row) place w h e =
    alike_first (record { steps = path_at first; weight = v }) (held path_at (suc first) (with_more ws row w)) (held path_at (suc first) ws ++ record { steps = path_at place; weight = w } ∷ [])
    (held_more path_at (suc first) ws row place w (omega arith) (omega arith))

-- one more row
pub held-snoc : (path_at : ℕ → List Step) (first : ℕ) (ws : List (Option ℤ)) (o : Option ℤ) → held path_at first (ws ++ o ∷ []) ≡ held path_at first ws ++ held path_at (first + length ws) (o ∷ [])
held-snoc path_at first [] o = ap (λ n. held path_at n (o ∷ [])) (let e : first ≡ first + 0 = omega arith in e)
held-snoc path_at first (None ∷ ws) o = held-snoc path_at (suc first) ws o ∙ ap (λ n. held path_at (suc first) ws ++ held path_at n (o ∷ [])) (let e : suc first + length ws ≡ first + suc (length ws) = omega arith in e)
held-snoc path_at first (Some v ∷ ws) o = ap (λ z. record { steps = path_at first; weight = v } ∷ z) (held-snoc path_at (suc first) ws o ∙ ap (λ n. held path_at (suc first) ws ++ held path_at n (o ∷ [])) (let e : suc first + length ws ≡ first + suc (length ws) = omega arith in e))

-- lists whose elements pass the same tests have the same one number, or none
pub common_alike : (cs ds : List ℕ) → ((test : ℕ → Bool) → list_all test cs ≡ list_all test ds) → common cs ≡ common ds
common_alike [] [] h = refl
common_alike [] (d ∷ ds) h = absurd (false≢true (sym (h (λ _. false))))
common_alike (c ∷ cs) [] h = absurd (false≢true (h (λ _. false)))
common_alike (c ∷ cs) (d ∷ ds) h = go (list_all (λ e. eqb e c) cs) refl (list_all (λ e. eqb e d) ds) refl
  where
    itself : (n : ℕ) → eqb n n ≡ true
    itself n = number_same n n refl

    left : (a b : Bool) → true ≡ (a && b) → a ≡ true
    left true b e = refl
    left false b e = sym e

    right : (a b : Bool) → true ≡ (a && b) → b ≡ true
    right true b e = sym e
    right false b e = absurd (false≢true (sym e))

    go : (a : Bool) → list_all (λ e. eqb e c) cs ≡ a → (b : Bool) → list_all (λ e. eqb e d) ds ≡ b → cond (list_all (λ e. eqb e c) cs) (Some c) None ≡ cond (list_all (λ e. eqb e d) ds) (Some d) None
    go true e b f =
        let all : true ≡ (eqb d c && list_all (λ e. eqb e c) ds) = ap (λ z. z && true) (sym (itself c)) ∙ ap (λ z. eqb c c && z) (sym e) ∙ h (λ e. eqb e c) in
        let same : d ≡ c = same_number d c (left _ _ all) in
        let rest : list_all (λ e. eqb e c) ds ≡ true = right (eqb d c) _ all in
        ap (λ z. cond z (Some c) None) e ∙ subst (λ z. Some c ≡ cond (list_all (λ e. eqb e z) ds) (Some z) None) (sym same) (sym (ap (λ z. cond z (Some c) None) rest))
    go false e true f =
        let all : true ≡ (eqb c d && list_all (λ e. eqb e d) cs) = ap (λ z. z && true) (sym (itself d)) ∙ ap (λ z. eqb d d && z) (sym f) ∙ sym (h (λ e. eqb e d)) in
        let same : c ≡ d = same_number c d (left _ _ all) in
        let rest : list_all (λ e. eqb e d) cs ≡ true = right (eqb c d) _ all in
        absurd (false≢true (sym e ∙ ap (λ z. list_all (λ e. eqb e z) cs) same ∙ rest))
    go false e false f = ap (λ z. cond z (Some c) None) e ∙ sym (ap (λ z. cond z (Some d) None) f)

-- the rows of paths are those of alike paths
pub Adds-alike : (xs ys : List Weighed) (ks : List (List ℕ)) (rows : List Branch) → AreAlike xs ys → ((q : ℕ) → q < length rows → key ks q ≢ []) → Adds xs ks rows → Adds ys ks rows
Adds-alike xs ys ks rows a some h = record {
  totals = λ r lt. h.totals r lt ∙ a.totals (key ks r) (some r lt);
  categories = λ r lt. h.categories r lt ∙ common_alike (categories_at xs (key ks r)) (categories_at ys (key ks r)) (a.categories (key ks r) (some r lt));
  in_paths = λ r lt. a.forth (key ks r) (some r lt) (h.in_paths r lt);
  whole = λ p n k. h.whole p n (a.back p n k);
}

pub Owns-alike : (xs ys : List Weighed) (ks : List (List ℕ)) (rows : List Branch) → AreAlike xs ys → ((q : ℕ) → q < length rows → key ks q ≢ []) → Owns xs ks rows → Owns ys ks rows
Owns-alike xs ys ks rows a some h = λ r lt. h r lt ∙ a.owns (key ks r) (some r lt)

pub grown_alike : (xs ys : List Weighed) (ks : List (List ℕ)) (rows : List Branch) (look : Option ℕ × ℕ → Option ℕ) → AreAlike xs ys → IsGrown xs ks rows look → IsGrown ys ks rows look
grown_alike xs ys ks rows look a g = record {
  table = g.table;
  adds = Adds-alike xs ys ks rows a (key-long ks rows look g.table) g.adds;
  owns = Owns-alike xs ys ks rows a (key-long ks rows look g.table) g.owns;
}
