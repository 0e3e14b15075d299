-- What one more path, and one more step of it, changes
use Rattle.std.proofs.Common.{◌≡◌, ◌≢◌, ℕ, suc, ◌-◌, ◌<◌, ◌≤◌, ℤ, pos, ◌+ℤ◌, Bool, true, false, cond, ◌&&◌, eqb, nat_eq, List, [], ◌∷◌, ◌++◌, length, map, get_or, set, get_or-set_same, get_or-set_other, length-set, Some, None, ◌⊎◌, inl, inr, sym, ap, ◌∙◌, subst, refl, length-append, arith}
use Rattle.std.specs.List.{starts_with, filter, list_all}
use Rattle.std.specs.Cmp.Lexicographic.{pointwise}
use Rattle.std.proofs.lemmas.List.Elements.{filter-append}
use Rattle.std.proofs.lemmas.List.{map-append, get_or_append_left}
use Rattle.std.proofs.Math.Seq.{get_or-append_seam}
use Rattle.std.proofs.lemmas.Int.{ints}
use Rattle.std.proofs.lemmas.Bool.{false≢true}
use Rattle.std.proofs.lemmas.Bool.Decides.{nat_tests}
use Rattle.prof_tables.specs.declared.rows.Step.{Step}
use Rattle.prof_path.specs.Shown.{funcs}
use Rattle.prof_tree.specs.declared.branch.Branch.{Branch}
use Rattle.prof_tree.specs.Nodes.{Weighed, list_of, total, through, ending, total_at, own_at, common, categories_at}
use Rattle.prof_tree.specs.Forest.{HasPrefix, key, branch, no_branch}
use Rattle.prof_tree.specs.Growing.{Adds, merged, Ready}

abbrev pub no_step : Step
no_step = record { func = 0; category = 0 }

abbrev pub starts : Weighed → List ℕ → Bool
starts t p = starts_with nat_eq (list_of t) p

abbrev pub is : Weighed → List ℕ → Bool
is t p = pointwise nat_eq p (list_of t)

abbrev pub category_in : Weighed → List ℕ → ℕ
category_in t p = (get_or t.steps (length p - 1) no_step).category

add_none : (z : ℤ) → (z +ℤ pos 0) ≡ z
add_none z = omega (arith, ints)

pub total-snoc : (xs : List Weighed) (t : Weighed) → total (xs ++ t ∷ []) ≡ total xs +ℤ t.weight
total-snoc [] t = omega (arith, ints)
total-snoc (x ∷ xs) t = ap (λ z. x.weight +ℤ z) (total-snoc xs t) ∙ omega (arith, ints)

-- one more path
module _ (xs : List Weighed) (t : Weighed) (p : List ℕ) where
  pub total_at-yes : starts t p ≡ true → total_at (xs ++ t ∷ []) p ≡ total_at xs p +ℤ t.weight
  total_at-yes h = ap total (filter-append (λ x. starts x p) xs (t ∷ []) ∙ ap (λ b. filter (λ x. starts x p) xs ++ cond b (t ∷ []) []) h) ∙ total-snoc (through p xs) t

  pub total_at-no : starts t p ≡ false → total_at (xs ++ t ∷ []) p ≡ total_at xs p
  total_at-no h = ap total (filter-append (λ x. starts x p) xs (t ∷ []) ∙ ap (λ b. filter (λ x. starts x p) xs ++ cond b (t ∷ []) []) h ∙ append_nil (through p xs))
    where
      append_nil : (v : List Weighed) → v ++ [] ≡ v
      append_nil [] = refl
      append_nil (c ∷ v) = ap (λ w. c ∷ w) (append_nil v)

  pub own_at-yes : is t p ≡ true → own_at (xs ++ t ∷ []) p ≡ own_at xs p +ℤ t.weight
  own_at-yes h = ap total (filter-append (λ x. is x p) xs (t ∷ []) ∙ ap (λ b. filter (λ x. is x p) xs ++ cond b (t ∷ []) []) h) ∙ total-snoc (ending p xs) t

  pub own_at-no : is t p ≡ false → own_at (xs ++ t ∷ []) p ≡ own_at xs p
  own_at-no h = ap total (filter-append (λ x. is x p) xs (t ∷ []) ∙ ap (λ b. filter (λ x. is x p) xs ++ cond b (t ∷ []) []) h ∙ append_nil (ending p xs))
    where
      append_nil : (v : List Weighed) → v ++ [] ≡ v
      append_nil [] = refl
      append_nil (c ∷ v) = ap (λ w. c ∷ w) (append_nil v)

  pub categories-yes : starts t p ≡ true → categories_at (xs ++ t ∷ []) p ≡ categories_at xs p ++ category_in t p ∷ []
  categories-yes h = ap (map (λ x. category_in x p)) (filter-append (λ x. starts x p) xs (t ∷ []) ∙ ap (λ b. filter (λ x. starts x p) xs ++ cond b (t ∷ []) []) h) ∙ map-append (λ x. category_in x p) (through p xs) (t ∷ [])

  pub categories-no : starts t p ≡ false → categories_at (xs ++ t ∷ []) p ≡ categories_at xs p
  categories-no h = ap (map (λ x. category_in x p)) (filter-append (λ x. starts x p) xs (t ∷ []) ∙ ap (λ b. filter (λ x. starts x p) xs ++ cond b (t ∷ []) []) h ∙ append_nil (through p xs))
    where
      append_nil : (v : List Weighed) → v ++ [] ≡ v
      append_nil [] = refl
      append_nil (c ∷ v) = ap (λ w. c ∷ w) (append_nil v)

  pub HasPrefix-left : HasPrefix xs p → HasPrefix (xs ++ t ∷ []) p
  HasPrefix-left h = go xs h
    where
      go : (xs : List Weighed) → HasPrefix xs p → HasPrefix (xs ++ t ∷ []) p
      go [] h = absurd h
      go (x ∷ xs) h = elim h [ inl e ↦ inl e | inr k ↦ inr (go xs k) ]

  pub HasPrefix-last : starts t p ≡ true → HasPrefix (xs ++ t ∷ []) p
  HasPrefix-last h = go xs
    where
      go : (xs : List Weighed) → HasPrefix (xs ++ t ∷ []) p
      go [] = inl h
      go (x ∷ xs) = inr (go xs)

  pub HasPrefix-cases : HasPrefix (xs ++ t ∷ []) p → HasPrefix xs p ⊎ (starts t p ≡ true)
  HasPrefix-cases h = go xs h
    where
      go : (xs : List Weighed) → HasPrefix (xs ++ t ∷ []) p → HasPrefix xs p ⊎ (starts t p ≡ true)
      go [] h = elim h [ inl e ↦ inr e | inr k ↦ absurd k ]
      go (x ∷ xs) h = elim h [ inl e ↦ inl (inl e) | inr k ↦ elim (go xs k) [ inl m ↦ inl (inr m) | inr m ↦ inr m ] ]

-- where no path begins with p nothing is added
pub none_through : (xs : List Weighed) (p : List ℕ) → (HasPrefix xs p → ⊥) → through p xs ≡ []
none_through [] p n = refl
none_through (x ∷ xs) p n =
    elim (starts x p) as (λ b. starts x p ≡ b → cond b (x ∷ through p xs) (through p xs) ≡ []) [
      | true ↦ λ e. absurd (n (inl e))
      | false ↦ λ e. none_through xs p (λ h. n (inr h))
    ] refl

pub some_through : (xs : List Weighed) (p : List ℕ) → HasPrefix xs p → (c : ℕ) × (cs : List ℕ) × (categories_at xs p ≡ c ∷ cs)
some_through [] p h = absurd h
some_through (x ∷ xs) p h =
    elim (starts x p) as (λ b. starts x p ≡ b → (c : ℕ) × (cs : List ℕ) × (map (λ x. category_in x p) (cond b (x ∷ through p xs) (through p xs)) ≡ c ∷ cs)) [
      | true ↦ λ e. (category_in x p, categories_at xs p, refl)
      | false ↦ λ e. some_through xs p (elim h [ inl k ↦ absurd (false≢true (sym e ∙ k)) | inr k ↦ k ])
    ] refl

-- a path that is p begins with p
and-left : (a b : Bool) → (a && b) ≡ true → a ≡ true
and-left true b h = refl
and-left false b h = h

and-right : (a b : Bool) → (a && b) ≡ true → b ≡ true
and-right true b h = h
and-right false b h = cc

and-both : (a b : Bool) → a ≡ true → b ≡ true → (a && b) ≡ true
and-both a b h k = ap (λ x. x && b) h ∙ k

pub same_number : (a b : ℕ) → eqb a b ≡ true → a ≡ b
same_number a b h = grind (arith, nat_tests)

pub number_same : (a b : ℕ) → a ≡ b → eqb a b ≡ true
number_same a b h = grind (arith, nat_tests)

starts-is : (l p : List ℕ) → pointwise nat_eq p l ≡ true → starts_with nat_eq l p ≡ true
starts-is l [] h = refl
starts-is [] (b ∷ p) h = h
starts-is (a ∷ l) (b ∷ p) h = and-both _ _ (and-left (eqb b a) _ h) (starts-is l p (and-right (eqb b a) _ h))

pub is-same : (l p : List ℕ) → pointwise nat_eq p l ≡ true → l ≡ p
is-same [] [] h = refl
is-same [] (b ∷ p) h = cc
is-same (a ∷ l) [] h = cc
is-same (a ∷ l) (b ∷ p) h = let e : b ≡ a = same_number b a (and-left _ _ h) in let k : l ≡ p = is-same l p (and-right (eqb b a) _ h) in cc

pub same-is : (l : List ℕ) → pointwise nat_eq l l ≡ true
same-is [] = refl
same-is (a ∷ l) = and-both _ _ (number_same a a refl) (same-is l)

pub none_ending : (xs : List Weighed) (p : List ℕ) → (HasPrefix xs p → ⊥) → ending p xs ≡ []
none_ending [] p n = refl
none_ending (x ∷ xs) p n =
    elim (is x p) as (λ b. is x p ≡ b → cond b (x ∷ ending p xs) (ending p xs) ≡ []) [
      | true ↦ λ e. absurd (n (inl (starts-is (list_of x) p e)))
      | false ↦ λ e. none_ending xs p (λ h. n (inr h))
    ] refl

-- one more step of a path begins with one more list
starts-snoc : (l : List ℕ) (f : ℕ) (p : List ℕ) → p ≢ (l ++ f ∷ []) → starts_with nat_eq (l ++ f ∷ []) p ≡ starts_with nat_eq l p
starts-snoc l f [] n = refl
starts-snoc [] f (b ∷ []) n =
    elim (eqb b f) as (λ x. eqb b f ≡ x → (x && true) ≡ false) [ true ↦ λ e. absurd (n (ap (λ c. c ∷ []) (same_number b f e))) | false ↦ λ e. refl ] refl
starts-snoc [] f (b ∷ (c ∷ p)) n = elim (eqb b f) as (λ x. (x && false) ≡ false) [ true ↦ refl | false ↦ refl ]
starts-snoc (a ∷ l) f (b ∷ p) n =
    elim (eqb b a) as (λ x. eqb b a ≡ x → (x && starts_with nat_eq (l ++ f ∷ []) p) ≡ (x && starts_with nat_eq l p)) [
      | true ↦ λ e. starts-snoc l f p (λ s. n (ap (λ c. c ∷ p) (same_number b a e) ∙ ap (λ q. a ∷ q) s))
      | false ↦ λ e. refl
    ] refl

pub starts-itself : (l : List ℕ) → starts_with nat_eq l l ≡ true
starts-itself l = starts-is l l (same-is l)

starts-short : (l : List ℕ) (f : ℕ) → starts_with nat_eq l (l ++ f ∷ []) ≡ false
starts-short [] f = refl
starts-short (a ∷ l) f = elim (eqb a a) as (λ x. (x && starts_with nat_eq l (l ++ f ∷ [])) ≡ false) [ true ↦ starts-short l f | false ↦ refl ]

pub starts-len : (l p : List ℕ) → starts_with nat_eq l p ≡ true → length p ≤ length l
starts-len l [] h = omega arith
starts-len [] (b ∷ p) h = cc
starts-len (a ∷ l) (b ∷ p) h = let k : length p ≤ length l = starts-len l p (and-right (eqb b a) _ h) in omega arith

list_all-snoc : (q : ℕ → Bool) (cs : List ℕ) (c : ℕ) → list_all q (cs ++ c ∷ []) ≡ (list_all q cs && q c)
list_all-snoc q [] c = elim (q c) as (λ x. (x && true) ≡ x) [ true ↦ refl | false ↦ refl ]
list_all-snoc q (d ∷ cs) c = elim (q d) as (λ x. (x && list_all q (cs ++ c ∷ [])) ≡ ((x && list_all q cs) && q c)) [ true ↦ list_all-snoc q cs c | false ↦ refl ]

pub common-snoc : (d : ℕ) (cs : List ℕ) (c : ℕ) → common ((d ∷ cs) ++ c ∷ []) ≡ merged (common (d ∷ cs)) c
common-snoc d cs c =
    ap (λ b. cond b (Some d) None) (list_all-snoc (λ e. eqb e d) cs c)
    ∙ elim (list_all (λ e. eqb e d) cs) as (λ x. cond (x && eqb c d) (Some d) None ≡ merged (cond x (Some d) None) c) [
      | true ↦ ap (λ b. cond b (Some d) None) (flips c d)
      | false ↦ refl
    ]
  where
    flips : (a b : ℕ) → eqb a b ≡ eqb b a
    flips a b = grind (arith, nat_tests)

pub length-funcs : (x : List Step) → length (funcs x) ≡ length x
length-funcs [] = refl
length-funcs (s ∷ x) = ap suc (length-funcs x)

module _ (xs : List Weighed) (w : ℤ) (x : List Step) (s : Step) where
  abbrev pub t0 : Weighed
  t0 = record { steps = x; weight = w }

  abbrev pub t1 : Weighed
  t1 = record { steps = x ++ s ∷ []; weight = w }

  abbrev pub here : List ℕ
  here = funcs x ++ s.func ∷ []

  pub list1 : list_of t1 ≡ here
  list1 = map-append (λ (s : Step). s.func) x (s ∷ [])

  starts-same : (p : List ℕ) → p ≢ here → starts t1 p ≡ starts t0 p
  starts-same p n = ap (λ l. starts_with nat_eq l p) list1 ∙ starts-snoc (funcs x) s.func p n

  pub starts-here : starts t1 here ≡ true
  starts-here = ap (λ l. starts_with nat_eq l here) list1 ∙ starts-itself here

  pub not-starts-here : starts t0 here ≡ false
  not-starts-here = starts-short (funcs x) s.func

  same_total : (p : List ℕ) → p ≢ here → total_at (xs ++ t1 ∷ []) p ≡ total_at (xs ++ t0 ∷ []) p
  same_total p n =
      elim (starts t0 p) as (λ b. starts t0 p ≡ b → total_at (xs ++ t1 ∷ []) p ≡ total_at (xs ++ t0 ∷ []) p) [
        | true ↦ λ e. total_at-yes xs t1 p (starts-same p n ∙ e) ∙ sym (total_at-yes xs t0 p e)
        | false ↦ λ e. total_at-no xs t1 p (starts-same p n ∙ e) ∙ sym (total_at-no xs t0 p e)
      ] refl

  category-same : (p : List ℕ) → 0 < length p → starts t0 p ≡ true → category_in t1 p ≡ category_in t0 p
  category-same p h e =
      let short : length p ≤ length x = omega (arith, starts-len (funcs x) p e, length-funcs x) in
      ap (λ (s : Step). s.category) (get_or_append_left x (s ∷ []) no_step (length p - 1) (omega arith))

  same_categories : (p : List ℕ) → 0 < length p → p ≢ here → categories_at (xs ++ t1 ∷ []) p ≡ categories_at (xs ++ t0 ∷ []) p
  same_categories p h n =
      elim (starts t0 p) as (λ b. starts t0 p ≡ b → categories_at (xs ++ t1 ∷ []) p ≡ categories_at (xs ++ t0 ∷ []) p) [
        | true ↦ λ e. categories-yes xs t1 p (starts-same p n ∙ e) ∙ ap (λ c. categories_at xs p ++ c ∷ []) (category-same p h e) ∙ sym (categories-yes xs t0 p e)
        | false ↦ λ e. categories-no xs t1 p (starts-same p n ∙ e) ∙ sym (categories-no xs t0 p e)
      ] refl

  more-prefix : (p : List ℕ) → HasPrefix (xs ++ t0 ∷ []) p → HasPrefix (xs ++ t1 ∷ []) p
  more-prefix p h =
      elim (HasPrefix-cases xs t0 p h) [
        | inl k ↦ HasPrefix-left xs t1 p k
        | inr e ↦ HasPrefix-last xs t1 p (starts-same p (λ q. false≢true (sym not-starts-here ∙ ap (starts t0) (sym q) ∙ e)) ∙ e)
      ]

  prefix-cases : (p : List ℕ) → HasPrefix (xs ++ t1 ∷ []) p → HasPrefix (xs ++ t0 ∷ []) p ⊎ (p ≡ here)
  prefix-cases p h =
      elim (HasPrefix-cases xs t1 p h) [
        | inl k ↦ inl (HasPrefix-left xs t0 p k)
        | inr e ↦ elim (pointwise nat_eq p here) as (λ b. pointwise nat_eq p here ≡ b → HasPrefix (xs ++ t0 ∷ []) p ⊎ (p ≡ here)) [
          | true ↦ λ k. inr (sym (is-same here p k))
          | false ↦ λ k. inl (HasPrefix-last xs t0 p (sym (starts-same p (λ q. false≢true (sym k ∙ ap (λ z. pointwise nat_eq z here) q ∙ same-is here))) ∙ e))
        ] refl
      ]

  pub here-category : category_in t1 here ≡ s.category
  here-category =
      let e : length here - 1 ≡ length x = omega (arith, length-append (funcs x) (s.func ∷ []), length-funcs x) in
      ap (λ n. (get_or (x ++ s ∷ []) n no_step).category) e ∙ ap (λ (s : Step). s.category) (get_or-append_seam x s [] no_step)

  here-left : HasPrefix (xs ++ t0 ∷ []) here → HasPrefix xs here
  here-left h = elim (HasPrefix-cases xs t0 here h) [ inl k ↦ k | inr e ↦ absurd (false≢true (sym not-starts-here ∙ e)) ]

  long-here : 0 < length here
  long-here = omega (arith, length-append (funcs x) (s.func ∷ []))

  module _ (ks : List (List ℕ)) (rows : List Branch) (apart : (q r : ℕ) → q < length rows → r < length rows → key ks q ≡ key ks r → q ≡ r) where
    -- a row that stands
    pub Ready-old : (r : ℕ) → r < length rows → key ks r ≡ here → Adds (xs ++ t0 ∷ []) ks rows → Ready xs w x s ks rows r
    Ready-old r lt is_here a =
        let has : HasPrefix xs here = here-left (subst (HasPrefix (xs ++ t0 ∷ [])) is_here (a.in_paths r lt)) in
        let some = some_through xs here has in
        let cats : (branch rows r).category ≡ common (some.0 ∷ some.1) = a.categories r lt ∙ ap (λ p. common (categories_at (xs ++ t0 ∷ []) p)) is_here ∙ ap common (categories-no xs t0 here not-starts-here) ∙ ap common some.2 in
        record {
          in_rows = lt;
          key_is = is_here;
          others = λ q h n. (a.totals q h, a.categories q h, a.in_paths q h);
          total = a.totals r lt ∙ ap (total_at (xs ++ t0 ∷ [])) is_here ∙ total_at-no xs t0 here not-starts-here ∙ ap (total_at xs) (sym is_here);
          category = ap (λ o. merged o s.category) cats ∙ sym (common-snoc some.0 some.1 s.category)
              ∙ ap (λ cs. common (cs ++ s.category ∷ [])) (sym some.2) ∙ ap (λ c. common (categories_at xs here ++ c ∷ [])) (sym here-category)
              ∙ ap common (sym (categories-yes xs t1 here starts-here)) ∙ ap (λ p. common (categories_at (xs ++ t1 ∷ []) p)) (sym is_here);
          whole = a.whole;
        }

    -- what the row takes from the step
    pub Adds-step : (rows' : List Branch) (r : ℕ) (b : Branch) → Ready xs w x s ks rows r → rows' ≡ set rows r b → b.total ≡ (branch rows r).total +ℤ w → b.category ≡ merged (branch rows r).category s.category → ((q : ℕ) → q < length rows → 0 < length (key ks q)) → Adds (xs ++ t1 ∷ []) ks rows'
    Adds-step rows' r b ready is_set total category long =
        subst (Adds (xs ++ t1 ∷ []) ks) (sym is_set) (record {
          totals = λ q h. (let lt = inside q h in elim (eqb q r) as (λ e. eqb q r ≡ e → (branch (set rows r b) q).total ≡ total_at (xs ++ t1 ∷ []) (key ks q)) [
            | true ↦ λ e. subst (λ z. (branch (set rows r b) z).total ≡ total_at (xs ++ t1 ∷ []) (key ks z)) (sym (same_number q r e))
                (ap (λ (b : Branch). b.total) (get_or-set_same rows r b no_branch ready.in_rows) ∙ total ∙ ap (λ z. z +ℤ w) (ready.total ∙ ap (total_at xs) ready.key_is) ∙ sym (total_at-yes xs t1 here starts-here) ∙ ap (total_at (xs ++ t1 ∷ [])) (sym ready.key_is))
            | false ↦ λ e. ap (λ (b : Branch). b.total) (get_or-set_other rows r q b no_branch (differ q r e)) ∙ (ready.others q lt (differ q r e)).0 ∙ sym (same_total (key ks q) (elsewhere q r lt ready e))
          ] refl);
          categories = λ q h. (let lt = inside q h in elim (eqb q r) as (λ e. eqb q r ≡ e → (branch (set rows r b) q).category ≡ common (categories_at (xs ++ t1 ∷ []) (key ks q))) [
            | true ↦ λ e. subst (λ z. (branch (set rows r b) z).category ≡ common (categories_at (xs ++ t1 ∷ []) (key ks z))) (sym (same_number q r e))
                (ap (λ (b : Branch). b.category) (get_or-set_same rows r b no_branch ready.in_rows) ∙ category ∙ ready.category)
            | false ↦ λ e. ap (λ (b : Branch). b.category) (get_or-set_other rows r q b no_branch (differ q r e)) ∙ (ready.others q lt (differ q r e)).1 ∙ ap common (sym (same_categories (key ks q) (long q lt) (elsewhere q r lt ready e)))
          ] refl);
          in_paths = λ q h. (let lt = inside q h in elim (eqb q r) as (λ e. eqb q r ≡ e → HasPrefix (xs ++ t1 ∷ []) (key ks q)) [
            | true ↦ λ e. subst (λ z. HasPrefix (xs ++ t1 ∷ []) z) (sym (ap (key ks) (same_number q r e) ∙ ready.key_is)) (HasPrefix-last xs t1 here starts-here)
            | false ↦ λ e. more-prefix (key ks q) (ready.others q lt (differ q r e)).2
          ] refl);
          whole = λ p n h. elim (prefix-cases p h) [
            | inl k ↦ (let o = ready.whole p n k in (o.0, outside o.0 o.1, o.2))
            | inr e ↦ (r, outside r ready.in_rows, ready.key_is ∙ sym e)
          ];
        })
      where
        inside : (q : ℕ) → q < length (set rows r b) → q < length rows
        inside q h = subst (λ n. q < n) (length-set rows r b) h

        outside : (q : ℕ) → q < length rows → q < length (set rows r b)
        outside q h = subst (λ n. q < n) (sym (length-set rows r b)) h

        differ : (q r : ℕ) → eqb q r ≡ false → q ≢ r
        differ q r e h = false≢true (sym e ∙ number_same q r h)

        elsewhere : (q r : ℕ) → q < length rows → Ready xs w x s ks rows r → eqb q r ≡ false → key ks q ≢ here
        elsewhere q r lt ready e h = differ q r e (apart q r lt ready.in_rows (h ∙ sym ready.key_is))
