-- What paths have behind their first functions
use Rattle.std.proofs.Common.{◌≡◌, ◌≢◌, ℕ, suc, ◌-◌, ℤ, ◌+ℤ◌, Bool, true, false, cond, ◌&&◌, eqb, List, [], ◌∷◌, ◌++◌, length, map, get_or, inl, inr, sym, ap, ◌∙◌, refl, arith}
use Rattle.std.specs.List.{list_all}
use Rattle.std.proofs.lemmas.Bool.{false≢true}
use Rattle.prof_tables.specs.declared.rows.Step.{Step}
use Rattle.prof_view_tree.specs.Climbing.{after, behind, behind_step}
use Rattle.prof_tree.specs.Forest.{HasPrefix}
use Rattle.prof_tree.specs.Nodes.{Weighed, total, through, ending, total_at, own_at, categories_at}
use Rattle.prof_view_tree.specs.Weighing.{AreAlike}
use Rattle.prof_tree.proofs.PathSteps.{category_in, is, no_step, starts}

-- of one path, by its steps
module _ (f : ℕ) (w : ℤ) where
  first_total : (x : List Step) (p : List ℕ) (cut full : List Weighed) → total (through p cut) ≡ total (through (f ∷ p) full)
      → total (through p (behind_step f x w cut)) ≡ total (through (f ∷ p) (record { steps = x; weight = w } ∷ full))
  first_total [] p cut full e = e
  first_total (s ∷ x) p cut full e = by (eqb f s.func) (starts (record { steps = x; weight = w }) p) refl
    where
      short : Weighed
      short = record { steps = x; weight = w }

      long : Weighed
      long = record { steps = s ∷ x; weight = w }

      by : (a b : Bool) → starts short p ≡ b → total (through p (cond a (short ∷ cut) cut)) ≡ total (cond (a && starts short p) (long ∷ through (f ∷ p) full) (through (f ∷ p) full))
      by false b k = e
      by true true k = ap (λ b. total (cond b (short ∷ through p cut) (through p cut))) k ∙ ap (λ z. w +ℤ z) e ∙ sym (ap (λ b. total (cond b (long ∷ through (f ∷ p) full) (through (f ∷ p) full))) k)
      by true false k = ap (λ b. total (cond b (short ∷ through p cut) (through p cut))) k ∙ e ∙ sym (ap (λ b. total (cond b (long ∷ through (f ∷ p) full) (through (f ∷ p) full))) k)

  first_own : (x : List Step) (p : List ℕ) (cut full : List Weighed) → total (ending p cut) ≡ total (ending (f ∷ p) full)
      → total (ending p (behind_step f x w cut)) ≡ total (ending (f ∷ p) (record { steps = x; weight = w } ∷ full))
  first_own [] p cut full e = e
  first_own (s ∷ x) p cut full e = by (eqb f s.func) (is (record { steps = x; weight = w }) p) refl
    where
      short : Weighed
      short = record { steps = x; weight = w }

      long : Weighed
      long = record { steps = s ∷ x; weight = w }

      by : (a b : Bool) → is short p ≡ b → total (ending p (cond a (short ∷ cut) cut)) ≡ total (cond (a && is short p) (long ∷ ending (f ∷ p) full) (ending (f ∷ p) full))
      by false b k = e
      by true true k = ap (λ b. total (cond b (short ∷ ending p cut) (ending p cut))) k ∙ ap (λ z. w +ℤ z) e ∙ sym (ap (λ b. total (cond b (long ∷ ending (f ∷ p) full) (ending (f ∷ p) full))) k)
      by true false k = ap (λ b. total (cond b (short ∷ ending p cut) (ending p cut))) k ∙ e ∙ sym (ap (λ b. total (cond b (long ∷ ending (f ∷ p) full) (ending (f ∷ p) full))) k)

  -- the step at a node stands one step later in the longer path
  later : (s : Step) (x : List Step) (a : ℕ) (p : List ℕ) → category_in (record { steps = x; weight = w }) (a ∷ p) ≡ category_in (record { steps = s ∷ x; weight = w }) (f ∷ a ∷ p)
  later s x a p =
      let e : length (f ∷ a ∷ p) - 1 ≡ suc (length (a ∷ p) - 1) = omega arith in
      ap (λ n. (get_or (s ∷ x) n no_step).category) (sym e)

  first_categories : (test : ℕ → Bool) (x : List Step) (a : ℕ) (p : List ℕ) (cut full : List Weighed) → list_all test (categories_at cut (a ∷ p)) ≡ list_all test (categories_at full (f ∷ a ∷ p))
      → list_all test (categories_at (behind_step f x w cut) (a ∷ p)) ≡ list_all test (categories_at (record { steps = x; weight = w } ∷ full) (f ∷ a ∷ p))
  first_categories test [] a p cut full e = e
  first_categories test (s ∷ x) a p cut full e = by (eqb f s.func) (starts (record { steps = x; weight = w }) (a ∷ p)) refl
    where
      short : Weighed
      short = record { steps = x; weight = w }

      long : Weighed
      long = record { steps = s ∷ x; weight = w }

      q : List ℕ
      q = a ∷ p

      shorts : List Weighed → List ℕ
      shorts ys = map (λ y. category_in y q) ys

      longs : List Weighed → List ℕ
      longs ys = map (λ y. category_in y (f ∷ q)) ys

      by : (c b : Bool) → starts short q ≡ b → list_all test (shorts (through q (cond c (short ∷ cut) cut))) ≡ list_all test (longs (cond (c && starts short q) (long ∷ through (f ∷ q) full) (through (f ∷ q) full)))
      by false b k = e
      by true true k =
          ap (λ b. list_all test (shorts (cond b (short ∷ through q cut) (through q cut)))) k
          ∙ ap (λ z. test (category_in short q) && z) e ∙ ap (λ c. test c && list_all test (longs (through (f ∷ q) full))) (later s x a p)
          ∙ sym (ap (λ b. list_all test (longs (cond b (long ∷ through (f ∷ q) full) (through (f ∷ q) full)))) k)
      by true false k =
          ap (λ b. list_all test (shorts (cond b (short ∷ through q cut) (through q cut)))) k ∙ e
          ∙ sym (ap (λ b. list_all test (longs (cond b (long ∷ through (f ∷ q) full) (through (f ∷ q) full)))) k)

  first_forth : (x : List Step) (p : List ℕ) (cut full : List Weighed) → (HasPrefix cut p → HasPrefix full (f ∷ p)) → HasPrefix (behind_step f x w cut) p → HasPrefix (record { steps = x; weight = w } ∷ full) (f ∷ p)
  first_forth [] p cut full g h = inr (g h)
  first_forth (s ∷ x) p cut full g h = by (eqb f s.func) refl h
    where
      by : (a : Bool) → eqb f s.func ≡ a → HasPrefix (cond a (record { steps = x; weight = w } ∷ cut) cut) p → HasPrefix (record { steps = s ∷ x; weight = w } ∷ full) (f ∷ p)
      by false k h = inr (g h)
      by true k h = elim h [ inl e ↦ inl (ap (λ a. a && starts (record { steps = x; weight = w }) p) k ∙ e) | inr m ↦ inr (g m) ]

  first_back : (x : List Step) (p : List ℕ) (cut full : List Weighed) → (HasPrefix full (f ∷ p) → HasPrefix cut p) → HasPrefix (record { steps = x; weight = w } ∷ full) (f ∷ p) → HasPrefix (behind_step f x w cut) p
  first_back [] p cut full g h = elim h [ inl e ↦ absurd (false≢true e) | inr m ↦ g m ]
  first_back (s ∷ x) p cut full g h = by (eqb f s.func) refl
    where
      by : (a : Bool) → eqb f s.func ≡ a → HasPrefix (cond a (record { steps = x; weight = w } ∷ cut) cut) p
      by false k = elim h [ inl e ↦ absurd (false≢true (sym (ap (λ a. a && starts (record { steps = x; weight = w }) p) k) ∙ e)) | inr m ↦ g m ]
      by true k = elim h [ inl e ↦ inl (sym (ap (λ a. a && starts (record { steps = x; weight = w }) p) k) ∙ e) | inr m ↦ inr (g m) ]

total_at-after : (f : ℕ) (xs : List Weighed) (p : List ℕ) → total_at (after f xs) p ≡ total_at xs (f ∷ p)
total_at-after f [] p = refl
total_at-after f (x ∷ xs) p = first_total f x.weight x.steps p (after f xs) xs (total_at-after f xs p)

own_at-after : (f : ℕ) (xs : List Weighed) (p : List ℕ) → own_at (after f xs) p ≡ own_at xs (f ∷ p)
own_at-after f [] p = refl
own_at-after f (x ∷ xs) p = first_own f x.weight x.steps p (after f xs) xs (own_at-after f xs p)

categories-after : (test : ℕ → Bool) (f : ℕ) (xs : List Weighed) (a : ℕ) (p : List ℕ) → list_all test (categories_at (after f xs) (a ∷ p)) ≡ list_all test (categories_at xs (f ∷ a ∷ p))
categories-after test f [] a p = refl
categories-after test f (x ∷ xs) a p = first_categories f x.weight test x.steps a p (after f xs) xs (categories-after test f xs a p)

prefix-after : (f : ℕ) (xs : List Weighed) (p : List ℕ) → HasPrefix (after f xs) p → HasPrefix xs (f ∷ p)
prefix-after f [] p h = h
prefix-after f (x ∷ xs) p h = first_forth f x.weight x.steps p (after f xs) xs (prefix-after f xs p) h

prefix-before : (f : ℕ) (xs : List Weighed) (p : List ℕ) → HasPrefix xs (f ∷ p) → HasPrefix (after f xs) p
prefix-before f [] p h = h
prefix-before f (x ∷ xs) p h = first_back f x.weight x.steps p (after f xs) xs (prefix-before f xs p) h

cons-not-nil : (f : ℕ) (p : List ℕ) → (f ∷ p) ≢ []
cons-not-nil f p e = cc

pub alike-after : (f : ℕ) (xs ys : List Weighed) → AreAlike xs ys → AreAlike (after f xs) (after f ys)
alike-after f xs ys a = record {
  totals = λ p n. total_at-after f xs p ∙ a.totals (f ∷ p) (cons-not-nil f p) ∙ sym (total_at-after f ys p);
  owns = λ p n. own_at-after f xs p ∙ a.owns (f ∷ p) (cons-not-nil f p) ∙ sym (own_at-after f ys p);
  categories = λ p n test. categories p n test;
  forth = λ p n h. prefix-before f ys p (a.forth (f ∷ p) (cons-not-nil f p) (prefix-after f xs p h));
  back = λ p n h. prefix-before f xs p (a.back (f ∷ p) (cons-not-nil f p) (prefix-after f ys p h));
}
  where
    categories : (p : List ℕ) → p ≢ [] → (test : ℕ → Bool) → list_all test (categories_at (after f xs) p) ≡ list_all test (categories_at (after f ys) p)
    categories [] n test = absurd (n refl)
    categories (b ∷ p) n test = categories-after test f xs b p ∙ a.categories (f ∷ b ∷ p) (cons-not-nil f (b ∷ p)) test ∙ sym (categories-after test f ys b p)

-- behind one more function
pub behind-snoc : (k : List ℕ) (f : ℕ) (xs : List Weighed) → behind (k ++ f ∷ []) xs ≡ after f (behind k xs)
behind-snoc [] f xs = refl
behind-snoc (g ∷ k) f xs = behind-snoc k f (after g xs)

pub total_at-behind : (k : List ℕ) (xs : List Weighed) (p : List ℕ) → total_at (behind k xs) p ≡ total_at xs (k ++ p)
total_at-behind [] xs p = refl
total_at-behind (f ∷ k) xs p = total_at-behind k (after f xs) p ∙ total_at-after f xs (k ++ p)

pub categories-behind : (test : ℕ → Bool) (k : List ℕ) (xs : List Weighed) (a : ℕ) (p : List ℕ) → list_all test (categories_at (behind k xs) (a ∷ p)) ≡ list_all test (categories_at xs (k ++ a ∷ p))
categories-behind test [] xs a p = refl
categories-behind test (f ∷ k) xs a p = categories-behind test k (after f xs) a p ∙ by k
  where
    by : (k : List ℕ) → list_all test (categories_at (after f xs) (k ++ a ∷ p)) ≡ list_all test (categories_at xs (f ∷ (k ++ a ∷ p)))
    by [] = categories-after test f xs a p
    by (b ∷ k) = categories-after test f xs b (k ++ a ∷ p)

pub prefix-behind : (k : List ℕ) (xs : List Weighed) (p : List ℕ) → HasPrefix (behind k xs) p → HasPrefix xs (k ++ p)
prefix-behind [] xs p h = h
prefix-behind (f ∷ k) xs p h = prefix-after f xs (k ++ p) (prefix-behind k (after f xs) p h)

pub prefix-behind-back : (k : List ℕ) (xs : List Weighed) (p : List ℕ) → HasPrefix xs (k ++ p) → HasPrefix (behind k xs) p
prefix-behind-back [] xs p h = h
prefix-behind-back (f ∷ k) xs p h = prefix-behind-back k (after f xs) p (prefix-before f xs (k ++ p) h)

-- one more path
pub after-append : (f : ℕ) (xs ys : List Weighed) → after f (xs ++ ys) ≡ after f xs ++ after f ys
after-append f [] ys = refl
after-append f (x ∷ xs) ys = by x.steps (after-append f xs ys)
  where
    by : (s : List Step) → after f (xs ++ ys) ≡ after f xs ++ after f ys → behind_step f s x.weight (after f (xs ++ ys)) ≡ behind_step f s x.weight (after f xs) ++ after f ys
    by [] e = e
    by (s ∷ y) e = elim (eqb f s.func) as (λ b. cond b (record { steps = y; weight = x.weight } ∷ after f (xs ++ ys)) (after f (xs ++ ys)) ≡ cond b (record { steps = y; weight = x.weight } ∷ after f xs) (after f xs) ++ after f ys) [
      | true ↦ ap (λ z. record { steps = y; weight = x.weight } ∷ z) e
      | false ↦ e
    ]

-- where no path begins with a function there is nothing behind it
pub after-none : (f : ℕ) (xs : List Weighed) → (HasPrefix xs (f ∷ []) → ⊥) → after f xs ≡ []
after-none f xs n = nothing (after f xs) (λ h. n (prefix-after f xs [] h))
  where
    nothing : (ys : List Weighed) → (HasPrefix ys [] → ⊥) → ys ≡ []
    nothing [] n = refl
    nothing (y ∷ ys) n = absurd (n (inl refl))
