-- What each transform makes of a path with one more step
use Rattle.std.proofs.Common.{◌≡◌, ℕ, suc, ◌+◌, ◌<◌, Bool, true, false, cond, not, ◌||◌, ◌&&◌, eqb, List, [], ◌∷◌, ◌++◌, length, take, drop, Option, Some, None, sym, ap, ◌∙◌, refl, append_assoc, arith}
use Rattle.std.specs.Prelude.{◌==◌, nat_lt}
use Rattle.std.specs.List.{filter, fold, list_any, remove, position, position_or_len}
use Rattle.std.specs.Option.{option_map, option_map_or}
use Rattle.std.proofs.lemmas.List.{append-nil}
use Rattle.std.proofs.lemmas.List.Elements.{filter-append}
use Rattle.std.proofs.lemmas.List.Folds.{list_any-append}
use Rattle.std.proofs.lemmas.Bool.Decides.{nat_tests}
use Rattle.std.proofs.Math.Dec.{eqb-zero-suc}
use Rattle.prof_tables.specs.declared.rows.Step.{Step}
use Rattle.prof_tables.specs.Threads.{SharedTables}
use Rattle.prof_path.specs.declared.transform.Implementation.{Implementation}
use Rattle.prof_path.specs.declared.transform.Transform.TheVariants.{MergeFunction, MergeCallNode, DropFunction, FocusSubtree, FocusFunction, FocusCategory, CollapseResource, CollapseDirectRecursion, CollapseRecursion, CollapseFunctionSubtree, FilterSamples}
use Rattle.prof_path.specs.Shown.{shown, funcs, seen, names}
use Rattle.prof_path.specs.Rewriting.{rewrite, is_func, is_hidden, has_resource, is_during, meets, end_of, up_to_end, collapsed, without_repeats, after_last_of}
use Rattle.prof_path.specs.Stepwise.{along, along_next, has_met, completes, next_called, called, next_inside, inside, NamesStep, AlongStep, CalledStep, InsideStep, EmptyStays, MergeFunctionStep, MergeCallNodeStep, DropFunctionStep, FocusSubtreeStep, InvertedFocusStep, FocusFunctionStep, FocusCategoryStep, CollapseResourceStep, CollapseDirectRecursionStep, CollapseRecursionStep, CollapseFunctionSubtreeStep, FilterSamplesStep, OneMoreTransform}
use Rattle.prof_path.proofs.EndPlaces.{end_of-hidden, end_of-shown_none, end_of-other, end_of-met, names-hidden, names-shown, up_to_end-hidden, up_to_end-other, up_to_end-last, up_to_end-met}

filter-step : {X : Type 0} (p : X → Bool) (x : List X) (s : X) → filter p (x ++ s ∷ []) ≡ cond (p s) (filter p x ++ s ∷ []) (filter p x)
filter-step p x s = filter-append p x (s ∷ []) ∙ go (p s)
  where
    go : (b : Bool) → filter p x ++ cond b (s ∷ []) [] ≡ cond b (filter p x ++ s ∷ []) (filter p x)
    go true = refl
    go false = append-nil (filter p x)

cond-not : {X : Type 0} (b : Bool) (x y : X) → cond (not b) x y ≡ cond b y x
cond-not true x y = refl
cond-not false x y = refl

cond-same : {X : Type 0} (b : Bool) (x : X) → cond b x x ≡ x
cond-same true x = refl
cond-same false x = refl

pub merge_function : MergeFunctionStep
merge_function t f spans x s m =
    filter-step (λ s. not (is_func f s)) x s ∙ cond-not (is_func f s) (filter (λ s. not (is_func f s)) x ++ s ∷ []) (filter (λ s. not (is_func f s)) x)

pub focus_category : FocusCategoryStep
focus_category t c spans x s m = filter-step (λ (s : Step). s.category == c) x s

-- the states
map-step : (x : List Step) (s : Step) → funcs (x ++ s ∷ []) ≡ funcs x ++ s.func ∷ []
map-step [] s = refl
map-step (y ∷ x) s = ap (λ l. y.func ∷ l) (map-step x s)

pub names_step : NamesStep
names_step t i x s = ap funcs (filter-step (λ (s : Step). shown t i s.func) x s) ∙ go (shown t i s.func)
  where
    go : (b : Bool) → funcs (cond b (seen t i x ++ s ∷ []) (seen t i x)) ≡ cond b (names t i x ++ s.func ∷ []) (names t i x)
    go true = map-step (seen t i x) s
    go false = refl

fold-step : {A B : Type 0} (f : B → A → B) (b : B) (x : List A) (s : A) → fold f b (x ++ s ∷ []) ≡ f (fold f b x) s
fold-step f b [] s = refl
fold-step f b (y ∷ x) s = fold-step f (f b y) x s

pub called_step : CalledStep
called_step t i f x s = fold-step (next_called t i f) false x s

pub inside_step : InsideStep
inside_step t i r x s = fold-step (next_inside t i r) false x s

-- one more function in front of both lists
eqb-suc : (k n : ℕ) → eqb (k + 1) (suc n) ≡ eqb k n
eqb-suc k n = grind (arith, nat_tests)

meets-more : (q : List ℕ) (g k f : ℕ) → meets (g ∷ q) (k + 1) f ≡ meets q k f
meets-more q g k f = ap (λ j. meets (g ∷ q) j f) (let e : k + 1 ≡ suc k = omega arith in e)

along_next-more : (q : List ℕ) (g : ℕ) (met : Option ℕ) (f : ℕ) → along_next (g ∷ q) (option_map (λ k. k + 1) met) f ≡ option_map (λ k. k + 1) (along_next q met f)
along_next-more q g None f = refl
along_next-more q g (Some k) f =
    ap (λ b. cond b (Some (k + 1)) (cond (meets (g ∷ q) (k + 1) f) (Some (k + 1 + 1)) None)) (eqb-suc k (length q))
    ∙ ap (λ b. cond (eqb k (length q)) (Some (k + 1)) (cond b (Some (k + 1 + 1)) None)) (meets-more q g k f)
    ∙ go (eqb k (length q)) (meets q k f)
  where
    go : (a b : Bool) → cond a (Some (k + 1)) (cond b (Some (k + 1 + 1)) None) ≡ option_map (λ k. k + 1) (cond a (Some k) (cond b (Some (k + 1)) None))
    go true b = refl
    go false true = refl
    go false false = refl

along-none : (q : List ℕ) → along q [] ≡ Some 0
along-none [] = refl
along-none (f ∷ q) = refl

pub along_step : AlongStep
along_step [] [] f = refl
along_step [] (n ∷ ns) f = refl
along_step (g ∷ q) [] f =
    ap (λ o. cond (eqb f g) (option_map (λ k. k + 1) o) None) (along-none q)
    ∙ sym (ap (λ b. cond b (Some 0) (cond (eqb f g) (Some 1) None)) (eqb-zero-suc (length q)))
along_step (g ∷ q) (n ∷ ns) f =
    ap (λ o. cond (eqb n g) (option_map (λ k. k + 1) o) None) (along_step q ns f) ∙ go (eqb n g)
  where
    go : (b : Bool) → cond b (option_map (λ k. k + 1) (along_next q (along q ns) f)) None ≡ along_next (g ∷ q) (cond b (option_map (λ k. k + 1) (along q ns)) None) f
    go true = sym (along_next-more q g (along q ns) f)
    go false = refl

has_met-more : (q : List ℕ) (g : ℕ) (met : Option ℕ) → has_met (g ∷ q) (option_map (λ k. k + 1) met) ≡ has_met q met
has_met-more q g None = refl
has_met-more q g (Some k) = eqb-suc k (length q)

completes-more : (q : List ℕ) (g : ℕ) (met : Option ℕ) (f : ℕ) → completes (g ∷ q) (option_map (λ k. k + 1) met) f ≡ completes q met f
completes-more q g None f = refl
completes-more q g (Some k) f =
    ap (λ b. b && eqb (k + 1 + 1) (suc (length q))) (meets-more q g k f) ∙ ap (λ b. meets q k f && b) (eqb-suc (k + 1) (length q))

pub drop_function : DropFunctionStep
drop_function t f spans x s m = ap (λ b. cond b [] (x ++ s ∷ [])) (list_any-append (is_func f) x (s ∷ [])) ∙ go (list_any (is_func f) x) (is_func f s)
  where
    go : (a b : Bool) → cond (a || (b || false)) [] (x ++ s ∷ []) ≡ cond (a || b) [] (cond a [] x ++ s ∷ [])
    go true b = refl
    go false true = refl
    go false false = refl

pub filter_samples : FilterSamplesStep
filter_samples t text spans x s m = go (list_any (is_during m) spans)
  where
    go : (b : Bool) → cond b (x ++ s ∷ []) [] ≡ cond b (cond b x [] ++ s ∷ []) []
    go true = refl
    go false = refl

-- the first step that passes a test
module _ (p : Step → Bool) where
  position-cons : (s : Step) (x : List Step) → position p (s ∷ x) ≡ cond (p s) (Some 0) (option_map suc (position p x))
  position-cons s x = go (p s)
    where
      one : 1 + position_or_len p x ≡ suc (position_or_len p x)
      one = omega arith

      go : (b : Bool) → cond (nat_lt (cond (not b) (1 + position_or_len p x) 0) (length (s ∷ x))) (Some (cond (not b) (1 + position_or_len p x) 0)) None ≡ cond b (Some 0) (option_map suc (position p x))
      go true = ap (λ c. cond c (Some 0) None) (let e : nat_lt 0 (length (s ∷ x)) ≡ true = grind (arith, nat_tests) in e)
      go false =
          ap (λ n. cond (nat_lt n (length (s ∷ x))) (Some n) None) one
          ∙ ap (λ c. cond c (Some (suc (position_or_len p x))) None) (let e : nat_lt (suc (position_or_len p x)) (length (s ∷ x)) ≡ nat_lt (position_or_len p x) (length x) = grind (arith, nat_tests) in e)
          ∙ up (nat_lt (position_or_len p x) (length x))
        where
          up : (c : Bool) → cond c (Some (suc (position_or_len p x))) None ≡ option_map suc (cond c (Some (position_or_len p x)) None)
          up true = refl
          up false = refl

  abbrev from_first : List Step → List Step
  from_first x = option_map_or (λ k. drop k x) (position p x) []

  abbrev upto_first : List Step → List Step
  upto_first x = option_map_or (λ k. take (k + 1) x) (position p x) x

  from_first-cons : (s : Step) (x : List Step) → from_first (s ∷ x) ≡ cond (p s) (s ∷ x) (from_first x)
  from_first-cons s x = ap (λ o. option_map_or (λ k. drop k (s ∷ x)) o []) (position-cons s x) ∙ go (p s) (position p x)
    where
      go : (b : Bool) (o : Option ℕ) → option_map_or (λ k. drop k (s ∷ x)) (cond b (Some 0) (option_map suc o)) [] ≡ cond b (s ∷ x) (option_map_or (λ k. drop k x) o [])
      go true o = refl
      go false None = refl
      go false (Some k) = refl

  upto_first-cons : (s : Step) (x : List Step) → upto_first (s ∷ x) ≡ cond (p s) (s ∷ []) (s ∷ upto_first x)
  upto_first-cons s x = ap (λ o. option_map_or (λ k. take (k + 1) (s ∷ x)) o (s ∷ x)) (position-cons s x) ∙ go (p s) (position p x)
    where
      go : (b : Bool) (o : Option ℕ) → option_map_or (λ k. take (k + 1) (s ∷ x)) (cond b (Some 0) (option_map suc o)) (s ∷ x) ≡ cond b (s ∷ []) (s ∷ option_map_or (λ k. take (k + 1) x) o x)
      go true o = refl
      go false None = refl
      go false (Some k) = ap (λ n. take n (s ∷ x)) (let e : suc k + 1 ≡ suc (k + 1) = omega arith in e)

  from_first-step : (x : List Step) (s : Step) → from_first (x ++ s ∷ []) ≡ cond (list_any p x || p s) (from_first x ++ s ∷ []) []
  from_first-step [] s = from_first-cons s []
  from_first-step (y ∷ x) s =
      from_first-cons y (x ++ s ∷ [])
      ∙ ap (λ l. cond (p y) (y ∷ x ++ s ∷ []) l) (from_first-step x s)
      ∙ go (p y)
      ∙ sym (ap (λ l. cond (p y || list_any p x || p s) (l ++ s ∷ []) []) (from_first-cons y x))
    where
      go : (b : Bool) → cond b (y ∷ x ++ s ∷ []) (cond (list_any p x || p s) (from_first x ++ s ∷ []) []) ≡ cond (b || list_any p x || p s) (cond b (y ∷ x) (from_first x) ++ s ∷ []) []
      go true = refl
      go false = refl

  upto_first-step : (x : List Step) (s : Step) → upto_first (x ++ s ∷ []) ≡ cond (list_any p x) (upto_first x) (upto_first x ++ s ∷ [])
  upto_first-step [] s = upto_first-cons s [] ∙ go (p s)
    where
      go : (b : Bool) → cond b (s ∷ []) (s ∷ []) ≡ s ∷ []
      go true = refl
      go false = refl
  upto_first-step (y ∷ x) s =
      upto_first-cons y (x ++ s ∷ [])
      ∙ ap (λ l. cond (p y) (y ∷ []) (y ∷ l)) (upto_first-step x s)
      ∙ go (p y) (list_any p x)
      ∙ sym (ap (λ l. cond (p y || list_any p x) l (l ++ s ∷ [])) (upto_first-cons y x))
    where
      go : (a b : Bool) → cond a (y ∷ []) (y ∷ cond b (upto_first x) (upto_first x ++ s ∷ [])) ≡ cond (a || b) (cond a (y ∷ []) (y ∷ upto_first x)) (cond a (y ∷ []) (y ∷ upto_first x) ++ s ∷ [])
      go true b = refl
      go false true = refl
      go false false = refl

  none-upto : (x : List Step) → list_any p x ≡ false → upto_first x ≡ x
  none-upto [] h = refl
  none-upto (y ∷ x) h =
      let a : p y ≡ false = or-left (p y) (list_any p x) h in
      let b : list_any p x ≡ false = or-right (p y) (list_any p x) h in
      upto_first-cons y x ∙ ap (λ c. cond c (y ∷ []) (y ∷ upto_first x)) a ∙ ap (λ l. y ∷ l) (none-upto x b)
    where
      or-left : (a b : Bool) → (a || b) ≡ false → a ≡ false
      or-left true b e = e
      or-left false b e = refl

      or-right : (a b : Bool) → (a || b) ≡ false → b ≡ false
      or-right true b e = cc
      or-right false b e = e

  any-position : (x : List Step) → list_any p x ≡ option_map_or (λ (k : ℕ). true) (position p x) false
  any-position [] = refl
  any-position (y ∷ x) = go (any-position x) (p y) ∙ sym (ap (λ o. option_map_or (λ (k : ℕ). true) o false) (position-cons y x))
    where
      up : (o : Option ℕ) → option_map_or (λ (k : ℕ). true) o false ≡ option_map_or (λ (k : ℕ). true) (option_map suc o) false
      up None = refl
      up (Some k) = refl

      go : list_any p x ≡ option_map_or (λ (k : ℕ). true) (position p x) false → (b : Bool) → (b || list_any p x) ≡ option_map_or (λ (k : ℕ). true) (cond b (Some 0) (option_map suc (position p x))) false
      go e true = refl
      go e false = e ∙ up (position p x)

pub focus_function : FocusFunctionStep
focus_function t f spans x s m = from_first-step (is_func f) x s

pub collapse_function_subtree : CollapseFunctionSubtreeStep
collapse_function_subtree t f spans x s m = upto_first-step (is_func f) x s

-- the last step of f
module _ (f : ℕ) where
  after-step : (x : List Step) (s : Step) → after_last_of f (x ++ s ∷ []) ≡ cond (is_func f s) [] (after_last_of f x ++ s ∷ [])
  after-step [] s = go (is_func f s)
    where
      go : (b : Bool) → cond (b || false) [] (s ∷ []) ≡ cond b [] (s ∷ [])
      go true = refl
      go false = refl
  after-step (y ∷ x) s =
      ap (λ b. cond (is_func f y || b) (after_last_of f (x ++ s ∷ [])) (y ∷ x ++ s ∷ [])) (list_any-append (is_func f) x (s ∷ []))
      ∙ ap (λ l. cond (is_func f y || (list_any (is_func f) x || (is_func f s || false))) l (y ∷ x ++ s ∷ [])) (after-step x s)
      ∙ go (is_func f y) (list_any (is_func f) x) (is_func f s)
    where
      go : (a b c : Bool) → cond (a || (b || (c || false))) (cond c [] (after_last_of f x ++ s ∷ [])) (y ∷ x ++ s ∷ []) ≡ cond c [] (cond (a || b) (after_last_of f x) (y ∷ x) ++ s ∷ [])
      go true b true = refl
      go true b false = refl
      go false true true = refl
      go false true false = refl
      go false false true = refl
      go false false false = refl

  abbrev once : List Step → List Step
  once x = option_map_or (λ k. take (k + 1) x ++ after_last_of f x) (position (is_func f) x) x

  once-is : (x : List Step) → once x ≡ cond (list_any (is_func f) x) (upto_first (is_func f) x ++ after_last_of f x) x
  once-is x = go (position (is_func f) x) ∙ sym (ap (λ b. cond b (upto_first (is_func f) x ++ after_last_of f x) x) (any-position (is_func f) x))
    where
      go : (o : Option ℕ) → option_map_or (λ k. take (k + 1) x ++ after_last_of f x) o x ≡ cond (option_map_or (λ (k : ℕ). true) o false) (option_map_or (λ k. take (k + 1) x) o x ++ after_last_of f x) x
      go None = refl
      go (Some k) = refl

  once-step : (x : List Step) (s : Step) → once (x ++ s ∷ []) ≡ cond (is_func f s && list_any (is_func f) x) (upto_first (is_func f) x) (once x ++ s ∷ [])
  once-step x s =
      once-is (x ++ s ∷ [])
      ∙ ap (λ b. cond b (upto_first (is_func f) (x ++ s ∷ []) ++ after_last_of f (x ++ s ∷ [])) (x ++ s ∷ [])) (list_any-append (is_func f) x (s ∷ []))
      ∙ ap (λ l. cond (list_any (is_func f) x || (is_func f s || false)) (l ++ after_last_of f (x ++ s ∷ [])) (x ++ s ∷ [])) (upto_first-step (is_func f) x s)
      ∙ ap (λ l. cond (list_any (is_func f) x || (is_func f s || false)) (cond (list_any (is_func f) x) (upto_first (is_func f) x) (upto_first (is_func f) x ++ s ∷ []) ++ l) (x ++ s ∷ [])) (after-step x s)
      ∙ go (list_any (is_func f) x) (is_func f s) (none-upto (is_func f) x)
      ∙ sym (ap (λ l. cond (is_func f s && list_any (is_func f) x) (upto_first (is_func f) x) (l ++ s ∷ [])) (once-is x))
    where
      go : (a b : Bool) → (a ≡ false → upto_first (is_func f) x ≡ x) →
          cond (a || (b || false)) (cond a (upto_first (is_func f) x) (upto_first (is_func f) x ++ s ∷ []) ++ cond b [] (after_last_of f x ++ s ∷ [])) (x ++ s ∷ [])
          ≡ cond (b && a) (upto_first (is_func f) x) (cond a (upto_first (is_func f) x ++ after_last_of f x) x ++ s ∷ [])
      go true true n = append-nil (upto_first (is_func f) x)
      go true false n = sym (append_assoc (upto_first (is_func f) x) (after_last_of f x) (s ∷ []))
      go false true n = append-nil (upto_first (is_func f) x ++ s ∷ []) ∙ ap (λ l. l ++ s ∷ []) (n refl)
      go false false n = refl

pub collapse_recursion : CollapseRecursionStep
collapse_recursion t f spans x s m = once-step f x s

-- runs of a resource, and repeats of a function
module _ (t : SharedTables) (i : Implementation) (r : ℕ) where
  abbrev last_inside : Bool → Step → List Step
  last_inside b s = cond (next_inside t i r b s) (cond b [] ((record s { func = length t.funcs + r }) ∷ [])) (s ∷ [])

  collapsed-step : (b : Bool) (x : List Step) (s : Step) → collapsed t i r b (x ++ s ∷ []) ≡ collapsed t i r b x ++ last_inside (fold (next_inside t i r) b x) s
  collapsed-step b [] s = go (has_resource t r s || (is_hidden t i s && b)) b
    where
      go : (c d : Bool) → cond c (cond d [] ((record s { func = length t.funcs + r }) ∷ []) ++ []) (s ∷ []) ≡ cond c (cond d [] ((record s { func = length t.funcs + r }) ∷ [])) (s ∷ [])
      go true true = refl
      go true false = refl
      go false d = refl
  collapsed-step b (y ∷ x) s = go (λ d. collapsed-step d x s) (has_resource t r y || (is_hidden t i y && b))
    where
      go : ((d : Bool) → collapsed t i r d (x ++ s ∷ []) ≡ collapsed t i r d x ++ last_inside (fold (next_inside t i r) d x) s) → (c : Bool) →
          cond c (cond b [] ((record y { func = length t.funcs + r }) ∷ []) ++ collapsed t i r true (x ++ s ∷ [])) (y ∷ collapsed t i r false (x ++ s ∷ []))
          ≡ cond c (cond b [] ((record y { func = length t.funcs + r }) ∷ []) ++ collapsed t i r true x) (y ∷ collapsed t i r false x) ++ last_inside (fold (next_inside t i r) c x) s
      go more true =
          ap (λ l. cond b [] ((record y { func = length t.funcs + r }) ∷ []) ++ l) (more true)
          ∙ sym (append_assoc (cond b [] ((record y { func = length t.funcs + r }) ∷ [])) (collapsed t i r true x) (last_inside (fold (next_inside t i r) true x) s))
      go more false = ap (λ l. y ∷ l) (more false)

  collapse_resource-step : (x : List Step) (s : Step) → collapsed t i r false (x ++ s ∷ []) ≡ cond (next_inside t i r (inside t i r x) s) (cond (inside t i r x) (collapsed t i r false x) (collapsed t i r false x ++ (record s { func = length t.funcs + r }) ∷ [])) (collapsed t i r false x ++ s ∷ [])
  collapse_resource-step x s = collapsed-step false x s ∙ go (next_inside t i r (inside t i r x) s) (inside t i r x)
    where
      go : (c d : Bool) → collapsed t i r false x ++ cond c (cond d [] ((record s { func = length t.funcs + r }) ∷ [])) (s ∷ []) ≡ cond c (cond d (collapsed t i r false x) (collapsed t i r false x ++ (record s { func = length t.funcs + r }) ∷ [])) (collapsed t i r false x ++ s ∷ [])
      go true true = append-nil (collapsed t i r false x)
      go true false = refl
      go false d = refl

pub collapse_resource : CollapseResourceStep
collapse_resource t i r spans x s m = collapse_resource-step t i r x s

module _ (t : SharedTables) (i : Implementation) (f : ℕ) where
  abbrev last_called : Bool → Step → List Step
  last_called c s = cond (is_func f s && c) [] (s ∷ [])

  repeats-step : (c : Bool) (x : List Step) (s : Step) → without_repeats t i f c (x ++ s ∷ []) ≡ without_repeats t i f c x ++ last_called (fold (next_called t i f) c x) s
  repeats-step c [] s = go (is_func f s) c
    where
      go : (a d : Bool) → cond a (cond d [] (s ∷ []) ++ []) (s ∷ []) ≡ cond (a && d) [] (s ∷ [])
      go true true = refl
      go true false = refl
      go false d = refl
  repeats-step c (y ∷ x) s = go (λ d. repeats-step d x s) (is_func f y)
    where
      go : ((d : Bool) → without_repeats t i f d (x ++ s ∷ []) ≡ without_repeats t i f d x ++ last_called (fold (next_called t i f) d x) s) → (a : Bool) →
          cond a (cond c [] (y ∷ []) ++ without_repeats t i f true (x ++ s ∷ [])) (y ∷ without_repeats t i f (c && is_hidden t i y) (x ++ s ∷ []))
          ≡ cond a (cond c [] (y ∷ []) ++ without_repeats t i f true x) (y ∷ without_repeats t i f (c && is_hidden t i y) x) ++ last_called (fold (next_called t i f) (a || (c && is_hidden t i y)) x) s
      go more true =
          ap (λ l. cond c [] (y ∷ []) ++ l) (more true)
          ∙ sym (append_assoc (cond c [] (y ∷ [])) (without_repeats t i f true x) (last_called (fold (next_called t i f) true x) s))
      go more false = ap (λ l. y ∷ l) (more (c && is_hidden t i y))

  pub direct-step : (x : List Step) (s : Step) → without_repeats t i f false (x ++ s ∷ []) ≡ cond (is_func f s && called t i f x) (without_repeats t i f false x) (without_repeats t i f false x ++ s ∷ [])
  direct-step x s = repeats-step false x s ∙ go (is_func f s && called t i f x)
    where
      go : (c : Bool) → without_repeats t i f false x ++ cond c [] (s ∷ []) ≡ cond c (without_repeats t i f false x) (without_repeats t i f false x ++ s ∷ [])
      go true = append-nil (without_repeats t i f false x)
      go false = refl

pub collapse_direct_recursion : CollapseDirectRecursionStep
collapse_direct_recursion t i f spans x s m = direct-step t i f x s

pub empty_stays : EmptyStays
empty_stays t (MergeFunction f) spans m = refl
empty_stays t (MergeCallNode i q) spans m = refl
empty_stays t (DropFunction f) spans m = refl
empty_stays t (FocusSubtree i q true) spans m = refl
empty_stays t (FocusSubtree i q false) spans m = refl
empty_stays t (FocusFunction f) spans m = refl
empty_stays t (FocusCategory c) spans m = refl
empty_stays t (CollapseResource i r) spans m = refl
empty_stays t (CollapseDirectRecursion i f) spans m = refl
empty_stays t (CollapseRecursion f) spans m = refl
empty_stays t (CollapseFunctionSubtree f) spans m = refl
empty_stays t (FilterSamples text) spans m = cond-same (list_any (is_during m) spans) []

pub one_more_transform : OneMoreTransform
one_more_transform t [] [] u found x m e = refl
one_more_transform t [] (y ∷ ys) u found x m e = absurd (omega arith)
one_more_transform t (v ∷ vs) [] u found x m e = absurd (omega arith)
one_more_transform t (v ∷ vs) (y ∷ ys) u found x m e = one_more_transform t vs ys u found (rewrite t v y x m) m (omega arith)

-- call nodes
cons-cond : (b : Bool) (y s : Step) (x : List Step) → y ∷ cond b x (x ++ s ∷ []) ≡ cond b (y ∷ x) (y ∷ x ++ s ∷ [])
cons-cond true y s x = refl
cons-cond false y s x = refl

and-none : {X : Type 0} (b : Bool) (x y : X) → cond (b && false) x y ≡ y
and-none true x y = refl
and-none false x y = refl

one-of-more : (n : ℕ) → eqb 1 (suc (suc n)) ≡ false
one-of-more n = grind (arith, nat_tests)

module _ (t : SharedTables) (i : Implementation) where
  abbrev merged : List ℕ → List Step → List Step
  merged q x = option_map_or (remove x) (end_of t i q x) x

  remove-suc : (y : Step) (x : List Step) (o : Option ℕ) → option_map_or (remove (y ∷ x)) (option_map suc o) (y ∷ x) ≡ y ∷ option_map_or (remove x) o x
  remove-suc y x None = refl
  remove-suc y x (Some k) = refl

  abbrev removed : Step → List Step → Option ℕ → List Step
  removed y x o = option_map_or (remove (y ∷ x)) o (y ∷ x)

  merged-hidden : (q : List ℕ) (y : Step) (x : List Step) → shown t i y.func ≡ false → merged q (y ∷ x) ≡ y ∷ merged q x
  merged-hidden q y x h = ap (removed y x) (end_of-hidden t i q y x h) ∙ remove-suc y x (end_of t i q x)

  merged-none : (y : Step) (x : List Step) → shown t i y.func ≡ true → merged [] (y ∷ x) ≡ y ∷ x
  merged-none y x h = ap (removed y x) (end_of-shown_none t i y x h)

  merged-other : (q : List ℕ) (f : ℕ) (y : Step) (x : List Step) → shown t i y.func ≡ true → eqb y.func f ≡ false → merged (f ∷ q) (y ∷ x) ≡ y ∷ x
  merged-other q f y x h e = ap (removed y x) (end_of-other t i q f y x h e)

  merged-last : (f : ℕ) (y : Step) (x : List Step) → shown t i y.func ≡ true → eqb y.func f ≡ true → merged (f ∷ []) (y ∷ x) ≡ x
  merged-last f y x h e = ap (removed y x) (end_of-met t i [] f y x h e)

  merged-more : (q : List ℕ) (f g : ℕ) (y : Step) (x : List Step) → shown t i y.func ≡ true → eqb y.func f ≡ true → merged (f ∷ g ∷ q) (y ∷ x) ≡ y ∷ merged (g ∷ q) x
  merged-more q f g y x h e = ap (removed y x) (end_of-met t i (g ∷ q) f y x h e) ∙ remove-suc y x (end_of t i (g ∷ q) x)

  abbrev focused : List ℕ → List Step → List Step
  focused q x = option_map_or (λ k. drop k x) (end_of t i q x) []

  drop-on : (y : Step) (x : List Step) (o : Option ℕ) → option_map_or (λ k. drop k (y ∷ x)) (option_map suc o) [] ≡ option_map_or (λ k. drop k x) o []
  drop-on y x None = refl
  drop-on y x (Some k) = refl

  abbrev dropped : Step → List Step → Option ℕ → List Step
  dropped y x o = option_map_or (λ k. drop k (y ∷ x)) o []

  focused-hidden : (q : List ℕ) (y : Step) (x : List Step) → shown t i y.func ≡ false → focused q (y ∷ x) ≡ focused q x
  focused-hidden q y x h = ap (dropped y x) (end_of-hidden t i q y x h) ∙ drop-on y x (end_of t i q x)

  focused-other : (q : List ℕ) (f : ℕ) (y : Step) (x : List Step) → shown t i y.func ≡ true → eqb y.func f ≡ false → focused (f ∷ q) (y ∷ x) ≡ []
  focused-other q f y x h e = ap (dropped y x) (end_of-other t i q f y x h e)

  focused-last : (f : ℕ) (y : Step) (x : List Step) → shown t i y.func ≡ true → eqb y.func f ≡ true → focused (f ∷ []) (y ∷ x) ≡ y ∷ x
  focused-last f y x h e = ap (dropped y x) (end_of-met t i [] f y x h e)

  focused-more : (q : List ℕ) (f g : ℕ) (y : Step) (x : List Step) → shown t i y.func ≡ true → eqb y.func f ≡ true → focused (f ∷ g ∷ q) (y ∷ x) ≡ focused (g ∷ q) x
  focused-more q f g y x h e = ap (dropped y x) (end_of-met t i (g ∷ q) f y x h e) ∙ drop-on y x (end_of t i (g ∷ q) x)

  along-other : (q : List ℕ) (f : ℕ) (y : Step) (x : List Step) → shown t i y.func ≡ true → eqb y.func f ≡ false → along (f ∷ q) (names t i (y ∷ x)) ≡ None
  along-other q f y x h e =
      ap (along (f ∷ q)) (names-shown t i y x h) ∙ ap (λ b. cond b (option_map (λ k. k + 1) (along q (names t i x))) None) e

  along-met : (q : List ℕ) (f : ℕ) (y : Step) (x : List Step) → shown t i y.func ≡ true → eqb y.func f ≡ true → along (f ∷ q) (names t i (y ∷ x)) ≡ option_map (λ k. k + 1) (along q (names t i x))
  along-met q f y x h e =
      ap (along (f ∷ q)) (names-shown t i y x h) ∙ ap (λ b. cond b (option_map (λ k. k + 1) (along q (names t i x))) None) e

  module _ (s : Step) where
    -- what the step law of each of the two says, for what is known of the path before
    abbrev unless_last : List ℕ → Option ℕ → List Step → List Step
    unless_last q met x = cond (shown t i s.func && completes q met s.func) x (x ++ s ∷ [])

    abbrev once_met : List ℕ → Option ℕ → List Step → List Step
    once_met q met x = cond (has_met q met) (x ++ s ∷ []) []

    merged-first_met : (q : List ℕ) (f : ℕ) → shown t i s.func ≡ true → eqb s.func f ≡ true → merged (f ∷ q) (s ∷ []) ≡ unless_last (f ∷ q) (Some 0) []
    merged-first_met [] f h e =
        merged-last f s [] h e
        ∙ sym (ap (λ b. cond (b && (eqb s.func f && true)) [] (s ∷ [])) h ∙ ap (λ b. cond (b && true) [] (s ∷ [])) e)
    merged-first_met (g ∷ q) f h e =
        merged-more q f g s [] h e
        ∙ sym (ap (λ b. cond (shown t i s.func && (eqb s.func f && b)) [] (s ∷ [])) (one-of-more (length q)) ∙ ap (λ b. cond (shown t i s.func && (b && false)) [] (s ∷ [])) e ∙ and-none (shown t i s.func) [] (s ∷ []))

    merged-first : (q : List ℕ) (b : Bool) → shown t i s.func ≡ b → merged q (s ∷ []) ≡ unless_last q (along q []) []
    merged-first q false h = merged-hidden q s [] h ∙ sym (ap (λ b. cond (b && completes q (along q []) s.func) [] (s ∷ [])) h)
    merged-first [] true h = merged-none s [] h ∙ sym (and-none (shown t i s.func) [] (s ∷ []))
    merged-first (f ∷ q) true h = go (eqb s.func f) refl
      where
        go : (c : Bool) → eqb s.func f ≡ c → merged (f ∷ q) (s ∷ []) ≡ unless_last (f ∷ q) (Some 0) []
        go true e = merged-first_met q f h e
        go false e =
            merged-other q f s [] h e
            ∙ sym (ap (λ b. cond (shown t i s.func && (b && eqb 1 (suc (length q)))) [] (s ∷ [])) e ∙ and-none (shown t i s.func) [] (s ∷ []))

    merged-next_met : (q : List ℕ) (f : ℕ) (y : Step) (x : List Step) → shown t i y.func ≡ true → eqb y.func f ≡ true
        → ((r : List ℕ) → merged r (x ++ s ∷ []) ≡ unless_last r (along r (names t i x)) (merged r x))
        → merged (f ∷ q) (y ∷ x ++ s ∷ []) ≡ unless_last (f ∷ q) (along (f ∷ q) (names t i (y ∷ x))) (merged (f ∷ q) (y ∷ x))
    merged-next_met [] f y x h e more =
        merged-last f y (x ++ s ∷ []) h e
        ∙ sym (ap (λ o. unless_last (f ∷ []) o (merged (f ∷ []) (y ∷ x))) (along-met [] f y x h e)
        ∙ and-none (shown t i s.func) (merged (f ∷ []) (y ∷ x)) (merged (f ∷ []) (y ∷ x) ++ s ∷ [])
        ∙ ap (λ l. l ++ s ∷ []) (merged-last f y x h e))
    merged-next_met (g ∷ q) f y x h e more =
        merged-more q f g y (x ++ s ∷ []) h e
        ∙ ap (λ l. y ∷ l) (more (g ∷ q))
        ∙ cons-cond (shown t i s.func && completes (g ∷ q) (along (g ∷ q) (names t i x)) s.func) y s (merged (g ∷ q) x)
        ∙ sym (ap (λ o. unless_last (f ∷ g ∷ q) o (merged (f ∷ g ∷ q) (y ∷ x))) (along-met (g ∷ q) f y x h e)
        ∙ ap (λ b. cond (shown t i s.func && b) (merged (f ∷ g ∷ q) (y ∷ x)) (merged (f ∷ g ∷ q) (y ∷ x) ++ s ∷ [])) (completes-more (g ∷ q) f (along (g ∷ q) (names t i x)) s.func)
        ∙ ap (λ l. cond (shown t i s.func && completes (g ∷ q) (along (g ∷ q) (names t i x)) s.func) l (l ++ s ∷ [])) (merged-more q f g y x h e))

    merged-next : (q : List ℕ) (y : Step) (x : List Step) (b : Bool) → shown t i y.func ≡ b
        → ((r : List ℕ) → merged r (x ++ s ∷ []) ≡ unless_last r (along r (names t i x)) (merged r x))
        → merged q (y ∷ x ++ s ∷ []) ≡ unless_last q (along q (names t i (y ∷ x))) (merged q (y ∷ x))
    merged-next q y x false h more =
        merged-hidden q y (x ++ s ∷ []) h
        ∙ ap (λ l. y ∷ l) (more q)
        ∙ cons-cond (shown t i s.func && completes q (along q (names t i x)) s.func) y s (merged q x)
        ∙ sym (ap (λ ns. unless_last q (along q ns) (merged q (y ∷ x))) (names-hidden t i y x h) ∙ ap (unless_last q (along q (names t i x))) (merged-hidden q y x h))
    merged-next [] y x true h more =
        merged-none y (x ++ s ∷ []) h
        ∙ sym (and-none (shown t i s.func) (merged [] (y ∷ x)) (merged [] (y ∷ x) ++ s ∷ []) ∙ ap (λ l. l ++ s ∷ []) (merged-none y x h))
    merged-next (f ∷ q) y x true h more = go (eqb y.func f) refl
      where
        go : (c : Bool) → eqb y.func f ≡ c → merged (f ∷ q) (y ∷ x ++ s ∷ []) ≡ unless_last (f ∷ q) (along (f ∷ q) (names t i (y ∷ x))) (merged (f ∷ q) (y ∷ x))
        go true e = merged-next_met q f y x h e more
        go false e =
            merged-other q f y (x ++ s ∷ []) h e
            ∙ sym (ap (λ o. unless_last (f ∷ q) o (merged (f ∷ q) (y ∷ x))) (along-other q f y x h e)
            ∙ and-none (shown t i s.func) (merged (f ∷ q) (y ∷ x)) (merged (f ∷ q) (y ∷ x) ++ s ∷ [])
            ∙ ap (λ l. l ++ s ∷ []) (merged-other q f y x h e))

    pub merged-step : (q : List ℕ) (x : List Step) → merged q (x ++ s ∷ []) ≡ unless_last q (along q (names t i x)) (merged q x)
    merged-step q [] = merged-first q (shown t i s.func) refl
    merged-step q (y ∷ x) = merged-next q y x (shown t i y.func) refl (λ r. merged-step r x)

    focused-first_met : (q : List ℕ) (f : ℕ) → shown t i s.func ≡ true → eqb s.func f ≡ true → focused (f ∷ q) (s ∷ []) ≡ once_met (f ∷ q) (along (f ∷ q) (names t i (s ∷ []))) []
    focused-first_met [] f h e = focused-last f s [] h e ∙ sym (ap (λ o. once_met (f ∷ []) o []) (along-met [] f s [] h e))
    focused-first_met (g ∷ q) f h e =
        focused-more q f g s [] h e
        ∙ sym (ap (λ o. once_met (f ∷ g ∷ q) o []) (along-met (g ∷ q) f s [] h e) ∙ ap (λ b. cond b (s ∷ []) []) (one-of-more (length q)))

    focused-first : (q : List ℕ) (f : ℕ) (b : Bool) → shown t i s.func ≡ b → focused (f ∷ q) (s ∷ []) ≡ once_met (f ∷ q) (along (f ∷ q) (names t i (s ∷ []))) []
    focused-first q f false h =
        focused-hidden (f ∷ q) s [] h
        ∙ sym (ap (λ ns. once_met (f ∷ q) (along (f ∷ q) ns) []) (names-hidden t i s [] h) ∙ ap (λ b. cond b (s ∷ []) []) (eqb-zero-suc (length q)))
    focused-first q f true h = go (eqb s.func f) refl
      where
        go : (c : Bool) → eqb s.func f ≡ c → focused (f ∷ q) (s ∷ []) ≡ once_met (f ∷ q) (along (f ∷ q) (names t i (s ∷ []))) []
        go true e = focused-first_met q f h e
        go false e = focused-other q f s [] h e ∙ sym (ap (λ o. once_met (f ∷ q) o []) (along-other q f s [] h e))

    focused-next_met : (q : List ℕ) (f : ℕ) (y : Step) (x : List Step) → shown t i y.func ≡ true → eqb y.func f ≡ true
        → ((g : ℕ) (r : List ℕ) → focused (g ∷ r) (x ++ s ∷ []) ≡ once_met (g ∷ r) (along (g ∷ r) (names t i (x ++ s ∷ []))) (focused (g ∷ r) x))
        → focused (f ∷ q) (y ∷ x ++ s ∷ []) ≡ once_met (f ∷ q) (along (f ∷ q) (names t i (y ∷ x ++ s ∷ []))) (focused (f ∷ q) (y ∷ x))
    focused-next_met [] f y x h e more =
        focused-last f y (x ++ s ∷ []) h e
        ∙ sym (ap (λ o. once_met (f ∷ []) o (focused (f ∷ []) (y ∷ x))) (along-met [] f y (x ++ s ∷ []) h e) ∙ ap (λ l. l ++ s ∷ []) (focused-last f y x h e))
    focused-next_met (g ∷ q) f y x h e more =
        focused-more q f g y (x ++ s ∷ []) h e
        ∙ more g q
        ∙ sym (ap (λ o. once_met (f ∷ g ∷ q) o (focused (f ∷ g ∷ q) (y ∷ x))) (along-met (g ∷ q) f y (x ++ s ∷ []) h e)
        ∙ ap (λ b. cond b (focused (f ∷ g ∷ q) (y ∷ x) ++ s ∷ []) []) (has_met-more (g ∷ q) f (along (g ∷ q) (names t i (x ++ s ∷ []))))
        ∙ ap (once_met (g ∷ q) (along (g ∷ q) (names t i (x ++ s ∷ [])))) (focused-more q f g y x h e))

    focused-next : (q : List ℕ) (f : ℕ) (y : Step) (x : List Step) (b : Bool) → shown t i y.func ≡ b
        → ((g : ℕ) (r : List ℕ) → focused (g ∷ r) (x ++ s ∷ []) ≡ once_met (g ∷ r) (along (g ∷ r) (names t i (x ++ s ∷ []))) (focused (g ∷ r) x))
        → focused (f ∷ q) (y ∷ x ++ s ∷ []) ≡ once_met (f ∷ q) (along (f ∷ q) (names t i (y ∷ x ++ s ∷ []))) (focused (f ∷ q) (y ∷ x))
    focused-next q f y x false h more =
        focused-hidden (f ∷ q) y (x ++ s ∷ []) h
        ∙ more f q
        ∙ sym (ap (λ ns. once_met (f ∷ q) (along (f ∷ q) ns) (focused (f ∷ q) (y ∷ x))) (names-hidden t i y (x ++ s ∷ []) h)
        ∙ ap (once_met (f ∷ q) (along (f ∷ q) (names t i (x ++ s ∷ [])))) (focused-hidden (f ∷ q) y x h))
    focused-next q f y x true h more = go (eqb y.func f) refl
      where
        go : (c : Bool) → eqb y.func f ≡ c → focused (f ∷ q) (y ∷ x ++ s ∷ []) ≡ once_met (f ∷ q) (along (f ∷ q) (names t i (y ∷ x ++ s ∷ []))) (focused (f ∷ q) (y ∷ x))
        go true e = focused-next_met q f y x h e more
        go false e =
            focused-other q f y (x ++ s ∷ []) h e
            ∙ sym (ap (λ o. once_met (f ∷ q) o (focused (f ∷ q) (y ∷ x))) (along-other q f y (x ++ s ∷ []) h e))

    focused-more_steps : (f : ℕ) (q : List ℕ) (x : List Step) → focused (f ∷ q) (x ++ s ∷ []) ≡ once_met (f ∷ q) (along (f ∷ q) (names t i (x ++ s ∷ []))) (focused (f ∷ q) x)
    focused-more_steps f q [] = focused-first q f (shown t i s.func) refl
    focused-more_steps f q (y ∷ x) = focused-next q f y x (shown t i y.func) refl (λ g r. focused-more_steps g r x)

    pub focused-step : (q : List ℕ) (x : List Step) → 0 < length q → focused q (x ++ s ∷ []) ≡ once_met q (along q (names t i (x ++ s ∷ []))) (focused q x)
    focused-step [] x l = absurd (omega arith)
    focused-step (f ∷ q) x l = focused-more_steps f q x

    abbrev one_up : ℕ → List ℕ → List Step → Bool → Bool → List Step
    one_up f q x hidden same = cond hidden (up_to_end t i (f ∷ q) x) (cond same (cond (length q == 0) (x ++ s ∷ []) (up_to_end t i q x)) [])

    inverted-met : (f : ℕ) (q : List ℕ) (x : List Step) → shown t i s.func ≡ true → eqb s.func f ≡ true → up_to_end t i (f ∷ q) (x ++ s ∷ []) ≡ cond (length q == 0) (x ++ s ∷ []) (up_to_end t i q x)
    inverted-met f [] x h e = up_to_end-last t i f x s h e
    inverted-met f (g ∷ q) x h e =
        up_to_end-met t i q f g x s h e
        ∙ sym (ap (λ b. cond b (x ++ s ∷ []) (up_to_end t i (g ∷ q) x)) (let z : eqb (suc (length q)) 0 ≡ false = grind (arith, nat_tests) in z))

    pub inverted-step : (f : ℕ) (q : List ℕ) (x : List Step) → up_to_end t i (f ∷ q) (x ++ s ∷ []) ≡ one_up f q x (is_hidden t i s) (is_func f s)
    inverted-step f q x = go (shown t i s.func) (is_func f s) refl refl
      where
        go : (b c : Bool) → shown t i s.func ≡ b → is_func f s ≡ c → up_to_end t i (f ∷ q) (x ++ s ∷ []) ≡ one_up f q x (is_hidden t i s) (is_func f s)
        go false c h e = up_to_end-hidden t i (f ∷ q) x s h ∙ sym (ap (λ b. one_up f q x (not b) (is_func f s)) h)
        go true false h e = up_to_end-other t i q f x s h e ∙ sym (ap (λ b. one_up f q x (not b) (is_func f s)) h ∙ ap (one_up f q x false) e)
        go true true h e = inverted-met f q x h e ∙ sym (ap (λ b. one_up f q x (not b) (is_func f s)) h ∙ ap (one_up f q x false) e)

pub merge_call_node : MergeCallNodeStep
merge_call_node t i q spans x s m = merged-step t i s q x

pub focus_subtree : FocusSubtreeStep
focus_subtree t i q spans x s m l = focused-step t i s q x l

pub inverted_focus : InvertedFocusStep
inverted_focus t i f q spans x s m = inverted-step t i s f q x
