-- The place at which a list of functions ends, by recursion over the path from either end
use Rattle.std.proofs.Common.{◌≡◌, ℕ, zero, suc, ◌+◌, ◌-◌, ◌<◌, ◌≤◌, Bool, true, false, cond, ◌&&◌, eqb, List, [], ◌∷◌, ◌++◌, length, take, drop, get_or, Option, Some, None, sym, ap, ◌∙◌, refl, arith}
use Rattle.std.specs.Prelude.{reverse, nat_eq, slice_get}
use Rattle.std.specs.List.{find, range_with_len}
use Rattle.std.specs.Option.{option_map, option_map_or}
use Rattle.std.specs.Cmp.Lexicographic.{pointwise}
use Rattle.std.proofs.lemmas.List.{reverse-append, take-append-le, length-append, length-drop, drop_all}
use Rattle.std.proofs.Math.Seq.{drop-cons, take-suc}
use Rattle.prof_tables.specs.declared.rows.Step.{Step}
use Rattle.prof_tables.specs.Threads.{SharedTables}
use Rattle.prof_path.specs.declared.transform.Implementation.{Implementation}
use Rattle.prof_path.specs.Shown.{shown, funcs, seen, names}
use Rattle.prof_path.specs.Rewriting.{ends, end_of, up_to_end, meets}

find-ext : {X : Type 0} (p q : X → Bool) → ((x : X) → p x ≡ q x) → (xs : List X) → find p xs ≡ find q xs
find-ext p q e [] = refl
find-ext p q e (x ∷ xs) = ap (λ b. cond b (Some x) (find p xs)) (e x) ∙ ap (λ o. cond (q x) (Some x) o) (find-ext p q e xs)

find-none : {X : Type 0} (xs : List X) → find (λ (x : X). false) xs ≡ None
find-none [] = refl
find-none (x ∷ xs) = find-none xs

cond-suc : (b : Bool) (k : ℕ) (o : Option ℕ) → cond b (Some (suc k)) (option_map suc o) ≡ option_map suc (cond b (Some k) o)
cond-suc true k o = refl
cond-suc false k o = refl

find-one_on : (p : ℕ → Bool) (a n : ℕ) → find p (range_with_len (a + 1) n) ≡ option_map suc (find (λ k. p (suc k)) (range_with_len a n))
find-one_on p a zero = refl
find-one_on p a (suc n) =
    let e : a + 1 ≡ suc a = omega arith in
    ap (λ o. cond (p (a + 1)) (Some (a + 1)) o) (find-one_on p (a + 1) n)
    ∙ ap (λ k. cond (p k) (Some k) (option_map suc (find (λ k. p (suc k)) (range_with_len (a + 1) n)))) e
    ∙ cond-suc (p (suc a)) a (find (λ k. p (suc k)) (range_with_len (a + 1) n))

module _ (t : SharedTables) (i : Implementation) where
  pub names-hidden : (s : Step) (x : List Step) → shown t i s.func ≡ false → names t i (s ∷ x) ≡ names t i x
  names-hidden s x h = ap (λ b. funcs (cond b (s ∷ seen t i x) (seen t i x))) h

  pub names-shown : (s : Step) (x : List Step) → shown t i s.func ≡ true → names t i (s ∷ x) ≡ s.func ∷ names t i x
  names-shown s x h = ap (λ b. funcs (cond b (s ∷ seen t i x) (seen t i x))) h

  abbrev shown_at : List Step → ℕ → Bool
  shown_at x k = option_map_or (λ (s : Step). shown t i s.func) (slice_get x k) false

  ends-one_on : (q : List ℕ) (s : Step) (x : List Step) (k : ℕ) → ends t i q (s ∷ x) (suc k) ≡ (shown_at x k && pointwise nat_eq (names t i (s ∷ take (k + 1) x)) q)
  ends-one_on q s x k =
      let e : suc k + 1 ≡ suc (k + 1) = omega arith in
      ap (λ n. shown_at x k && pointwise nat_eq (names t i (take n (s ∷ x))) q) e

  ends-hidden : (q : List ℕ) (s : Step) (x : List Step) → shown t i s.func ≡ false → (k : ℕ) → ends t i q (s ∷ x) (suc k) ≡ ends t i q x k
  ends-hidden q s x h k = ends-one_on q s x k ∙ ap (λ n. shown_at x k && pointwise nat_eq n q) (names-hidden s (take (k + 1) x) h)

  and-false : (b : Bool) → (b && false) ≡ false
  and-false true = refl
  and-false false = refl

  and-swap : (a b c : Bool) → (a && (b && c)) ≡ (b && (a && c))
  and-swap true b c = refl
  and-swap false true c = refl
  and-swap false false c = refl

  ends-shown : (q : List ℕ) (f : ℕ) (s : Step) (x : List Step) → shown t i s.func ≡ true → (k : ℕ) → ends t i (f ∷ q) (s ∷ x) (suc k) ≡ (eqb s.func f && ends t i q x k)
  ends-shown q f s x h k =
      ends-one_on (f ∷ q) s x k
      ∙ ap (λ n. shown_at x k && pointwise nat_eq n (f ∷ q)) (names-shown s (take (k + 1) x) h)
      ∙ and-swap (shown_at x k) (eqb s.func f) (pointwise nat_eq (names t i (take (k + 1) x)) q)

  ends-shown_none : (s : Step) (x : List Step) → shown t i s.func ≡ true → (k : ℕ) → ends t i [] (s ∷ x) (suc k) ≡ false
  ends-shown_none s x h k =
      ends-one_on [] s x k
      ∙ ap (λ n. shown_at x k && pointwise nat_eq n []) (names-shown s (take (k + 1) x) h)
      ∙ and-false (shown_at x k)

  -- q begins with the function of a shown step: where it ends after that step
  pub end_of-hidden : (q : List ℕ) (s : Step) (x : List Step) → shown t i s.func ≡ false → end_of t i q (s ∷ x) ≡ option_map suc (end_of t i q x)
  end_of-hidden q s x h =
      ap (λ b. cond (b && pointwise nat_eq (names t i (s ∷ [])) q) (Some 0) (find (ends t i q (s ∷ x)) (range_with_len (0 + 1) (length x)))) h
      ∙ find-one_on (ends t i q (s ∷ x)) 0 (length x)
      ∙ ap (option_map suc) (find-ext (λ k. ends t i q (s ∷ x) (suc k)) (ends t i q x) (ends-hidden q s x h) (range_with_len 0 (length x)))

  first-shown : (q : List ℕ) (s : Step) (x : List Step) → shown t i s.func ≡ true → ends t i q (s ∷ x) 0 ≡ pointwise nat_eq (s.func ∷ []) q
  first-shown q s x h =
      ap (λ b. b && pointwise nat_eq (names t i (s ∷ [])) q) h
      ∙ ap (λ n. pointwise nat_eq n q) (names-shown s [] h)

  abbrev pub end_of_rest : List ℕ → List Step → Option ℕ
  end_of_rest [] x = Some 0
  end_of_rest (f ∷ q) x = option_map suc (end_of t i (f ∷ q) x)

  pub end_of-shown_none : (s : Step) (x : List Step) → shown t i s.func ≡ true → end_of t i [] (s ∷ x) ≡ None
  end_of-shown_none s x h =
      ap (λ b. cond b (Some 0) (find (ends t i [] (s ∷ x)) (range_with_len (0 + 1) (length x)))) (first-shown [] s x h)
      ∙ find-one_on (ends t i [] (s ∷ x)) 0 (length x)
      ∙ ap (option_map suc) (find-ext (λ k. ends t i [] (s ∷ x) (suc k)) (λ k. false) (ends-shown_none s x h) (range_with_len 0 (length x)) ∙ find-none (range_with_len 0 (length x)))

  end_of-same : (q : List ℕ) (f : ℕ) (s : Step) (x : List Step) → shown t i s.func ≡ true → end_of t i (f ∷ q) (s ∷ x) ≡ cond (eqb s.func f && pointwise nat_eq [] q) (Some 0) (option_map suc (find (λ k. eqb s.func f && ends t i q x k) (range_with_len 0 (length x))))
  end_of-same q f s x h =
      ap (λ b. cond b (Some 0) (find (ends t i (f ∷ q) (s ∷ x)) (range_with_len (0 + 1) (length x)))) (first-shown (f ∷ q) s x h)
      ∙ ap (λ o. cond (eqb s.func f && pointwise nat_eq [] q) (Some 0) o)
      (find-one_on (ends t i (f ∷ q) (s ∷ x)) 0 (length x)
      ∙ ap (option_map suc) (find-ext (λ k. ends t i (f ∷ q) (s ∷ x) (suc k)) (λ k. eqb s.func f && ends t i q x k) (ends-shown q f s x h) (range_with_len 0 (length x))))

  pub end_of-other : (q : List ℕ) (f : ℕ) (s : Step) (x : List Step) → shown t i s.func ≡ true → eqb s.func f ≡ false → end_of t i (f ∷ q) (s ∷ x) ≡ None
  end_of-other q f s x h e =
      end_of-same q f s x h
      ∙ ap (λ b. cond (b && pointwise nat_eq [] q) (Some 0) (option_map suc (find (λ k. b && ends t i q x k) (range_with_len 0 (length x))))) e
      ∙ ap (option_map suc) (find-none (range_with_len 0 (length x)))

  pub end_of-met : (q : List ℕ) (f : ℕ) (s : Step) (x : List Step) → shown t i s.func ≡ true → eqb s.func f ≡ true → end_of t i (f ∷ q) (s ∷ x) ≡ end_of_rest q x
  end_of-met [] f s x h e =
      end_of-same [] f s x h
      ∙ ap (λ b. cond (b && true) (Some 0) (option_map suc (find (λ k. b && ends t i [] x k) (range_with_len 0 (length x))))) e
  end_of-met (g ∷ q) f s x h e =
      end_of-same (g ∷ q) f s x h
      ∙ ap (λ b. cond (b && false) (Some 0) (option_map suc (find (λ k. b && ends t i (g ∷ q) x k) (range_with_len 0 (length x))))) e

  -- the same from the leaf on
  reverse-push : (x : List Step) (s : Step) → reverse (x ++ s ∷ []) ≡ s ∷ reverse x
  reverse-push x s = reverse-append x (s ∷ [])

  kept-suc : (x : List Step) (s : Step) (o : Option ℕ) → option_map_or (λ k. take (length (x ++ s ∷ []) - k) (x ++ s ∷ [])) (option_map suc o) [] ≡ option_map_or (λ k. take (length x - k) x) o []
  kept-suc x s None = refl
  kept-suc x s (Some k) =
      let e : length (x ++ s ∷ []) - suc k ≡ length x - k = omega (arith, length-append x (s ∷ [])) in
      let le : length x - k ≤ length x = omega arith in
      ap (λ n. take n (x ++ s ∷ [])) e ∙ take-append-le (length x - k) x (s ∷ []) le

  kept-all : (x : List Step) (s : Step) → take (length (x ++ s ∷ []) - 0) (x ++ s ∷ []) ≡ x ++ s ∷ []
  kept-all x s =
      let e : length (x ++ s ∷ []) - 0 ≡ length (x ++ s ∷ []) = omega arith in
      ap (λ n. take n (x ++ s ∷ [])) e ∙ take-length (x ++ s ∷ [])
    where
      take-length : (xs : List Step) → take (length xs) xs ≡ xs
      take-length [] = refl
      take-length (y ∷ xs) = ap (λ ys. y ∷ ys) (take-length xs)

  abbrev upto : List Step → Option ℕ → List Step
  upto x o = option_map_or (λ k. take (length x - k) x) o []

  pub up_to_end-hidden : (q : List ℕ) (x : List Step) (s : Step) → shown t i s.func ≡ false → up_to_end t i q (x ++ s ∷ []) ≡ up_to_end t i q x
  up_to_end-hidden q x s h =
      ap (λ y. upto (x ++ s ∷ []) (end_of t i q y)) (reverse-push x s)
      ∙ ap (upto (x ++ s ∷ [])) (end_of-hidden q s (reverse x) h)
      ∙ kept-suc x s (end_of t i q (reverse x))

  pub up_to_end-none : (x : List Step) (s : Step) → shown t i s.func ≡ true → up_to_end t i [] (x ++ s ∷ []) ≡ []
  up_to_end-none x s h =
      ap (λ y. upto (x ++ s ∷ []) (end_of t i [] y)) (reverse-push x s)
      ∙ ap (upto (x ++ s ∷ [])) (end_of-shown_none s (reverse x) h)

  pub up_to_end-other : (q : List ℕ) (f : ℕ) (x : List Step) (s : Step) → shown t i s.func ≡ true → eqb s.func f ≡ false → up_to_end t i (f ∷ q) (x ++ s ∷ []) ≡ []
  up_to_end-other q f x s h e =
      ap (λ y. upto (x ++ s ∷ []) (end_of t i (f ∷ q) y)) (reverse-push x s)
      ∙ ap (upto (x ++ s ∷ [])) (end_of-other q f s (reverse x) h e)

  pub up_to_end-last : (f : ℕ) (x : List Step) (s : Step) → shown t i s.func ≡ true → eqb s.func f ≡ true → up_to_end t i (f ∷ []) (x ++ s ∷ []) ≡ x ++ s ∷ []
  up_to_end-last f x s h e =
      ap (λ y. upto (x ++ s ∷ []) (end_of t i (f ∷ []) y)) (reverse-push x s)
      ∙ ap (upto (x ++ s ∷ [])) (end_of-met [] f s (reverse x) h e)
      ∙ kept-all x s

  pub up_to_end-met : (q : List ℕ) (f g : ℕ) (x : List Step) (s : Step) → shown t i s.func ≡ true → eqb s.func f ≡ true → up_to_end t i (f ∷ g ∷ q) (x ++ s ∷ []) ≡ up_to_end t i (g ∷ q) x
  up_to_end-met q f g x s h e =
      ap (λ y. upto (x ++ s ∷ []) (end_of t i (f ∷ g ∷ q) y)) (reverse-push x s)
      ∙ ap (upto (x ++ s ∷ [])) (end_of-met (g ∷ q) f s (reverse x) h e)
      ∙ kept-suc x s (end_of t i (g ∷ q) (reverse x))

  -- one turn of a loop that has met the first functions of q
  abbrev pub up_to_end_rest : List ℕ → List Step → Step → List Step
  up_to_end_rest [] x s = x ++ s ∷ []
  up_to_end_rest (f ∷ q) x s = up_to_end t i (f ∷ q) x

  module _ (s : Step) (h : shown t i s.func ≡ true) where
    pub end_of-missed : (q : List ℕ) (met : ℕ) (x : List Step) → meets q met s.func ≡ false → end_of t i (drop met q) (s ∷ x) ≡ None
    end_of-missed [] zero x e = end_of-shown_none s x h
    end_of-missed [] (suc met) x e = end_of-shown_none s x h
    end_of-missed (f ∷ q) zero x e = end_of-other q f s x h e
    end_of-missed (f ∷ q) (suc met) x e = end_of-missed q met x e

    pub end_of-meets : (q : List ℕ) (met : ℕ) (x : List Step) → meets q met s.func ≡ true → end_of t i (drop met q) (s ∷ x) ≡ end_of_rest (drop (suc met) q) x
    end_of-meets [] zero x e = cc
    end_of-meets [] (suc met) x e = cc
    end_of-meets (f ∷ q) zero x e = end_of-met q f s x h e
    end_of-meets (f ∷ q) (suc met) x e = end_of-meets q met x e

    pub up_to_end-missed : (q : List ℕ) (met : ℕ) (x : List Step) → meets q met s.func ≡ false → up_to_end t i (drop met q) (x ++ s ∷ []) ≡ []
    up_to_end-missed [] zero x e = up_to_end-none x s h
    up_to_end-missed [] (suc met) x e = up_to_end-none x s h
    up_to_end-missed (f ∷ q) zero x e = up_to_end-other q f x s h e
    up_to_end-missed (f ∷ q) (suc met) x e = up_to_end-missed q met x e

    up_to_end-one_more : (q : List ℕ) (f : ℕ) (x : List Step) → eqb s.func f ≡ true → up_to_end t i (f ∷ q) (x ++ s ∷ []) ≡ up_to_end_rest q x s
    up_to_end-one_more [] f x e = up_to_end-last f x s h e
    up_to_end-one_more (g ∷ q) f x e = up_to_end-met q f g x s h e

    pub up_to_end-meets : (q : List ℕ) (met : ℕ) (x : List Step) → meets q met s.func ≡ true → up_to_end t i (drop met q) (x ++ s ∷ []) ≡ up_to_end_rest (drop (suc met) q) x s
    up_to_end-meets [] zero x e = cc
    up_to_end-meets [] (suc met) x e = cc
    up_to_end-meets (f ∷ q) zero x e = up_to_end-one_more q f x e
    up_to_end-meets (f ∷ q) (suc met) x e = up_to_end-meets q met x e

  rest-more : (q : List ℕ) (x : List Step) → 0 < length q → end_of_rest q x ≡ option_map suc (end_of t i q x)
  rest-more [] x l = absurd (omega arith)
  rest-more (f ∷ q) x l = refl

  up-more : (q : List ℕ) (x : List Step) (s : Step) → 0 < length q → up_to_end_rest q x s ≡ up_to_end t i q x
  up-more [] x s l = absurd (omega arith)
  up-more (f ∷ q) x s l = refl

  moved : (n : ℕ) (o : Option ℕ) → option_map (λ k. n + k) (option_map suc o) ≡ option_map (λ k. n + 1 + k) o
  moved n None = refl
  moved n (Some k) = ap Some (let e : n + suc k ≡ n + 1 + k = omega arith in e)

  module _ (x : List Step) (n : ℕ) (d : Step) (l : n < length x) where
    next : drop n x ≡ get_or x n d ∷ drop (n + 1) x
    next = drop-cons x n d l ∙ ap (λ k. get_or x n d ∷ drop k x) (let e : suc n ≡ n + 1 = omega arith in e)

    last : take (n + 1) x ≡ take n x ++ get_or x n d ∷ []
    last = ap (λ k. take k x) (let e : n + 1 ≡ suc n = omega arith in e) ∙ take-suc x n d l

    abbrev from : List ℕ → ℕ → Option ℕ
    from q k = option_map (λ j. k + j) (end_of t i q (drop k x))

    pub from-hidden : (q : List ℕ) → shown t i (get_or x n d).func ≡ false → from q (n + 1) ≡ from q n
    from-hidden q h = sym (ap (λ y. option_map (λ j. n + j) (end_of t i q y)) next ∙ ap (option_map (λ j. n + j)) (end_of-hidden q (get_or x n d) (drop (n + 1) x) h) ∙ moved n (end_of t i q (drop (n + 1) x)))

    pub from-missed : (q : List ℕ) (met : ℕ) → shown t i (get_or x n d).func ≡ true → meets q met (get_or x n d).func ≡ false → from (drop met q) n ≡ None
    from-missed q met h m = ap (λ y. option_map (λ j. n + j) (end_of t i (drop met q) y)) next ∙ ap (option_map (λ j. n + j)) (end_of-missed (get_or x n d) h q met (drop (n + 1) x) m)

    from-meets : (q : List ℕ) (met : ℕ) → shown t i (get_or x n d).func ≡ true → meets q met (get_or x n d).func ≡ true → from (drop met q) n ≡ option_map (λ j. n + j) (end_of_rest (drop (suc met) q) (drop (n + 1) x))
    from-meets q met h m = ap (λ y. option_map (λ j. n + j) (end_of t i (drop met q) y)) next ∙ ap (option_map (λ j. n + j)) (end_of-meets (get_or x n d) h q met (drop (n + 1) x) m)

    pub from-last : (q : List ℕ) (met : ℕ) → shown t i (get_or x n d).func ≡ true → meets q met (get_or x n d).func ≡ true → met + 1 ≡ length q → from (drop met q) n ≡ Some n
    from-last q met h m e =
        let le : length q ≤ suc met = omega arith in
        from-meets q met h m
        ∙ ap (λ r. option_map (λ j. n + j) (end_of_rest r (drop (n + 1) x))) (drop_all (suc met) q le)
        ∙ ap Some (let z : n + 0 ≡ n = omega arith in z)

    pub from-next : (q : List ℕ) (met : ℕ) → shown t i (get_or x n d).func ≡ true → meets q met (get_or x n d).func ≡ true → met + 1 < length q → from (drop (met + 1) q) (n + 1) ≡ from (drop met q) n
    from-next q met h m lt =
        let e : met + 1 ≡ suc met = omega arith in
        let more : 0 < length (drop (suc met) q) = omega (arith, length-drop (suc met) q) in
        ap (λ k. from (drop k q) (n + 1)) e
        ∙ sym (from-meets q met h m
        ∙ ap (option_map (λ j. n + j)) (rest-more (drop (suc met) q) (drop (n + 1) x) more)
        ∙ moved n (end_of t i (drop (suc met) q) (drop (n + 1) x)))

    pub upto-hidden : (q : List ℕ) → shown t i (get_or x n d).func ≡ false → up_to_end t i q (take (n + 1) x) ≡ up_to_end t i q (take n x)
    upto-hidden q h = ap (up_to_end t i q) last ∙ up_to_end-hidden q (take n x) (get_or x n d) h

    pub upto-missed : (q : List ℕ) (met : ℕ) → shown t i (get_or x n d).func ≡ true → meets q met (get_or x n d).func ≡ false → up_to_end t i (drop met q) (take (n + 1) x) ≡ []
    upto-missed q met h m = ap (up_to_end t i (drop met q)) last ∙ up_to_end-missed (get_or x n d) h q met (take n x) m

    upto-meets : (q : List ℕ) (met : ℕ) → shown t i (get_or x n d).func ≡ true → meets q met (get_or x n d).func ≡ true → up_to_end t i (drop met q) (take (n + 1) x) ≡ up_to_end_rest (drop (suc met) q) (take n x) (get_or x n d)
    upto-meets q met h m = ap (up_to_end t i (drop met q)) last ∙ up_to_end-meets (get_or x n d) h q met (take n x) m

    pub upto-last : (q : List ℕ) (met : ℕ) → shown t i (get_or x n d).func ≡ true → meets q met (get_or x n d).func ≡ true → met + 1 ≡ length q → up_to_end t i (drop met q) (take (n + 1) x) ≡ take (n + 1) x
    upto-last q met h m e =
        let le : length q ≤ suc met = omega arith in
        upto-meets q met h m
        ∙ ap (λ r. up_to_end_rest r (take n x) (get_or x n d)) (drop_all (suc met) q le)
        ∙ sym last

    pub upto-next : (q : List ℕ) (met : ℕ) → shown t i (get_or x n d).func ≡ true → meets q met (get_or x n d).func ≡ true → met + 1 < length q → up_to_end t i (drop (met + 1) q) (take n x) ≡ up_to_end t i (drop met q) (take (n + 1) x)
    upto-next q met h m lt =
        let e : met + 1 ≡ suc met = omega arith in
        let more : 0 < length (drop (suc met) q) = omega (arith, length-drop (suc met) q) in
        ap (λ k. up_to_end t i (drop k q) (take n x)) e
        ∙ sym (upto-meets q met h m ∙ up-more (drop (suc met) q) (take n x) (get_or x n d) more)
