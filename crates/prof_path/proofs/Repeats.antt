-- The collapse of direct recursion, place by place
use Rattle.std.proofs.Common.{◌≡◌, ℕ, zero, suc, ◌+◌, ◌<◌, ◌≤◌, Bool, true, false, cond, not, ◌||◌, ◌&&◌, List, [], ◌∷◌, ◌++◌, length, take, get_or, Option, Some, None, append_assoc, sym, ap, ◌∙◌, refl, arith}
use Rattle.std.specs.Prelude.{nat_lt, slice_get, option_to_list}
use Rattle.std.specs.List.{flat_map, list_any, list_all, range_with_len}
use Rattle.std.specs.Option.{option_map_or}
use Rattle.std.proofs.lemmas.Bool.Decides.{nat_tests}
use Rattle.std.proofs.lemmas.List.{append-nil, take_all}
use Rattle.std.proofs.lemmas.List.Folds.{list_any-append, list_all-append}
use Rattle.std.proofs.lemmas.Option.{slice_get-get_or}
use Rattle.std.proofs.Math.Seq.{take-suc}
use Rattle.prof_tables.specs.declared.rows.Step.{Step}
use Rattle.prof_tables.specs.Threads.{SharedTables}
use Rattle.prof_path.specs.declared.transform.Implementation.{Implementation}
use Rattle.prof_path.specs.Rewriting.{is_func, is_hidden, without_repeats}
use Rattle.prof_path.specs.Stepwise.{called, next_called}
use Rattle.prof_path.specs.ByPlace.{has_func, is_passed, is_caller, is_repeat, without_places, DirectRecursionByPlace}
use Rattle.prof_path.proofs.StepLaws.{called_step, direct-step}

-- the numbers below one more
range-more : (a n : ℕ) → range_with_len a (suc n) ≡ range_with_len a n ++ (a + n) ∷ []
range-more a zero = ap (λ k. k ∷ []) (let e : a ≡ a + 0 = omega arith in e)
range-more a (suc n) =
    ap (λ l. a ∷ l) (range-more (a + 1) n ∙ ap (λ k. range_with_len (a + 1) n ++ k ∷ []) (let e : a + 1 + n ≡ a + suc n = omega arith in e))

numbers-more : (n : ℕ) → range_with_len 0 (suc n) ≡ range_with_len 0 n ++ n ∷ []
numbers-more n = range-more 0 n ∙ ap (λ k. range_with_len 0 n ++ k ∷ []) (let e : 0 + n ≡ n = omega arith in e)

or-false : (b : Bool) → (b || false) ≡ b
or-false true = refl
or-false false = refl

and-true : (b : Bool) → (b && true) ≡ b
and-true true = refl
and-true false = refl

any-more : (p : ℕ → Bool) (n : ℕ) → list_any p (range_with_len 0 (suc n)) ≡ (list_any p (range_with_len 0 n) || p n)
any-more p n = ap (list_any p) (numbers-more n) ∙ (list_any-append p (range_with_len 0 n) (n ∷ []) ∙ ap (λ b. list_any p (range_with_len 0 n) || b) (or-false (p n)))

all-more : (p : ℕ → Bool) (n : ℕ) → list_all p (range_with_len 0 (suc n)) ≡ (list_all p (range_with_len 0 n) && p n)
all-more p n = ap (list_all p) (numbers-more n) ∙ (list_all-append p (range_with_len 0 n) (n ∷ []) ∙ ap (λ b. list_all p (range_with_len 0 n) && b) (and-true (p n)))

-- a test that is another with a fact, at each number below n
any-with : (p q : ℕ → Bool) (b : Bool) (n : ℕ) → ((j : ℕ) → j < n → p j ≡ (q j && b)) → list_any p (range_with_len 0 n) ≡ (list_any q (range_with_len 0 n) && b)
any-with p q b zero h = refl
any-with p q b (suc n) h =
    any-more p n
    ∙ (ap (λ a. a || p n) (any-with p q b n (λ j lt. h j (omega arith)))
    ∙ (ap (λ a. (list_any q (range_with_len 0 n) && b) || a) (h n (omega arith))
    ∙ (go (list_any q (range_with_len 0 n)) (q n) b ∙ ap (λ a. a && b) (sym (any-more q n)))))
  where
    go : (x y b : Bool) → ((x && b) || (y && b)) ≡ ((x || y) && b)
    go true y true = refl
    go true true false = refl
    go true false false = refl
    go false y b = refl

all-pass : (p : ℕ → Bool) (n : ℕ) → ((j : ℕ) → j < n → p j ≡ true) → list_all p (range_with_len 0 n) ≡ true
all-pass p zero h = refl
all-pass p (suc n) h =
    all-more p n ∙ (ap (λ a. a && p n) (all-pass p n (λ j lt. h j (omega arith))) ∙ h n (omega arith))

less : (j n : ℕ) → j < n → nat_lt j n ≡ true
less j n h = grind (arith, nat_tests)

not-less : (j n : ℕ) → j ≤ n → nat_lt n j ≡ false
not-less j n h = grind (arith, nat_tests)

flat-snoc : (g : ℕ → List Step) (ks : List ℕ) (n : ℕ) → flat_map g (ks ++ n ∷ []) ≡ flat_map g ks ++ g n
flat-snoc g [] n = append-nil (g n)
flat-snoc g (k ∷ ks) n = ap (λ l. g k ++ l) (flat-snoc g ks n) ∙ sym (append_assoc (g k) (flat_map g ks) (g n))

module _ (t : SharedTables) (i : Implementation) (f : ℕ) (x : List Step) where
  blank : Step
  blank = record { func = 0; category = 0 }

  step-at : (k : ℕ) → k < length x → slice_get x k ≡ Some (get_or x k blank)
  step-at k h = slice_get-get_or x k blank h

  has-at : (k : ℕ) → k < length x → has_func x f k ≡ is_func f (get_or x k blank)
  has-at k h = ap (λ o. option_map_or (is_func f) o false) (step-at k h)

  passed-at : (k : ℕ) → k < length x → is_passed t i x f k ≡ (is_hidden t i (get_or x k blank) && not (is_func f (get_or x k blank)))
  passed-at k h = ap (λ o. option_map_or (λ s. is_hidden t i s && not (is_func f s)) o false) (step-at k h)

  -- a caller of the next place
  caller-before : (n j : ℕ) → j < n → is_caller t i x f (suc n) j ≡ (is_caller t i x f n j && is_passed t i x f n)
  caller-before n j h =
      ap (λ b. has_func x f j && b) (all-more (λ m. not (nat_lt j m) || is_passed t i x f m) n
      ∙ ap (λ b. list_all (λ m. not (nat_lt j m) || is_passed t i x f m) (range_with_len 0 n) && (not b || is_passed t i x f n)) (less j n h))
      ∙ go (has_func x f j) (list_all (λ m. not (nat_lt j m) || is_passed t i x f m) (range_with_len 0 n)) (is_passed t i x f n)
    where
      go : (a b c : Bool) → (a && (b && c)) ≡ ((a && b) && c)
      go true b c = refl
      go false b c = refl

  caller-here : (n : ℕ) → is_caller t i x f (suc n) n ≡ has_func x f n
  caller-here n =
      ap (λ b. has_func x f n && b) (all-pass (λ m. not (nat_lt n m) || is_passed t i x f m) (suc n) (λ m h. ap (λ b. not b || is_passed t i x f m) (not-less m n (omega arith))))
      ∙ and-true (has_func x f n)

  -- some caller is there just where the state of the scan says so
  called-is : (n : ℕ) → n ≤ length x → list_any (is_caller t i x f n) (range_with_len 0 n) ≡ called t i f (take n x)
  called-is zero h = refl
  called-is (suc n) h =
      any-more (is_caller t i x f (suc n)) n
      ∙ (ap (λ b. b || is_caller t i x f (suc n) n) (any-with (is_caller t i x f (suc n)) (is_caller t i x f n) (is_passed t i x f n) n (λ j lt. caller-before n j lt))
      ∙ (ap (λ b. (list_any (is_caller t i x f n) (range_with_len 0 n) && is_passed t i x f n) || b) (caller-here n ∙ has-at n (omega arith))
      ∙ (ap (λ b. (b && is_passed t i x f n) || is_func f s) (called-is n (omega arith))
      ∙ (ap (λ b. (called t i f (take n x) && b) || is_func f s) (passed-at n (omega arith))
      ∙ (go (called t i f (take n x)) (is_hidden t i s) (is_func f s)
      ∙ sym (ap (called t i f) (take-suc x n blank (omega arith)) ∙ called_step t i f (take n x) s))))))
    where
      s : Step
      s = get_or x n blank

      go : (c h e : Bool) → ((c && (h && not e)) || e) ≡ (e || (c && h))
      go true true true = refl
      go true true false = refl
      go true false true = refl
      go true false false = refl
      go false h true = refl
      go false h false = refl

  abbrev left : ℕ → List Step
  left k = cond (is_repeat t i x f k) [] (option_to_list (slice_get x k))

  up_to : (n : ℕ) → n ≤ length x → without_repeats t i f false (take n x) ≡ flat_map left (range_with_len 0 n)
  up_to zero h = refl
  up_to (suc n) h =
      ap (without_repeats t i f false) (take-suc x n blank (omega arith))
      ∙ (direct-step t i f (take n x) s
      ∙ (go (is_func f s && called t i f (take n x)) (without_repeats t i f false (take n x))
      ∙ (ap (λ l. l ++ cond (is_func f s && called t i f (take n x)) [] (s ∷ [])) (up_to n (omega arith))
      ∙ (ap (λ l. flat_map left (range_with_len 0 n) ++ l) (sym here)
      ∙ sym (ap (flat_map left) (numbers-more n) ∙ flat-snoc left (range_with_len 0 n) n)))))
    where
      s : Step
      s = get_or x n blank

      go : (b : Bool) (y : List Step) → cond b y (y ++ s ∷ []) ≡ y ++ cond b [] (s ∷ [])
      go true y = sym (append-nil y)
      go false y = refl

      here : left n ≡ cond (is_func f s && called t i f (take n x)) [] (s ∷ [])
      here =
          ap (λ o. cond (is_repeat t i x f n) [] (option_to_list o)) (step-at n (omega arith))
          ∙ (ap (λ b. cond (b && list_any (is_caller t i x f n) (range_with_len 0 n)) [] (s ∷ [])) (has-at n (omega arith))
          ∙ ap (λ b. cond (is_func f s && b) [] (s ∷ [])) (called-is n (omega arith)))

  pub by_place : without_repeats t i f false x ≡ without_places (is_repeat t i x f) x
  by_place = ap (without_repeats t i f false) (sym (take_all (length x) x (omega arith))) ∙ up_to (length x) (omega arith)

pub direct_by_place : DirectRecursionByPlace
direct_by_place t i f spans x m = by_place t i f x
