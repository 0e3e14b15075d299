-- The first place that passes a test
use Rattle.std.proofs.Common.{◌≡◌, ℕ, zero, suc, ◌+◌, ◌<◌, Bool, true, false, cond, not, ◌||◌, drop, List, [], ◌∷◌, length, get_or, Some, None, nat_lt, sym, ap, ◌∙◌, refl, arith}
use Rattle.std.specs.List.{position, position_or_len, list_any}
use Rattle.prof_tables.specs.declared.rows.Step.{Step}
use Rattle.prof_path.specs.Rewriting.{is_func, after_last_of}
use Rattle.std.proofs.lemmas.Bool.Decides.{nat_tests}

module _ {X : Type 0} (p : X → Bool) where
  first-at : (xs : List X) (i : ℕ) (d : X) → i < length xs → p (get_or xs i d) ≡ true → ((k : ℕ) (d : X) → k < i → p (get_or xs k d) ≡ false) → position_or_len p xs ≡ i
  first-at [] i d h t f = absurd (omega arith)
  first-at (x ∷ xs) zero d h t f = ap (λ b. cond (not b) (1 + position_or_len p xs) 0) t
  first-at (x ∷ xs) (suc i) d h t f =
      let e = first-at xs i d (omega arith) t (λ k d lt. f (suc k) d (omega arith)) in
      ap (λ b. cond (not b) (1 + position_or_len p xs) 0) (f 0 d (omega arith)) ∙ (let g : 1 + position_or_len p xs ≡ suc i = omega (arith, e) in g)

  none-at : (xs : List X) → ((k : ℕ) (d : X) → k < length xs → p (get_or xs k d) ≡ false) → position_or_len p xs ≡ length xs
  none-at [] f = refl
  none-at (x ∷ xs) f =
      let e = none-at xs (λ k d lt. f (suc k) d (omega arith)) in
      ap (λ b. cond (not b) (1 + position_or_len p xs) 0) (f 0 x (omega arith)) ∙ (let g : 1 + position_or_len p xs ≡ suc (length xs) = omega (arith, e) in g)

  pub position-first : (xs : List X) (i : ℕ) (d : X) → i < length xs → p (get_or xs i d) ≡ true → ((k : ℕ) (d : X) → k < i → p (get_or xs k d) ≡ false) → Some i ≡ position p xs
  position-first xs i d h t f = sym (ap (λ n. cond (nat_lt n (length xs)) (Some n) None) (first-at xs i d h t f) ∙ ap (λ b. cond b (Some i) None) (let e : nat_lt i (length xs) ≡ true = grind (arith, nat_tests) in e))

  pub position-none : (xs : List X) → ((k : ℕ) (d : X) → k < length xs → p (get_or xs k d) ≡ false) → None ≡ position p xs
  position-none xs f = sym (ap (λ n. cond (nat_lt n (length xs)) (Some n) None) (none-at xs f) ∙ ap (λ b. cond b (Some (length xs)) None) (let e : nat_lt (length xs) (length xs) ≡ false = grind (arith, nat_tests) in e))

-- where the last step of f is at a place, what stands after it
module _ (f : ℕ) where
  none_after : (x : List Step) → ((k : ℕ) (d : Step) → k < length x → is_func f (get_or x k d) ≡ false) → after_last_of f x ≡ x
  none_after [] h = refl
  none_after (s ∷ x) h = ap (λ b. cond b (after_last_of f x) (s ∷ x)) (none (s ∷ x) h)
    where
      none : (x : List Step) → ((k : ℕ) (d : Step) → k < length x → is_func f (get_or x k d) ≡ false) → list_any (is_func f) x ≡ false
      none [] h = refl
      none (s ∷ x) h = ap (λ b. b || list_any (is_func f) x) (h 0 s (omega arith)) ∙ none x (λ k d lt. h (suc k) d (omega arith))

  some : (x : List Step) (k : ℕ) (d : Step) → k < length x → is_func f (get_or x k d) ≡ true → list_any (is_func f) x ≡ true
  some [] k d lt h = absurd (omega arith)
  some (s ∷ x) zero d lt h = ap (λ b. b || list_any (is_func f) x) h
  some (s ∷ x) (suc k) d lt h = ap (λ b. is_func f s || b) (some x k d (omega arith) h) ∙ (elim (is_func f s) as (λ b. (b || true) ≡ true) [ true ↦ refl | false ↦ refl ])

  pub after_at : (x : List Step) (last : ℕ) (d : Step) → last < length x → is_func f (get_or x last d) ≡ true → ((k : ℕ) (d : Step) → last < k → k < length x → is_func f (get_or x k d) ≡ false) → after_last_of f x ≡ drop (suc last) x
  after_at [] last d lt h n = absurd (omega arith)
  after_at (s ∷ x) zero d lt h n = ap (λ b. cond b (after_last_of f x) (s ∷ x)) (some (s ∷ x) 0 d lt h) ∙ none_after x (λ k d lt. n (suc k) d (omega arith) (omega arith))
  after_at (s ∷ x) (suc last) d lt h n = ap (λ b. cond b (after_last_of f x) (s ∷ x)) (some (s ∷ x) (suc last) d lt h) ∙ after_at x last d (omega arith) h (λ k d l m. n (suc k) d (omega arith) (omega arith))
