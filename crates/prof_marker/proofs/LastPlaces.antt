-- The last place that passes a test
use Rattle.std.proofs.Common.{◌≡◌, ℕ, zero, suc, ◌<◌, Bool, true, false, cond, List, [], ◌∷◌, ◌++◌, length, take, set, Option, Some, None, sym, ap, subst, ◌∙◌, refl, arith}
use Rattle.std.specs.Prelude.{slice_get}
use Rattle.std.specs.Option.{option_or, option_map}
use Rattle.std.proofs.lemmas.Option.{none-some, same_Some}
use Rattle.prof_marker.specs.Markers.{last_place}

module _ {A : Type 0} (p : A → Bool) where
  abbrev cons_place : Option ℕ → Bool → Option ℕ
  cons_place later here = option_or (option_map suc later) (cond here (Some 0) None)

  pub last_place-push : (xs : List A) (x : A) → last_place p (xs ++ x ∷ []) ≡ cond (p x) (Some (length xs)) (last_place p xs)
  last_place-push [] x = refl
  last_place-push (y ∷ xs) x =
      ap (λ o. cons_place o (p y)) (last_place-push xs x)
      ∙ (elim (p x) as (λ b. cons_place (cond b (Some (length xs)) (last_place p xs)) (p y) ≡ cond b (Some (suc (length xs))) (cons_place (last_place p xs) (p y))) [ true ↦ refl | false ↦ refl ])

  -- the item at the last place passes
  abbrev Hit : List A → ℕ → Type 0
  Hit xs k = (x : A) × ((slice_get xs k ≡ Some x) × (p x ≡ true))

  hit_here : (y : A) (xs : List A) (k : ℕ) (b : Bool) → p y ≡ b → cond b (Some 0) None ≡ Some k → Hit (y ∷ xs) k
  hit_here y xs k true e h = subst (Hit (y ∷ xs)) (same_Some 0 k h) (y, (refl, e))
  hit_here y xs k false e h = absurd (none-some k h)

  hit_cons : (y : A) (xs : List A) (k : ℕ) (o : Option ℕ) → ((i : ℕ) → o ≡ Some i → Hit xs i) → cons_place o (p y) ≡ Some k → Hit (y ∷ xs) k
  hit_cons y xs k None rec h = hit_here y xs k (p y) refl h
  hit_cons y xs k (Some i) rec h = subst (Hit (y ∷ xs)) (same_Some (suc i) k h) (rec i refl)

  pub last_place-hit : (xs : List A) (k : ℕ) → last_place p xs ≡ Some k → Hit xs k
  last_place-hit [] k h = absurd (none-some k h)
  last_place-hit (y ∷ xs) k h = hit_cons y xs k (last_place p xs) (last_place-hit xs) h

  -- no later item passes, and none at all without such a place
  none_here : (y x : A) (b : Bool) → p y ≡ b → cond {A = Option ℕ} b (Some 0) None ≡ None → y ≡ x → p x ≡ false
  none_here y x true e h same = absurd (none-some 0 (sym h))
  none_here y x false e h same = ap p (sym same) ∙ e

  none_cons : (y : A) (xs : List A) (j : ℕ) (x : A) (o : Option ℕ) → ((i : ℕ) → o ≡ None → slice_get xs i ≡ Some x → p x ≡ false)
      → cons_place o (p y) ≡ None → slice_get (y ∷ xs) j ≡ Some x → p x ≡ false
  none_cons y xs zero x None rec h g = none_here y x (p y) refl h (same_Some y x g)
  none_cons y xs (suc j) x None rec h g = rec j refl g
  none_cons y xs j x (Some i) rec h g = absurd (none-some (suc i) (sym h))

  pub last_place-none : (xs : List A) (j : ℕ) (x : A) → last_place p xs ≡ None → slice_get xs j ≡ Some x → p x ≡ false
  last_place-none [] j x h g = absurd (none-some x g)
  last_place-none (y ∷ xs) j x h g = none_cons y xs j x (last_place p xs) (λ i e f. last_place-none xs i x e f) h g

  after_cons : (y : A) (xs : List A) (k j : ℕ) (x : A) (o : Option ℕ) → (o ≡ None → p x ≡ false) → ((i : ℕ) → o ≡ Some i → i < j → p x ≡ false)
      → cons_place o (p y) ≡ Some k → k < suc j → p x ≡ false
  after_cons y xs k j x None none some h lt = none refl
  after_cons y xs k j x (Some i) none some h lt =
      let same : suc i ≡ k = same_Some (suc i) k h in
      some i refl (omega (arith, same))

  pub last_place-after : (xs : List A) (k j : ℕ) (x : A) → last_place p xs ≡ Some k → k < j → slice_get xs j ≡ Some x → p x ≡ false
  last_place-after [] k j x h lt g = absurd (none-some x g)
  last_place-after (y ∷ xs) k zero x h lt g = absurd (omega arith)
  last_place-after (y ∷ xs) k (suc j) x h lt g =
      after_cons y xs k j x (last_place p xs) (λ e. last_place-none xs j x e g) (λ i e less. last_place-after xs i j x e less g) h lt

  -- where an item that doesn't pass is set at the last place, what is before it counts
  pub last_place-set_last : (xs : List A) (k : ℕ) (y : A) → last_place p xs ≡ Some k → p y ≡ false → last_place p (set xs k y) ≡ last_place p (take k xs)
  last_place-set_last [] k y h f = absurd (none-some k h)
  last_place-set_last (x ∷ xs) zero y h f = first_last x xs (last_place p xs) refl h
    where
      first_last : (x : A) (xs : List A) (o : Option ℕ) → last_place p xs ≡ o → cons_place o (p x) ≡ Some 0 → cons_place (last_place p xs) (p y) ≡ None
      first_last x xs None e h = ap (λ o. cons_place o (p y)) e ∙ ap (λ b. cond b (Some 0) None) f
      first_last x xs (Some i) e h =
          let same : suc i ≡ 0 = same_Some (suc i) 0 h in
          absurd (omega (arith, same))
  last_place-set_last (x ∷ xs) (suc k) y h f = ap (λ o. cons_place o (p x)) (last_place-set_last xs k y (later x xs (last_place p xs) h) f)
    where
      here : (b : Bool) → cond b (Some 0) None ≡ Some (suc k) → ⊥
      here true h = let same : 0 ≡ suc k = same_Some 0 (suc k) h in omega (arith, same)
      here false h = none-some (suc k) h

      later : (x : A) (xs : List A) (o : Option ℕ) → cons_place o (p x) ≡ Some (suc k) → o ≡ Some k
      later x xs None h = absurd (here (p x) h)
      later x xs (Some i) h =
          let same : suc i ≡ suc k = same_Some (suc i) (suc k) h in
          let less : i ≡ k = omega (arith, same) in
          ap (λ (n : ℕ). Some n) less

  -- where neither the old nor the new item passes, nothing changes
  pub last_place-set_other : (xs : List A) (k : ℕ) (x y : A) → slice_get xs k ≡ Some x → p x ≡ false → p y ≡ false → last_place p (set xs k y) ≡ last_place p xs
  last_place-set_other [] k x y g e f = refl
  last_place-set_other (z ∷ xs) zero x y g e f = ap (λ b. cons_place (last_place p xs) b) (f ∙ sym (ap p (same_Some z x g) ∙ e))
  last_place-set_other (z ∷ xs) (suc k) x y g e f = ap (λ o. cons_place o (p z)) (last_place-set_other xs k x y g e f)
