-- The values of all elements.
use Rattle.std.proofs.Common.{◌≡◌, ◌<◌, ℕ, zero, suc, List, [], ◌∷◌, ◌++◌, length, get_or, Option, Some, None, option_map, refl, ap, ◌∙◌, arith}
use Rattle.std.specs.Prelude.{option_and_then}
use Rattle.prof_words.specs.Numbers.{each}

module _ {A B : Type 0} (f : A → Option B) where
  nothing_then : (o : Option B) → option_and_then {T = B} {U = List B} (λ y. None) o ≡ None
  nothing_then None = refl
  nothing_then (Some y) = refl

  -- one has none, and so all have none
  pub each-none : (xs : List A) (n : ℕ) (d : A) → n < length xs → f (get_or xs n d) ≡ None → each f xs ≡ None
  each-none [] n d h g = absurd (omega arith)
  each-none (x ∷ xs) zero d h g = rw g refl
  each-none (x ∷ xs) (suc n) d h g = rw (each-none xs n d (omega arith) g) (nothing_then (f x))

  -- some, one more, and those behind it
  pub each-behind : (xs : List A) (x : A) (zs : List A) (ys : List B) (y : B) → each f xs ≡ Some ys → f x ≡ Some y
      → each f (xs ++ x ∷ zs) ≡ option_map (λ ws. ys ++ y ∷ ws) (each f zs)
  each-behind [] x zs ys y e g =
      let none : [] ≡ ys = cc e in
      rw g (ap (λ l. option_map (λ ws. l ++ y ∷ ws) (each f zs)) none)
  each-behind (v ∷ xs) x zs ys y e g = over (f v) refl (each f xs) refl (λ us at. each-behind xs x zs us y at g)
    where
      under : (w : B) (us : List B) (o : Option (List B)) → option_map (λ ws. w ∷ ws) (option_map (λ ws. us ++ y ∷ ws) o) ≡ option_map (λ ws. (w ∷ us) ++ y ∷ ws) o
      under w us None = refl
      under w us (Some ws) = refl

      over : (o : Option B) → f v ≡ o → (q : Option (List B)) → each f xs ≡ q
          → ((us : List B) → each f xs ≡ Some us → each f (xs ++ x ∷ zs) ≡ option_map (λ ws. us ++ y ∷ ws) (each f zs)) → each f ((v ∷ xs) ++ x ∷ zs) ≡ option_map (λ ws. ys ++ y ∷ ws) (each f zs)
      over None is q at rest =
          let bad : None ≡ Some ys = rw is at e in
          cc bad
      over (Some w) is None at rest =
          let bad : None ≡ Some ys = rw (is, at) at e in
          cc bad
      over (Some w) is (Some us) at rest =
          let all : Some (w ∷ us) ≡ Some ys = rw (is, at) at e in
          let same : w ∷ us ≡ ys = cc all in
          rw (is, rest us at) (under w us (each f zs) ∙ ap (λ l. option_map (λ ws. l ++ y ∷ ws) (each f zs)) same)

  pub each-more : (xs : List A) (x : A) (ys : List B) (y : B) → each f xs ≡ Some ys → f x ≡ Some y → each f (xs ++ x ∷ []) ≡ Some (ys ++ y ∷ [])
  each-more xs x ys y e g = each-behind xs x [] ys y e g
