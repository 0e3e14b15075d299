-- The items that pass a test, as a loop comes to them
use Rattle.std.proofs.Common.{subst, append-nil, suc, ◌≡◌, ◌+◌, ◌<◌, ℕ, Bool, true, false, cond, List, [], ◌∷◌, ◌++◌, length, map, take, get_or, ap, ◌∙◌, arith}
use Rattle.std.specs.List.{All, filter, enumerate_from}
use Rattle.std.proofs.lemmas.List.{map-append, take_more, length-take-le}
use Rattle.std.proofs.lemmas.List.Elements.{filter-append, All-cons}
use Rattle.prof_marker.specs.Found.{places}

enumerate_from-push : {A : Type 0} (n : ℕ) (xs : List A) (x : A) → enumerate_from n (xs ++ x ∷ []) ≡ enumerate_from n xs ++ (n + length xs, x) ∷ []
enumerate_from-push n [] x = let e : n ≡ n + 0 = omega arith in ap (λ k. (k, x) ∷ []) e
enumerate_from-push n (y ∷ xs) x =
    let e : n + 1 + length xs ≡ n + (suc (length xs)) = omega arith in
    ap (λ l. (n, y) ∷ l) (enumerate_from-push (n + 1) xs x ∙ ap (λ k. enumerate_from (n + 1) xs ++ (k, x) ∷ []) e)

module _ {A : Type 0} (test : A → Bool) where
  one_passes : (x : A) (b : Bool) → test x ≡ b → filter test (x ∷ []) ≡ cond b (x ∷ []) []
  one_passes x b e = ap (λ t. cond t (x ∷ []) []) e

  pub filter_pass : (xs : List A) (i : ℕ) (d : A) → i < length xs → test (get_or xs i d) ≡ true → filter test (take (i + 1) xs) ≡ filter test (take i xs) ++ get_or xs i d ∷ []
  filter_pass xs i d lt t =
      ap (filter test) (take_more xs i d lt)
      ∙ (filter-append test (take i xs) (get_or xs i d ∷ []) ∙ ap (λ l. filter test (take i xs) ++ l) (one_passes (get_or xs i d) true t))

  pub filter_fail : (xs : List A) (i : ℕ) (d : A) → i < length xs → test (get_or xs i d) ≡ false → filter test (take (i + 1) xs) ≡ filter test (take i xs)
  filter_fail xs i d lt t =
      ap (filter test) (take_more xs i d lt)
      ∙ (filter-append test (take i xs) (get_or xs i d ∷ []) ∙ (ap (λ l. filter test (take i xs) ++ l) (one_passes (get_or xs i d) false t) ∙ append-nil (filter test (take i xs))))

-- the same of places
module _ {A : Type 0} (test : A → Bool) where
  abbrev tested : ℕ × A → Bool
  tested e = test e.1

  places_one : (xs : List A) (i : ℕ) (d : A) → i < length xs
      → places test (take (i + 1) xs) ≡ places test (take i xs) ++ map (λ (e : ℕ × A). e.0) (filter tested ((i, get_or xs i d) ∷ []))
  places_one xs i d lt =
      let x = get_or xs i d in
      let n : 0 + length (take i xs) ≡ i = omega (arith, length-take-le i xs (omega arith)) in
      ap (λ l. map (λ (e : ℕ × A). e.0) (filter tested (enumerate_from 0 l))) (take_more xs i d lt)
      ∙ (ap (λ l. map (λ (e : ℕ × A). e.0) (filter tested l)) (enumerate_from-push 0 (take i xs) x ∙ ap (λ k. enumerate_from 0 (take i xs) ++ (k, x) ∷ []) n)
      ∙ (ap (map (λ (e : ℕ × A). e.0)) (filter-append tested (enumerate_from 0 (take i xs)) ((i, x) ∷ []))
      ∙ map-append (λ (e : ℕ × A). e.0) (filter tested (enumerate_from 0 (take i xs))) (filter tested ((i, x) ∷ []))))

  pub places_pass : (xs : List A) (i : ℕ) (d : A) → i < length xs → test (get_or xs i d) ≡ true → places test (take (i + 1) xs) ≡ places test (take i xs) ++ i ∷ []
  places_pass xs i d lt t =
      places_one xs i d lt ∙ ap (λ b. places test (take i xs) ++ map (λ (e : ℕ × A). e.0) (cond b ((i, get_or xs i d) ∷ []) [])) t

  pub places_fail : (xs : List A) (i : ℕ) (d : A) → i < length xs → test (get_or xs i d) ≡ false → places test (take (i + 1) xs) ≡ places test (take i xs)
  places_fail xs i d lt t =
      places_one xs i d lt ∙ (ap (λ b. places test (take i xs) ++ map (λ (e : ℕ × A). e.0) (cond b ((i, get_or xs i d) ∷ []) [])) t ∙ append-nil (places test (take i xs)))

  -- each place lies within the list
  within_from : (n : ℕ) (xs : List A) → All (λ k. k < n + length xs) (map (λ (e : ℕ × A). e.0) (filter tested (enumerate_from n xs)))
  within_from n [] = λ k d lt. absurd (omega arith)
  within_from n (x ∷ xs) =
      let same : n + 1 + length xs ≡ n + suc (length xs) = omega arith in
      let rest = subst (λ m. All (λ k. k < m) (map (λ (e : ℕ × A). e.0) (filter tested (enumerate_from (n + 1) xs)))) same (within_from (n + 1) xs) in
      let first : n < n + suc (length xs) = omega arith in
      elim (test x) as (λ b. All (λ k. k < n + suc (length xs)) (map (λ (e : ℕ × A). e.0) (cond b ((n, x) ∷ filter tested (enumerate_from (n + 1) xs)) (filter tested (enumerate_from (n + 1) xs))))) [
        | true ↦ All-cons (λ k. k < n + suc (length xs)) n (map (λ (e : ℕ × A). e.0) (filter tested (enumerate_from (n + 1) xs))) first rest
        | false ↦ rest
      ]

  pub places_within : (xs : List A) → All (λ k. k < length xs) (places test xs)
  places_within xs =
      let same : 0 + length xs ≡ length xs = omega arith in
      subst (λ m. All (λ k. k < m) (places test xs)) same (within_from 0 xs)
