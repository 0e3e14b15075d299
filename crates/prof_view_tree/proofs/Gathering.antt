-- Paths that are the same, as one path with their weights together
use Rattle.std.proofs.Common.{◌≡◌, ℕ, suc, ◌+◌, ◌<◌, ◌≤◌, ℤ, ◌+ℤ◌, Bool, true, false, cond, List, [], ◌∷◌, ◌++◌, length, Option, Some, None, sym, ap, ◌∙◌, subst, refl, arith}
use Rattle.std.proofs.lemmas.List.{append-nil}
use Rattle.prof_tables.specs.declared.rows.Step.{Step}
use Rattle.prof_tree.specs.Nodes.{Weighed}
use Rattle.prof_view_tree.specs.Weighing.{AreAlike, held, joined, mass, weight_of}
use Rattle.prof_view_tree.proofs.Alike.{alike_same, alike_on, alike_back, alike_first, alike_moved, alike_split, alike_empty}
use Rattle.prof_view_tree.proofs.Lifting.{mass-first, size, size-joined}

-- a path with a weight, where there is one
abbrev pub as_path : List Step → Option ℤ → List Weighed
as_path x None = []
as_path x (Some w) = record { steps = x; weight = w } ∷ []

-- a path in front and one at the end, that are the same
both_ends : (x : List Step) (v : ℤ) (rest : Option ℤ) (xs ys : List Weighed) → AreAlike xs (ys ++ as_path x rest)
    → AreAlike (record { steps = x; weight = v } ∷ xs) (ys ++ as_path x (joined (Some v) rest))
both_ends x v None xs ys a =
    let one : Weighed = record { steps = x; weight = v } in
    alike_on (one ∷ xs) (one ∷ ys) (ys ++ one ∷ []) (alike_first one xs ys (subst (AreAlike xs) (append-nil ys) a)) (alike_moved one ys)
both_ends x v (Some w) xs ys a =
    let one : Weighed = record { steps = x; weight = v } in
    let more : Weighed = record { steps = x; weight = w } in
    let sum : Weighed = record { steps = x; weight = v +ℤ w } in
    alike_on (one ∷ xs) (one ∷ (ys ++ more ∷ [])) (ys ++ sum ∷ []) (alike_first one xs (ys ++ more ∷ []) a)
    (alike_on (one ∷ (ys ++ more ∷ [])) (one ∷ more ∷ ys) (ys ++ sum ∷ []) (alike_first one (ys ++ more ∷ []) (more ∷ ys) (alike_back (more ∷ ys) (ys ++ more ∷ []) (alike_moved more ys)))
    (alike_on (one ∷ more ∷ ys) (sum ∷ ys) (ys ++ sum ∷ []) (alike_back (sum ∷ ys) (one ∷ more ∷ ys) (alike_split x v w ys)) (alike_moved sum ys)))

module _ (test : ℕ → Bool) where
  -- the weights of the other rows
  abbrev pub others : ℕ → List (Option ℤ) → List (Option ℤ)
  others first [] = []
  others first (o ∷ ws) = cond (test first) None o ∷ others (suc first) ws

  pub others-mass : (first : ℕ) (ws : List (Option ℤ)) → mass (others first ws) + size (weight_of test first ws) ≤ mass ws
  others-mass first [] = omega arith
  others-mass first (o ∷ ws) =
      let rest : mass (others (suc first) ws) + size (weight_of test (suc first) ws) ≤ mass ws = others-mass (suc first) ws in
      elim (test first) as (λ b. mass (cond b None o ∷ others (suc first) ws) + size (joined (cond b o None) (weight_of test (suc first) ws)) ≤ mass (o ∷ ws)) [
        | true ↦ omega (arith, rest, size-joined o (weight_of test (suc first) ws), mass-first o ws)
        | false ↦ omega (arith, rest, mass-first o ws, mass-first o (others (suc first) ws))
      ]

  -- the paths of the rows that pass the test are all the same, and the other ones are as they were
  pub gathered : (x : List Step) (path_at other_at : ℕ → List Step) (first : ℕ) (ws : List (Option ℤ))
      → ((row : ℕ) → first ≤ row → row < first + length ws → test row ≡ true → path_at row ≡ x)
      → ((row : ℕ) → first ≤ row → row < first + length ws → test row ≡ false → path_at row ≡ other_at row)
      → AreAlike (held path_at first ws) (held other_at first (others first ws) ++ as_path x (weight_of test first ws))
  gathered x path_at other_at first [] h k = alike_same []
  gathered x path_at other_at first (o ∷ ws) h k =
      by o (test first) refl (gathered x path_at other_at (suc first) ws (λ row a b e. h row (omega arith) (omega arith) e) (λ row a b e. k row (omega arith) (omega arith) e))
    where
      by : (p : Option ℤ) (b : Bool) → test first ≡ b → AreAlike (held path_at (suc first) ws) (held other_at (suc first) (others (suc first) ws) ++ as_path x (weight_of test (suc first) ws))
          → AreAlike (held path_at first (p ∷ ws)) (held other_at first (cond (test first) None p ∷ others (suc first) ws) ++ as_path x (joined (cond (test first) p None) (weight_of test (suc first) ws)))
      by None b e a =
          subst (λ b. AreAlike (held path_at first (None ∷ ws)) (held other_at first (cond b None None ∷ others (suc first) ws) ++ as_path x (joined (cond b None None) (weight_of test (suc first) ws)))) (sym e) (none b)
        where
          none : (b : Bool) → AreAlike (held path_at first (None ∷ ws)) (held other_at first (cond b None None ∷ others (suc first) ws) ++ as_path x (joined (cond b None None) (weight_of test (suc first) ws)))
          none true = a
          none false = a
      by (Some v) true e a =
          subst (λ b. AreAlike (held path_at first (Some v ∷ ws)) (held other_at first (cond b None (Some v) ∷ others (suc first) ws) ++ as_path x (joined (cond b (Some v) None) (weight_of test (suc first) ws)))) (sym e)
          (subst (λ y. AreAlike (record { steps = y; weight = v } ∷ held path_at (suc first) ws) (held other_at (suc first) (others (suc first) ws) ++ as_path x (joined (Some v) (weight_of test (suc first) ws)))) (sym (h first (omega arith) (omega arith) e))
          (both_ends x v (weight_of test (suc first) ws) (held path_at (suc first) ws) (held other_at (suc first) (others (suc first) ws)) a))
      by (Some v) false e a =
          subst (λ b. AreAlike (held path_at first (Some v ∷ ws)) (held other_at first (cond b None (Some v) ∷ others (suc first) ws) ++ as_path x (joined (cond b (Some v) None) (weight_of test (suc first) ws)))) (sym e)
          (subst (λ y. AreAlike (record { steps = y; weight = v } ∷ held path_at (suc first) ws) (held other_at first (Some v ∷ others (suc first) ws) ++ as_path x (weight_of test (suc first) ws))) (sym (k first (omega arith) (omega arith) e))
          (alike_first (record { steps = other_at first; weight = v }) (held path_at (suc first) ws) (held other_at (suc first) (others (suc first) ws) ++ as_path x (weight_of test (suc first) ws)) a))

-- paths without a step are as none
pub held_empty : (path_at : ℕ → List Step) (first : ℕ) (ws : List (Option ℤ)) → ((row : ℕ) → path_at row ≡ []) → AreAlike [] (held path_at first ws)
held_empty path_at first [] h = alike_same []
held_empty path_at first (None ∷ ws) h = held_empty path_at (suc first) ws h
held_empty path_at first (Some w ∷ ws) h =
    let rest = held path_at (suc first) ws in
    subst (λ x. AreAlike [] (record { steps = x; weight = w } ∷ rest)) (sym (h first)) (alike_on [] rest (record { steps = []; weight = w } ∷ rest) (held_empty path_at (suc first) ws h) (alike_empty w rest))

-- the same paths
pub held_same : (path_at other_at : ℕ → List Step) (first : ℕ) (ws : List (Option ℤ)) → ((row : ℕ) → first ≤ row → row < first + length ws → path_at row ≡ other_at row) → held path_at first ws ≡ held other_at first ws
held_same path_at other_at first [] h = refl
held_same path_at other_at first (None ∷ ws) h = held_same path_at other_at (suc first) ws (λ row a b. h row (omega arith) (omega arith))
held_same path_at other_at first (Some w ∷ ws) h =
    ap (λ x. record { steps = x; weight = w } ∷ held path_at (suc first) ws) (h first (omega arith) (omega arith))
    ∙ ap (λ xs. record { steps = other_at first; weight = w } ∷ xs) (held_same path_at other_at (suc first) ws (λ row a b. h row (omega arith) (omega arith)))
