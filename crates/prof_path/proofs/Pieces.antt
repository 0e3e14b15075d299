-- How many pieces and terms a search has at most
use Rattle.std.proofs.Common.{ℕ, ◌+◌, ◌≤◌, Bool, true, false, cond, not, List, [], ◌∷◌, length, arith}
use Rattle.std.specs.Prelude.{◌==◌}
use Rattle.std.specs.List.{slice_split, onto_first}
use Rattle.prof_path.specs.Terms.{trimmed, terms_among}

onto_first-le : (x : ℕ) (parts : List (List ℕ)) (n : ℕ) → length parts ≤ n + 1 → length (onto_first x parts) ≤ n + 1
onto_first-le x [] n h = omega arith
onto_first-le x (part ∷ parts) n h = h

pub pieces-le : (p : ℕ → Bool) (text : List ℕ) → length (slice_split p text) ≤ length text + 1
pieces-le p [] = omega arith
pieces-le p (b ∷ text) = go (p b) (pieces-le p text)
  where
    go : (c : Bool) → length (slice_split p text) ≤ length text + 1 → length (cond c ([] ∷ slice_split p text) (onto_first b (slice_split p text))) ≤ length (b ∷ text) + 1
    go true h = omega arith
    go false h = let k = onto_first-le b (slice_split p text) (length text) h in omega arith

pub terms-le : (pieces : List (List ℕ)) → length (terms_among pieces) ≤ length pieces
terms-le [] = omega arith
terms-le (piece ∷ pieces) = go (not (length (trimmed piece) == 0)) (terms-le pieces)
  where
    go : (c : Bool) → length (terms_among pieces) ≤ length pieces → length (cond c (trimmed piece ∷ terms_among pieces) (terms_among pieces)) ≤ length (piece ∷ pieces)
    go true h = omega arith
    go false h = omega arith
