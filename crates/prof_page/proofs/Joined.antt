-- Texts with a comma between.
use Rattle.std.proofs.Common.{◌≡◌, ◌∙◌, ◌<◌, ℕ, ◌+◌, zero, suc, List, [], ◌∷◌, ◌++◌, length, take, drop, get_or, Bool, true, false, nat_lt, refl, sym, ap, arith, append-nil, append_assoc, take-append-drop}
use Rattle.std.specs.List.{join_with_byte}
use Rattle.std.proofs.lemmas.List.{take_more}
use Rattle.std.proofs.lemmas.Bool.Decides.{nat_tests}
use Rattle.std.proofs.Math.Seq.{drop-cons}
use Rattle.prof_writer.specs.Writing.{comma_text}

-- there are some
abbrev pub are_some : List (List ℕ) → Bool
are_some [] = false
are_some (x ∷ xs) = true

-- what stands behind a text
abbrev pub behind : List (List ℕ) → List ℕ
behind [] = []
behind (x ∷ xs) = 44 ∷ join_with_byte 44 (x ∷ xs)

joined_first : (y : List ℕ) (ys : List (List ℕ)) → join_with_byte 44 (y ∷ ys) ≡ y ++ behind ys
joined_first y [] = sym (append-nil y)
joined_first y (z ∷ ys) = refl

pub joined_split : (xs : List (List ℕ)) (y : List ℕ) (ys : List (List ℕ)) → join_with_byte 44 (xs ++ y ∷ ys) ≡ join_with_byte 44 xs ++ ((comma_text (are_some xs) ++ y) ++ behind ys)
joined_split [] y ys = joined_first y ys
joined_split (x ∷ []) y ys = ap (λ l. x ++ 44 ∷ l) (joined_first y ys)
joined_split (x ∷ z ∷ xs) y ys =
    ap (λ l. x ++ 44 ∷ l) (joined_split (z ∷ xs) y ys) ∙ sym (append_assoc x (44 ∷ join_with_byte 44 (z ∷ xs)) ((comma_text true ++ y) ++ behind ys))

are_some-take : (xs : List (List ℕ)) (i : ℕ) → i < length xs → are_some (take i xs) ≡ nat_lt 0 i
are_some-take [] i h = absurd (omega arith)
are_some-take (x ∷ xs) zero h = refl
are_some-take (x ∷ xs) (suc i) h = grind (arith, nat_tests)

-- the texts so far, one more, and what stands behind it
pub joined_at : (xs : List (List ℕ)) (i : ℕ) → i < length xs
    → join_with_byte 44 xs ≡ join_with_byte 44 (take i xs) ++ ((comma_text (nat_lt 0 i) ++ get_or xs i []) ++ behind (drop (i + 1) xs))
joined_at xs i h =
    ap (join_with_byte 44) (sym (take-append-drop (i + 1) xs) ∙ ap (λ l. l ++ drop (i + 1) xs) (take_more xs i [] h) ∙ append_assoc (take i xs) (get_or xs i [] ∷ []) (drop (i + 1) xs))
    ∙ joined_split (take i xs) (get_or xs i []) (drop (i + 1) xs)
    ∙ ap (λ b. join_with_byte 44 (take i xs) ++ ((comma_text b ++ get_or xs i []) ++ behind (drop (i + 1) xs))) (are_some-take xs i h)

pub joined_more : (xs : List (List ℕ)) (i : ℕ) → i < length xs
    → join_with_byte 44 (take (i + 1) xs) ≡ join_with_byte 44 (take i xs) ++ (comma_text (nat_lt 0 i) ++ get_or xs i [])
joined_more xs i h =
    ap (join_with_byte 44) (take_more xs i [] h) ∙ joined_split (take i xs) (get_or xs i []) []
    ∙ ap (λ b. join_with_byte 44 (take i xs) ++ ((comma_text b ++ get_or xs i []) ++ [])) (are_some-take xs i h)
    ∙ ap (λ l. join_with_byte 44 (take i xs) ++ l) (append-nil (comma_text (nat_lt 0 i) ++ get_or xs i []))
