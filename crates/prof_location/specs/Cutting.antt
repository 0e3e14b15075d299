-- Texts cut at a piece.
use Rattle.std.specs.Prelude.{ℕ, List, [], ◌∷◌, Bool, true, false, if◌then◌else◌, Option, None, Some, nat_eq, length, drop}
use Rattle.std.specs.Option.{option_or, option_map}

-- whether a text begins with a piece
abbrev pub begins : List ℕ → List ℕ → Bool
begins [] text = true
begins (x ∷ piece) [] = false
begins (x ∷ piece) (y ∷ text) = if nat_eq x y then begins piece text else false

-- what stands behind one more character
abbrev pub behind : ℕ → List ℕ × List ℕ → List ℕ × List ℕ
behind x (front, back) = (x ∷ front, back)

-- what stands before the last occurrence of a piece, and behind it
abbrev pub cut_at_last : List ℕ → List ℕ → Option (List ℕ × List ℕ)
cut_at_last piece [] = None
cut_at_last piece (x ∷ text) = option_or
    (option_map (behind x) (cut_at_last piece text))
    (if begins piece (x ∷ text) then Some ([], drop (length piece) (x ∷ text)) else None)
