-- The terms of a search, and where a term is found
use Rattle.std.specs.Prelude.{ℕ, ◌-◌, Bool, not, ◌||◌, ◌==◌, nat_eq, nat_lt, List, [], ◌∷◌, length, take, drop, map}
use Rattle.std.specs.List.{filter, starts_with, prefix_len, suffix_len, slice_split}
use Rattle.std.specs.Str.{str_to_ascii_lowercase}

-- a space or a tab
abbrev pub is_blank : ℕ → Bool
is_blank b = b == 32 || b == 9

-- a text without the spaces and tabs at its two ends
abbrev pub trimmed : List ℕ → List ℕ
trimmed text =
    let rest = drop (prefix_len is_blank text) text in
    take (length rest - suffix_len is_blank rest) rest

-- what is left of the pieces of a search: they are trimmed, and those that are then empty go away
abbrev pub terms_among : List (List ℕ) → List (List ℕ)
terms_among pieces = filter (λ term. not (length term == 0)) (map trimmed pieces)

-- the terms of a search, which commas part
abbrev pub terms_of : List ℕ → List (List ℕ)
terms_of text = terms_among (slice_split (λ b. b == 44) text)

-- whether a search is over 256 bytes or 8 terms
abbrev pub is_long_search : List ℕ → Bool
is_long_search text = nat_lt 256 (length text) || nat_lt 8 (length (terms_of text))

-- whether a text has a term somewhere, byte for byte
abbrev pub has_within : List ℕ → List ℕ → Bool
has_within term [] = starts_with nat_eq [] term
has_within term (c ∷ text) = starts_with nat_eq (c ∷ text) term || has_within term text

-- whether a text has a term somewhere, ASCII letters without case
abbrev pub has_term : List ℕ → List ℕ → Bool
has_term term text = has_within (str_to_ascii_lowercase term) (str_to_ascii_lowercase text)
