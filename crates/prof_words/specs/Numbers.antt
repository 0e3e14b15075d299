-- Numbers as words.
use Rattle.std.specs.Prelude.{ℕ, List, [], ◌∷◌, Bool, false, not, ◌==◌, ◌&&◌, nat_le, Option, Some, None, option_map, option_and_then, if◌then◌else◌}
use Rattle.std.specs.Char.{is_ascii_digit}
use Rattle.std.specs.List.{list_all, slice_split}
use Rattle.std.specs.Str.Parse.{digits_value}

-- decimal digits, without a zero before another digit
abbrev pub is_decimal : List ℕ → Bool
is_decimal [] = false
is_decimal (b ∷ []) = is_ascii_digit b
is_decimal (b ∷ c ∷ bs) = not (b == 48) && list_all is_ascii_digit (b ∷ c ∷ bs)

-- the number that the word is, where it lies from a least to a greatest one
abbrev pub number_within : ℕ → ℕ → List ℕ → Option ℕ
number_within least most word =
    let number = digits_value 10 word in
    if is_decimal word && (nat_le least number && nat_le number most) then Some number else None

-- the values of all, where each has one
abbrev pub each : {A B : Type 0} → (A → Option B) → List A → Option (List B)
each f [] = Some []
each f (x ∷ xs) = option_and_then (λ y. option_map (λ ys. y ∷ ys) (each f xs)) (f x)

-- the numbers of threads, one or more, with a point between
abbrev pub threads_of : List ℕ → Option (List ℕ)
threads_of word = each (number_within 0 4294967295) (slice_split (λ b. b == 46) word)
