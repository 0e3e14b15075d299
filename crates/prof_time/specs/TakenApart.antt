-- A number's text taken apart from the left.
use Rattle.std.specs.Prelude.{ℕ, Bool, false, ◌==◌, ◌||◌, List, [], ◌∷◌, drop, take_while, if◌then◌else◌}
use Rattle.std.specs.Char.{is_ascii_digit}
use Rattle.std.specs.List.{prefix_len}
use Rattle.prof_time.specs.Numeral.{Numeral}

abbrev pub is_minus : List ℕ → Bool
is_minus [] = false
is_minus (b ∷ bs) = b == 45

-- the text behind a sign, if it begins with one
abbrev pub without_sign : List ℕ → List ℕ
without_sign [] = []
without_sign (b ∷ bs) = if (b == 45 || b == 43) then bs else (b ∷ bs)

abbrev pub behind_digits : List ℕ → List ℕ
behind_digits text = drop (prefix_len is_ascii_digit text) text

-- the digits behind a point, if the text begins with one
abbrev pub fraction_in_front : List ℕ → List ℕ
fraction_in_front [] = []
fraction_in_front (b ∷ bs) = if b == 46 then take_while is_ascii_digit bs else []

abbrev pub behind_fraction : List ℕ → List ℕ
behind_fraction [] = []
behind_fraction (b ∷ bs) = if b == 46 then behind_digits bs else (b ∷ bs)

-- sign, digits, fraction, and behind e or E a sign and digits
unfoldable pub numeral_of : List ℕ → Numeral
numeral_of text =
    let rest = behind_digits (without_sign text) in
    let exponent = drop 1 (behind_fraction rest) in
    record {
      negative = is_minus text;
      whole = take_while is_ascii_digit (without_sign text);
      fraction = fraction_in_front rest;
      down = is_minus exponent;
      exponent = without_sign exponent;
    }
