-- What the location of a frame says.
use Rattle.std.specs.Prelude.{ℕ, ◌+◌, ◌*◌, ◌^◌, List, [], ◌∷◌, Bool, true, false, ◌&&◌, ◌||◌, if◌then◌else◌, Option, None, Some, nat_lt, nat_le, nat_eq, drop, codes, fold}
use Rattle.std.specs.Option.{option_and_then, option_map, option_map_or}
use Rattle.std.specs.Char.{digit_value}
use Rattle.std.specs.List.{list_all}
use Rattle.prof_location.specs.Cutting.{begins, cut_at_last}

-- 0 to 9
abbrev pub is_decimal : ℕ → Bool
is_decimal c = nat_le 48 c && nat_le c 57

-- these, a to f and A to F
abbrev pub is_hexadecimal : ℕ → Bool
is_hexadecimal c = is_decimal c || (nat_le 97 c && nat_le c 102) || (nat_le 65 c && nat_le c 70)

-- a text of some character
abbrev pub is_some_text : List ℕ → Bool
is_some_text [] = false
is_some_text (x ∷ text) = true

-- one or more characters that all meet a test
abbrev pub are_some : (ℕ → Bool) → List ℕ → Bool
are_some test text = is_some_text text && list_all test text

-- one more digit behind a number
abbrev pub add_digit : ℕ → ℕ → ℕ
add_digit value c = value * 16 + digit_value c

-- the number that hexadecimal digits write behind others
abbrev pub hex_behind : ℕ → List ℕ → ℕ
hex_behind value digits = fold add_digit value digits

-- a number of 64 bits, and none for a greater one
abbrev pub within_64 : ℕ → Option ℕ
within_64 n = if nat_lt n (2 ^ 64) then Some n else None

-- `0x` or `0X`, then hexadecimal digits and nothing else
abbrev pub is_address : List ℕ → Bool
is_address text =
    (begins (codes "0x") text || begins (codes "0X") text) && are_some is_hexadecimal (drop 2 text)

-- the number of an address, and none in it where the number has more than 64 bits
unfoldable pub address_of : List ℕ → Option (Option ℕ)
address_of text = if is_address text then Some (within_64 (hex_behind 0 (drop 2 text))) else None

-- the function, the file, the line and the column of a JavaScript location
pub record Script : Type 0 where
  pub name : List ℕ
  pub file : List ℕ
  pub line : List ℕ
  pub column : Option (List ℕ)

-- a text that ends in a colon and digits, with something before the colon: that, and the digits
abbrev pub numbered_parts : List ℕ × List ℕ → Option (List ℕ × List ℕ)
numbered_parts p = if is_some_text p.0 && are_some is_decimal p.1 then Some p else None

unfoldable pub numbered : List ℕ → Option (List ℕ × List ℕ)
numbered text = option_and_then numbered_parts (cut_at_last (codes ":") text)

-- a number in the parentheses is the line, and a second one behind it the column
abbrev pub with_column : List ℕ → List ℕ → List ℕ × List ℕ → Script
with_column name column p = record { name = name; file = p.0; line = p.1; column = Some column }

abbrev pub without_column : List ℕ → List ℕ × List ℕ → Script
without_column name p = record { name = name; file = p.0; line = p.1; column = None }

-- where what stands before the last number ends in a number again, that is the line and the last is the column
abbrev pub script_parts : List ℕ → List ℕ × List ℕ → Script
script_parts name p = option_map_or (with_column name p.1) (numbered p.0) (without_column name p)

-- a name, and what stands in the parentheses
abbrev pub script_in : List ℕ × List ℕ → Option Script
script_in p = option_map (script_parts p.0) (numbered p.1)

-- what stands before a closing parenthesis at the end
abbrev pub before_close : List ℕ → Option (List ℕ)
before_close [] = None
before_close (c ∷ []) = if nat_eq c 41 then Some [] else None
before_close (c ∷ d ∷ text) = option_map (λ front. c ∷ front) (before_close (d ∷ text))

-- A text that ends in a closing parenthesis. What stands before the last space and parenthesis is the name.
unfoldable pub script_of : List ℕ → Option Script
script_of text =
    option_and_then script_in (option_and_then (cut_at_last (codes " (")) (before_close text))

-- what a location is
pub data Kind : Type 0 where
  address : Option ℕ → Kind
  script : Script → Kind
  label : Kind

abbrev pub script_or_label : Option Script → Kind
script_or_label (Some s) = script s
script_or_label None = label

-- An address is looked for first, and then a JavaScript function. Everything else is a label.
unfoldable pub kind_of : List ℕ → Kind
kind_of text = option_map_or address (address_of text) (script_or_label (script_of text))
