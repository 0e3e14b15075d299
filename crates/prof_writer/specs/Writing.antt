-- The bytes of JSON values as they are written.
use Rattle.std.specs.Prelude.{◌≡◌, ℕ, ◌+◌, ◌/◌, ◌%◌, ◌==◌, ◌||◌, nat_lt, Bool, true, false, List, [], ◌∷◌, ◌++◌, codes, if◌then◌else◌}
use Rattle.std.specs.List.{flat_map}

-- a comma, where one is due
abbrev pub comma_text : Bool → List ℕ
comma_text due = if due then codes "," else []

-- a digit of a number in base 16
abbrev pub hex_digit : ℕ → ℕ
hex_digit n = if nat_lt n 10 then 48 + n else 87 + n

-- quotation marks, backslashes and the bytes below 32 are escaped
abbrev pub is_escaped : ℕ → Bool
is_escaped byte = nat_lt byte 32 || byte == 34 || byte == 92

abbrev pub is_plain : ℕ → Bool
is_plain byte = if is_escaped byte then false else true

-- a byte of a string: those with a letter of their own, other bytes below 32, and all that stand for themselves
abbrev pub escape : ℕ → List ℕ
escape byte =
    if byte == 34 then codes "\\\"" else
    if byte == 92 then codes "\\\\" else
    if byte == 8 then codes "\\b" else
    if byte == 9 then codes "\\t" else
    if byte == 10 then codes "\\n" else
    if byte == 12 then codes "\\f" else
    if byte == 13 then codes "\\r" else
    if nat_lt byte 32 then codes "\\u00" ++ hex_digit (byte / 16) ∷ hex_digit (byte % 16) ∷ [] else byte ∷ []

-- a string in quotation marks
abbrev pub quoted : List ℕ → List ℕ
quoted text = codes "\"" ++ (flat_map escape text ++ codes "\"")

abbrev pub truth_text : Bool → List ℕ
truth_text value = if value then codes "true" else codes "false"
