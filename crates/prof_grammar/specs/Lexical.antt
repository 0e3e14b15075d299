-- White space and strings (RFC 8259, sections 2 and 7; UTF-8 is RFC 3629). Numbers stand in `prof_time`.
use Rattle.std.specs.Prelude.{◌≢◌, ℕ, ◌+◌, ◌*◌, ◌≤◌, ◌&&◌, List, [], ◌∷◌, ◌++◌, encode_utf8, encode_utf8_all, if◌then◌else◌}
use Rattle.std.specs.Char.{IsScalar, IsAsciiHexdigit, digit_value}
use Rattle.std.specs.Char.Utf16.{is_high_surrogate, is_low_surrogate, surrogate_pair_char, lone_unit_char}
use Rattle.std.specs.Option.{unwrap_or}

pub data IsSpace : ℕ → Type 0 where
  space : IsSpace 32
  tab : IsSpace 9
  line_feed : IsSpace 10
  return : IsSpace 13

pub data IsBlank : List ℕ → Type 0 where
  none : IsBlank []
  more : {b : ℕ} {bs : List ℕ} → IsSpace b → IsBlank bs → IsBlank (b ∷ bs)

-- what one piece of a string stands for: a character, or the code unit of a `\u`
pub data Code : Type 0 where
  char : ℕ → Code
  unit : ℕ → Code

-- what a backslash and the letter stand for
pub data IsShort : ℕ → ℕ → Type 0 where
  quote : IsShort 34 34
  backslash : IsShort 92 92
  slash : IsShort 47 47
  backspace : IsShort 98 8
  form_feed : IsShort 102 12
  line_feed : IsShort 110 10
  return : IsShort 114 13
  tab : IsShort 116 9

-- the number that four hexadecimal digits write
abbrev pub hex_value : ℕ → ℕ → ℕ → ℕ → ℕ
hex_value a b c d = digit_value a * 4096 + digit_value b * 256 + digit_value c * 16 + digit_value d

-- a character that stands for itself, a backslash and a letter, or `\u` and four digits
pub data IsPiece : List ℕ → Code → Type 0 where
  plain : {c : ℕ} → IsScalar c → 32 ≤ c → c ≢ 34 → c ≢ 92 → IsPiece (encode_utf8 c) (char c)
  short : {x c : ℕ} → IsShort x c → IsPiece (92 ∷ x ∷ []) (char c)
  hex : {a b c d : ℕ} → IsAsciiHexdigit a → IsAsciiHexdigit b → IsAsciiHexdigit c → IsAsciiHexdigit d → IsPiece (92 ∷ 117 ∷ a ∷ b ∷ c ∷ d ∷ []) (unit (hex_value a b c d))

pub data ArePieces : List ℕ → List Code → Type 0 where
  none : ArePieces [] []
  more : {p t : List ℕ} {m : Code} {ms : List Code} → IsPiece p m → ArePieces t ms → ArePieces (p ++ t) (m ∷ ms)

-- The characters of a string. Two units side by side that are a pair are one character, and a surrogate
-- without its partner is U+FFFD.
abbrev pub characters : List Code → List ℕ
characters [] = []
characters (char c ∷ ms) = c ∷ characters ms
characters (unit u ∷ []) = unwrap_or (lone_unit_char u) 0xFFFD ∷ []
characters (unit u ∷ char c ∷ ms) = unwrap_or (lone_unit_char u) 0xFFFD ∷ c ∷ characters ms
characters (unit u ∷ unit v ∷ ms) =
    if is_high_surrogate u && is_low_surrogate v
    then surrogate_pair_char u v ∷ characters ms
    else (unwrap_or (lone_unit_char u) 0xFFFD ∷ characters (unit v ∷ ms))

-- quotes around pieces, and their characters in UTF-8
pub data IsString : List ℕ → List ℕ → Type 0 where
  string : {t : List ℕ} {ms : List Code} → ArePieces t ms → IsString (34 ∷ t ++ 34 ∷ []) (encode_utf8_all (characters ms))
