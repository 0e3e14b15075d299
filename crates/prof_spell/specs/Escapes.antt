-- Texts in which bytes are escaped.
use Rattle.std.specs.Prelude.{◌≡◌, ℕ, Bool, true, false, not, ◌==◌, ◌&&◌, ◌||◌, List, [], ◌∷◌, ◌++◌, IsUtf8, if◌then◌else◌}
use Rattle.std.specs.Char.{is_ascii_alphanumeric}
use Rattle.percent_encoding.specs.Percent.{percent_encode_byte}
use Rattle.prof_spell.specs.Spelling.{Language}
use Rattle.prof_spell.specs.Chains.{Chain}
use Rattle.prof_spell.specs.Utf8.{allows, behind_byte, is_between}
use Rattle.prof_spell.specs.declared.utf8.Due.{Due}

-- the byte stands for itself: `A` to `Z`, `a` to `z`, `0` to `9`, `-`, `_` and `.`
abbrev pub is_unreserved : ℕ → Bool
is_unreserved b = ((is_ascii_alphanumeric b || b == 45) || b == 95) || b == 46

-- the byte itself, or `%` and two upper-case hexadecimal digits
abbrev pub byte_text : ℕ → List ℕ
byte_text b = if is_unreserved b then b ∷ [] else percent_encode_byte b

abbrev pub escaped : List ℕ → List ℕ
escaped [] = []
escaped (b ∷ bytes) = byte_text b ++ escaped bytes

-- a byte that goes on with an escaped text
abbrev pub is_escaped_byte : ℕ → Bool
is_escaped_byte b = is_unreserved b || b == 37

-- texts of UTF-8, escaped
abbrev pub searches : Language (List ℕ)
searches = record { text = escaped; Fits = IsUtf8; goes = λ s. is_escaped_byte }

-- ---- how one is read, a byte at a time

-- one byte, which may come
abbrev pub escapes : Due → Language ℕ
escapes due = record { text = byte_text; Fits = λ b. allows due b ≡ true; goes = λ b c. false }

abbrev pub escape_chain : Chain Due ℕ
escape_chain = record { items = escapes; next = behind_byte; ends = is_between; goes = λ due. is_escaped_byte }

-- the byte may come, and it doesn't stand for itself
abbrev pub is_escapable : Due → ℕ → Bool
is_escapable due b = allows due b && not (is_unreserved b)

-- one byte, which may come escaped
abbrev pub percents : Due → Language ℕ
percents due = record { text = percent_encode_byte; Fits = λ b. is_escapable due b ≡ true; goes = λ b c. false }
