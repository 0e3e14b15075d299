-- Tests of bytes.
use Rattle.std.specs.Prelude.{ℕ, Bool, true, not, ◌≡◌, ◌&&◌, ◌||◌, ◌==◌, nat_lt, nat_le, List, [], ◌∷◌, if◌then◌else◌}

abbrev pub is_space : ℕ → Bool
is_space b = (b == 32) || (b == 9) || (b == 10) || (b == 13)

-- an ASCII character that stands for itself within a string
abbrev pub is_plain : ℕ → Bool
is_plain b = nat_le 32 b && nat_lt b 128 && not (b == 34) && not (b == 92)

abbrev pub is_digit : ℕ → Bool
is_digit b = nat_le 48 b && nat_le b 57

abbrev pub is_e : ℕ → Bool
is_e b = (b == 101) || (b == 69)

-- the byte may stand behind an item of an array
abbrev pub follows_item : ℕ → Bool
follows_item b = is_space b || (b == 44) || (b == 93)

-- the least and the greatest byte that may stand behind this one in a character of three bytes or four (Unicode,
-- table 3-7)
abbrev pub second_low : ℕ → ℕ
second_low b = if b == 0xE0 then 0xA0 else (if b == 0xF0 then 0x90 else 0x80)

abbrev pub second_high : ℕ → ℕ
second_high b = if b == 0xED then 0x9F else (if b == 0xF4 then 0x8F else 0xBF)

-- each byte passes the test
pub data Each (test : ℕ → Bool) : List ℕ → Type 0 where
  none : Each test []
  more : {b : ℕ} {bs : List ℕ} → test b ≡ true → Each test bs → Each test (b ∷ bs)
