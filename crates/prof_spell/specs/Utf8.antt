-- UTF-8, a byte at a time (Unicode, table 3-7).
use Rattle.std.specs.Prelude.{ℕ, Bool, true, false, nat_lt, nat_le, ◌==◌, ◌&&◌, ◌||◌, if◌then◌else◌}
use Rattle.prof_spell.specs.declared.utf8.Due.{Due}
use Rattle.prof_spell.specs.declared.utf8.Due.TheVariants.{Character, OneMore, TwoMore, ThreeMore, BehindE0, BehindEd, BehindF0, BehindF4}

-- the byte may come
abbrev pub allows : Due → ℕ → Bool
allows Character b = nat_lt b 0x80 || (nat_le 0xC2 b && nat_le b 0xF4)
allows OneMore b = nat_le 0x80 b && nat_le b 0xBF
allows TwoMore b = nat_le 0x80 b && nat_le b 0xBF
allows ThreeMore b = nat_le 0x80 b && nat_le b 0xBF
allows BehindE0 b = nat_le 0xA0 b && nat_le b 0xBF
allows BehindEd b = nat_le 0x80 b && nat_le b 0x9F
allows BehindF0 b = nat_le 0x90 b && nat_le b 0xBF
allows BehindF4 b = nat_le 0x80 b && nat_le b 0x8F

-- what may come behind a character's first byte
abbrev pub behind_first : ℕ → Due
behind_first b =
    if nat_lt b 0x80 then Character else
    (if nat_lt b 0xE0 then OneMore else
    (if b == 0xE0 then BehindE0 else
    (if b == 0xED then BehindEd else
    (if nat_lt b 0xF0 then TwoMore else
    (if b == 0xF0 then BehindF0 else
    (if b == 0xF4 then BehindF4 else ThreeMore))))))

-- what may come behind the byte
abbrev pub behind_byte : Due → ℕ → Due
behind_byte Character b = behind_first b
behind_byte OneMore b = Character
behind_byte TwoMore b = OneMore
behind_byte ThreeMore b = TwoMore
behind_byte BehindE0 b = OneMore
behind_byte BehindEd b = OneMore
behind_byte BehindF0 b = TwoMore
behind_byte BehindF4 b = TwoMore

-- a character is whole, so a text may end there
abbrev pub is_between : Due → Bool
is_between Character = true
is_between d = false

-- a byte with this upper half may come
abbrev pub opens : Due → ℕ → Bool
opens Character h = nat_lt h 8 || nat_le 12 h
opens OneMore h = nat_le 8 h && nat_le h 11
opens TwoMore h = nat_le 8 h && nat_le h 11
opens ThreeMore h = nat_le 8 h && nat_le h 11
opens BehindE0 h = nat_le 10 h && nat_le h 11
opens BehindEd h = nat_le 8 h && nat_le h 9
opens BehindF0 h = nat_le 9 h && nat_le h 11
opens BehindF4 h = h == 8
