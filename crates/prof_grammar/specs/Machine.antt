-- A machine that takes a byte at a time. Its state is the list of the parts that are still to come.
use Rattle.std.specs.Prelude.{ℕ, zero, suc, ◌+◌, ◌*◌, Bool, true, false, cond, ◌==◌, ◌&&◌, nat_lt, nat_le, List, [], ◌∷◌, ◌++◌, codes, Option, Some, None, option_map, option_and_then, encode_utf8, if◌then◌else◌}
use Rattle.std.specs.Char.{is_ascii_hexdigit, digit_value}
use Rattle.std.specs.Char.Utf16.{is_high_surrogate, is_low_surrogate, surrogate_pair_char, lone_unit_char}
use Rattle.std.specs.Option.{unwrap_or}
use Rattle.prof_grammar.specs.Event.{Event, object_start, object_end, array_start, array_end, name, str, number, truth, null}
use Rattle.prof_grammar.specs.Grammar.{Symbol, value, items, more_items, members, member, more_members}

-- ---- kinds of bytes

-- what kind of byte it is outside strings
pub data Class : Type 0 where
  open_bracket : Class
  close_bracket : Class
  open_brace : Class
  close_brace : Class
  comma : Class
  colon : Class
  quote : Class
  minus : Class
  plus : Class
  point : Class
  zero_digit : Class
  digit : Class
  space : Class
  letter_t : Class
  letter_f : Class
  letter_n : Class
  letter_e : Class
  mark_byte : Class
  other : Class

-- a digit is 1 to 9, the letter e stands for E too, and a byte order mark begins with 0xEF
abbrev pub class : ℕ → Class
class b =
    cond (nat_lt b 48)
    (cond (b == 34) quote (cond (b == 44) comma (cond (b == 45) minus (cond (b == 46) point (cond (b == 43) plus
    (cond (b == 32) space (cond (b == 9) space (cond (b == 10) space (cond (b == 13) space other)))))))))
    (cond (b == 48) zero_digit (cond (nat_lt b 58) digit
    (cond (b == 58) colon (cond (b == 91) open_bracket (cond (b == 93) close_bracket (cond (b == 123) open_brace (cond (b == 125) close_brace
    (cond (b == 116) letter_t (cond (b == 102) letter_f (cond (b == 110) letter_n (cond (b == 101) letter_e (cond (b == 69) letter_e (cond (b == 0xEF) mark_byte other)))))))))))))

-- What is still to come of a character of two bytes or more in UTF-8: bytes from 0x80 to 0xBF, but that the byte
-- behind 0xE0, 0xED, 0xF0 or 0xF4 has a range of its own (Unicode, table 3-7).
pub data Tail : Type 0 where
  one_more : Tail
  two_more : Tail
  three_more : Tail
  behind_e0 : Tail
  behind_ed : Tail
  behind_f0 : Tail
  behind_f4 : Tail

-- the least and the greatest byte that may come next, and what is to come behind it
abbrev pub tail_low : Tail → ℕ
tail_low behind_e0 = 0xA0
tail_low behind_f0 = 0x90
tail_low t = 0x80

abbrev pub tail_high : Tail → ℕ
tail_high behind_ed = 0x9F
tail_high behind_f4 = 0x8F
tail_high t = 0xBF

abbrev pub tail_next : Tail → Option Tail
tail_next one_more = None
tail_next two_more = Some one_more
tail_next three_more = Some two_more
tail_next behind_e0 = Some one_more
tail_next behind_ed = Some one_more
tail_next behind_f0 = Some two_more
tail_next behind_f4 = Some two_more

abbrev pub in_tail : Tail → ℕ → Bool
in_tail t b = nat_le (tail_low t) b && nat_le b (tail_high t)

-- what kind of byte it is between the pieces of a string
pub data TextByte : Type 0 where
  ends : TextByte
  escapes : TextByte
  plain : TextByte
  leads : Tail → TextByte
  bad : TextByte

abbrev pub text_byte : ℕ → TextByte
text_byte b =
    cond (nat_lt b 32) bad (cond (b == 34) ends (cond (b == 92) escapes (cond (nat_lt b 0x80) plain
    (cond (nat_lt b 0xC2) bad (cond (nat_lt b 0xE0) (leads one_more)
    (cond (b == 0xE0) (leads behind_e0) (cond (b == 0xED) (leads behind_ed) (cond (nat_lt b 0xF0) (leads two_more)
    (cond (b == 0xF0) (leads behind_f0) (cond (nat_lt b 0xF4) (leads three_more) (cond (b == 0xF4) (leads behind_f4) bad)))))))))))

-- the character that a backslash and this letter stand for
abbrev pub escaped : ℕ → Option ℕ
escaped b =
    cond (b == 34) (Some 34) (cond (b == 92) (Some 92) (cond (b == 47) (Some 47) (cond (b == 98) (Some 8)
    (cond (b == 102) (Some 12) (cond (b == 110) (Some 10) (cond (b == 114) (Some 13) (cond (b == 116) (Some 9) None)))))))

-- ---- the parts

-- a string is a member's name, or a value
pub data Role : Type 0 where
  as_name : Role
  as_value : Role

abbrev pub told : Role → List ℕ → Event
told as_name s = name s
told as_value s = str s

-- a fixed text within the grammar; `a_mark` is a byte order mark
pub data Literal : Type 0 where
  a_true : Literal
  a_false : Literal
  a_null : Literal
  a_colon : Literal
  a_mark : Literal

abbrev pub meant : Literal → List Event
meant a_true = truth true ∷ []
meant a_false = truth false ∷ []
meant a_null = null ∷ []
meant a_colon = []
meant a_mark = []

-- how far a number has come: behind its sign, behind a zero that stands first, within its whole part, ..
pub data Stage : Type 0 where
  after_minus : Stage
  after_zero : Stage
  in_whole : Stage
  after_point : Stage
  in_fraction : Stage
  after_e : Stage
  after_sign : Stage
  in_exponent : Stage

-- where a byte of this class takes the number; None where the number doesn't go on with it
abbrev pub next_stage : Stage → Class → Option Stage
next_stage after_minus zero_digit = Some after_zero
next_stage after_minus digit = Some in_whole
next_stage after_minus c = None
next_stage after_zero point = Some after_point
next_stage after_zero letter_e = Some after_e
next_stage after_zero c = None
next_stage in_whole zero_digit = Some in_whole
next_stage in_whole digit = Some in_whole
next_stage in_whole point = Some after_point
next_stage in_whole letter_e = Some after_e
next_stage in_whole c = None
next_stage after_point zero_digit = Some in_fraction
next_stage after_point digit = Some in_fraction
next_stage after_point c = None
next_stage in_fraction zero_digit = Some in_fraction
next_stage in_fraction digit = Some in_fraction
next_stage in_fraction letter_e = Some after_e
next_stage in_fraction c = None
next_stage after_e zero_digit = Some in_exponent
next_stage after_e digit = Some in_exponent
next_stage after_e plus = Some after_sign
next_stage after_e minus = Some after_sign
next_stage after_e c = None
next_stage after_sign zero_digit = Some in_exponent
next_stage after_sign digit = Some in_exponent
next_stage after_sign c = None
next_stage in_exponent zero_digit = Some in_exponent
next_stage in_exponent digit = Some in_exponent
next_stage in_exponent c = None

abbrev pub may_end : Stage → Bool
may_end after_minus = false
may_end after_zero = true
may_end in_whole = true
may_end after_point = false
may_end in_fraction = true
may_end after_e = false
may_end after_sign = false
may_end in_exponent = true

-- What has begun of a string's next piece: nothing, a backslash, `\u` with a value so far where behind the next digit
-- so many are to come, or a character with its bytes so far.
pub data Begun : Type 0 where
  nothing : Begun
  escape : Begun
  hex : ℕ → ℕ → Begun
  lead : Tail → List ℕ → Begun

-- A part that is still to come. One that has begun holds what it has so far: a number its bytes, a string its
-- characters in UTF-8 and the first unit of a pair, where one waits for the second.
pub data Part : Type 0 where
  mark : Part
  blank : Part
  symbol : Symbol → Part
  word : List ℕ → Literal → Part
  digits : Stage → List ℕ → Part
  chars : Role → List ℕ → Option ℕ → Begun → Part

-- the events of a byte, and the parts that are to come behind it; None where it can't stand there
abbrev pub Next : Type 0
Next = Option (List Event × List Part)

abbrev pub prefix : List Event → Next → Next
prefix es r = option_map (λ n. (es ++ n.0, n.1)) r

-- ---- arrays, objects, words and blanks

-- the byte begins a value, and behind it these parts come
abbrev pub begin_value : Class → ℕ → List Part → Next
begin_value open_bracket b ps = Some (array_start ∷ [], blank ∷ symbol items ∷ ps)
begin_value open_brace b ps = Some (object_start ∷ [], blank ∷ symbol members ∷ ps)
begin_value quote b ps = Some ([], chars as_value [] None nothing ∷ ps)
begin_value minus b ps = Some ([], digits after_minus (b ∷ []) ∷ ps)
begin_value zero_digit b ps = Some ([], digits after_zero (b ∷ []) ∷ ps)
begin_value digit b ps = Some ([], digits in_whole (b ∷ []) ∷ ps)
begin_value letter_t b ps = Some ([], word (codes "rue") a_true ∷ ps)
begin_value letter_f b ps = Some ([], word (codes "alse") a_false ∷ ps)
begin_value letter_n b ps = Some ([], word (codes "ull") a_null ∷ ps)
begin_value c b ps = None

-- the parts of a member behind its name's quote
abbrev pub after_name : List Part → List Part
after_name ps = blank ∷ word (codes ":") a_colon ∷ blank ∷ symbol value ∷ blank ∷ ps

abbrev pub begin_member : Class → List Part → Next
begin_member quote ps = Some ([], chars as_name [] None nothing ∷ after_name ps)
begin_member c ps = None

abbrev pub step_items : Class → ℕ → List Part → Next
step_items close_bracket b ps = Some (array_end ∷ [], ps)
step_items c b ps = begin_value c b (blank ∷ symbol more_items ∷ ps)

abbrev pub step_more_items : Class → List Part → Next
step_more_items close_bracket ps = Some (array_end ∷ [], ps)
step_more_items comma ps = Some ([], blank ∷ symbol value ∷ blank ∷ symbol more_items ∷ ps)
step_more_items c ps = None

abbrev pub step_members : Class → List Part → Next
step_members close_brace ps = Some (object_end ∷ [], ps)
step_members c ps = begin_member c (symbol more_members ∷ ps)

abbrev pub step_more_members : Class → List Part → Next
step_more_members close_brace ps = Some (object_end ∷ [], ps)
step_more_members comma ps = Some ([], blank ∷ symbol member ∷ symbol more_members ∷ ps)
step_more_members c ps = None

abbrev pub step_word : List ℕ → Literal → ℕ → List Part → Next
step_word [] w b ps = None
step_word (c ∷ []) w b ps = cond (b == c) (Some (meant w, ps)) None
step_word (c ∷ d ∷ cs) w b ps = cond (b == c) (Some ([], word (d ∷ cs) w ∷ ps)) None

-- the blank goes on, or what is behind it takes the byte
abbrev pub step_blank : Class → List Part → Next → Next
step_blank space ps r = Some ([], blank ∷ ps)
step_blank c ps r = r

-- a byte order mark begins, or there is none
abbrev pub step_mark : Class → List Part → Next → Next
step_mark mark_byte ps r = Some ([], word (0xBB ∷ 0xBF ∷ []) a_mark ∷ ps)
step_mark c ps r = r

-- ---- numbers

-- the number goes on, or it is over and what is behind it takes the byte
abbrev pub step_digits : Option Stage → Bool → List ℕ → ℕ → List Part → Next → Next
step_digits (Some n) over s b ps r = Some ([], digits n (s ++ b ∷ []) ∷ ps)
step_digits None true s b ps r = prefix (number s ∷ []) r
step_digits None false s b ps r = None

-- ---- strings

-- U+FFFD in UTF-8
abbrev pub replacement : List ℕ
replacement = 0xEF ∷ 0xBF ∷ 0xBD ∷ []

-- the text so far, where no second unit follows a first one that waits
abbrev pub settled : List ℕ → Option ℕ → List ℕ
settled s None = s
settled s (Some high) = s ++ replacement

-- behind a character of these bytes
abbrev pub with_char : Role → List ℕ → Option ℕ → List ℕ → Part
with_char k s p bytes = chars k (settled s p ++ bytes) None nothing

-- a unit that is the second of no pair: the text behind it, and the first unit that waits
abbrev pub add_first : List ℕ → ℕ → List ℕ × Option ℕ
add_first s u = if is_high_surrogate u then (s, Some u) else (s ++ encode_utf8 (unwrap_or (lone_unit_char u) 0xFFFD), None)

-- any unit
abbrev pub add_unit : List ℕ → Option ℕ → ℕ → List ℕ × Option ℕ
add_unit s None u = add_first s u
add_unit s (Some high) u = if is_low_surrogate u then (s ++ encode_utf8 (surrogate_pair_char high u), None) else add_first (s ++ replacement) u

abbrev pub with_unit : Role → List ℕ → Option ℕ → ℕ → Part
with_unit k s p u = chars k (add_unit s p u).0 (add_unit s p u).1 nothing

-- behind a hexadecimal digit, with the value so far, where so many are still to come
abbrev pub with_hex : Role → List ℕ → Option ℕ → ℕ → ℕ → Part
with_hex k s p zero v = with_unit k s p v
with_hex k s p (suc n) v = chars k s p (hex n v)

-- behind one of a character's bytes, with its bytes so far
abbrev pub with_byte : Role → List ℕ → Option ℕ → Option Tail → List ℕ → Part
with_byte k s p None bytes = with_char k s p bytes
with_byte k s p (Some t) bytes = chars k s p (lead t bytes)

abbrev pub step_text : Role → List ℕ → Option ℕ → TextByte → ℕ → List Part → Next
step_text k s p ends b ps = Some (told k (settled s p) ∷ [], ps)
step_text k s p escapes b ps = Some ([], chars k s p escape ∷ ps)
step_text k s p plain b ps = Some ([], with_char k s p (b ∷ []) ∷ ps)
step_text k s p (leads t) b ps = Some ([], chars k s p (lead t (b ∷ [])) ∷ ps)
step_text k s p bad b ps = None

abbrev pub step_escape : Role → List ℕ → Option ℕ → ℕ → List Part → Next
step_escape k s p b ps = cond (b == 117) (Some ([], chars k s p (hex 3 0) ∷ ps)) (option_map (λ c. ([], with_char k s p (c ∷ []) ∷ ps)) (escaped b))

abbrev pub step_hex : Role → List ℕ → Option ℕ → ℕ → ℕ → ℕ → List Part → Next
step_hex k s p n v b ps = cond (is_ascii_hexdigit b) (Some ([], with_hex k s p n (v * 16 + digit_value b) ∷ ps)) None

abbrev pub step_lead : Role → List ℕ → Option ℕ → Tail → List ℕ → ℕ → List Part → Next
step_lead k s p t bytes b ps = cond (in_tail t b) (Some ([], with_byte k s p (tail_next t) (bytes ++ b ∷ []) ∷ ps)) None

abbrev pub step_chars : Role → List ℕ → Option ℕ → Begun → ℕ → List Part → Next
step_chars k s p nothing b ps = step_text k s p (text_byte b) b ps
step_chars k s p escape b ps = step_escape k s p b ps
step_chars k s p (hex n v) b ps = step_hex k s p n v b ps
step_chars k s p (lead t bytes) b ps = step_lead k s p t bytes b ps

-- ---- the machine

-- one byte: its events, and what is to come behind it; None where it can't stand there
unfoldable pub step : List Part → Class → ℕ → Next
step [] c b = None
step (mark ∷ ps) c b = step_mark c ps (step ps c b)
step (blank ∷ ps) c b = step_blank c ps (step ps c b)
step (symbol value ∷ ps) c b = begin_value c b ps
step (symbol items ∷ ps) c b = step_items c b ps
step (symbol more_items ∷ ps) c b = step_more_items c ps
step (symbol members ∷ ps) c b = step_members c ps
step (symbol member ∷ ps) c b = begin_member c ps
step (symbol more_members ∷ ps) c b = step_more_members c ps
step (word cs w ∷ ps) c b = step_word cs w b ps
step (digits n s ∷ ps) c b = step_digits (next_stage n c) (may_end n) s b ps (step ps c b)
step (chars k s p g ∷ ps) c b = step_chars k s p g b ps

abbrev pub give : List Event → Option (List Event) → Option (List Event)
give es r = option_map (λ fs. es ++ fs) r

-- the events that the end of the text gives, where it may end
unfoldable pub finish : List Part → Option (List Event)
finish [] = Some []
finish (mark ∷ ps) = finish ps
finish (blank ∷ ps) = finish ps
finish (symbol s ∷ ps) = None
finish (word cs w ∷ ps) = None
finish (digits n s ∷ ps) = cond (may_end n) (give (number s ∷ []) (finish ps)) None
finish (chars k s p g ∷ ps) = None

-- the events of a whole text
unfoldable pub run : List Part → List ℕ → Option (List Event)
run ps [] = finish ps
run ps (b ∷ bs) = option_and_then (λ n. give n.0 (run n.1 bs)) (step ps (class b) b)

-- the events of the first bytes, and what is to come behind them
unfoldable pub feed : List Part → List ℕ → Next
feed ps [] = Some ([], ps)
feed ps (b ∷ bs) = option_and_then (λ n. prefix n.0 (feed n.1 bs)) (step ps (class b) b)

abbrev pub and_feed : List ℕ → Next → Next
and_feed bs r = option_and_then (λ n. prefix n.0 (feed n.1 bs)) r

-- what is to come before the first byte
abbrev pub start : List Part
start = mark ∷ blank ∷ symbol value ∷ blank ∷ []
