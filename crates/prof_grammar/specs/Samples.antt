-- Readings of short texts, by evaluation.
use Rattle.std.specs.Prelude.{◌≡◌, [], ◌∷◌, ◌++◌, codes, refl, true, replicate}
use Rattle.std.specs.Char.{encode_utf8}
use Rattle.prof_grammar.specs.Event.{array_start, array_end, object_start, object_end, number, name, str, truth}
use Rattle.prof_grammar.specs.Machine.{start, step, finish}
use Rattle.prof_grammar.specs.Reading.{finished, not_json, too_deep, too_long}
use Rattle.prof_grammar.specs.Told.{reading}

whole_text : reading 100 0 start (codes "{\"a\": [1, true]} ") ≡ record { events = object_start ∷ name (97 ∷ []) ∷ array_start ∷ number (49 ∷ []) ∷ truth true ∷ array_end ∷ object_end ∷ []; ending = finished }
unfolding reading step finish
whole_text = refl

-- the number isn't told, since no JSON text begins so
after_number : reading 100 0 start (codes "[1x") ≡ record { events = array_start ∷ []; ending = not_json 2 }
unfolding reading step finish
after_number = refl

after_word : reading 100 0 start (codes "truex") ≡ record { events = truth true ∷ []; ending = not_json 4 }
unfolding reading step finish
after_word = refl

leading_zero : reading 100 0 start (codes "01") ≡ record { events = []; ending = not_json 1 }
unfolding reading step finish
leading_zero = refl

all_of_a_number : reading 100 0 start (codes "-12.50E+07") ≡ record { events = number (codes "-12.50E+07") ∷ []; ending = finished }
unfolding reading step finish
all_of_a_number = refl

cut_exponent : reading 100 0 start (codes "1e") ≡ record { events = []; ending = not_json 2 }
unfolding reading step finish
cut_exponent = refl

-- 45 bytes, cut within a name
cut_text : reading 1000 0 start (codes "{\"meta\":{\"preprocessedProfileVersion\":47},\"th") ≡ record { events = object_start ∷ name (codes "meta") ∷ object_start ∷ name (codes "preprocessedProfileVersion") ∷ number (codes "47") ∷ object_end ∷ []; ending = not_json 45 }
unfolding reading step finish
cut_text = refl

-- a byte at the limit comes before what else is wrong with it
at_limit : reading 2 0 start (codes "[1x") ≡ record { events = array_start ∷ []; ending = too_long }
unfolding reading step finish
at_limit = refl

deep_text : (reading 1000 0 start (replicate 257 91)).ending ≡ too_deep 256
unfolding reading step finish
deep_text = refl

as_deep_as_may_be : (reading 1000 0 start (replicate 256 91 ++ replicate 256 93)).ending ≡ finished
unfolding reading step finish
as_deep_as_may_be = refl

-- a byte order mark tells nothing, and stands first alone
with_mark : reading 100 0 start (0xEF ∷ 0xBB ∷ 0xBF ∷ codes "[]") ≡ record { events = array_start ∷ array_end ∷ []; ending = finished }
unfolding reading step finish
with_mark = refl

late_mark : reading 100 0 start (32 ∷ 0xEF ∷ 0xBB ∷ 0xBF ∷ codes "[]") ≡ record { events = []; ending = not_json 1 }
unfolding reading step finish
late_mark = refl

-- an empty text, and a mark alone, end too early
empty_text : reading 100 0 start [] ≡ record { events = []; ending = not_json 0 }
unfolding reading step finish
empty_text = refl

mark_alone : reading 100 0 start (0xEF ∷ 0xBB ∷ 0xBF ∷ []) ≡ record { events = []; ending = not_json 3 }
unfolding reading step finish
mark_alone = refl

escapes : reading 100 0 start (codes "\"\\n\\u00e9\\/\"") ≡ record { events = str (10 ∷ 0xC3 ∷ 0xA9 ∷ 47 ∷ []) ∷ []; ending = finished }
unfolding reading step finish encode_utf8
escapes = refl

-- two units that are a pair are the character U+1D11E
a_pair : reading 100 0 start (codes "\"\\uD834\\uDD1E\"") ≡ record { events = str (0xF0 ∷ 0x9D ∷ 0x84 ∷ 0x9E ∷ []) ∷ []; ending = finished }
unfolding reading step finish encode_utf8
a_pair = refl

-- a surrogate without its partner is U+FFFD: alone, before a pair, before a character, and the second unit alone
lone_first : reading 100 0 start (codes "\"\\uD834\"") ≡ record { events = str (0xEF ∷ 0xBF ∷ 0xBD ∷ []) ∷ []; ending = finished }
unfolding reading step finish encode_utf8
lone_first = refl

lone_before_pair : reading 100 0 start (codes "\"\\uD834\\uD834\\uDD1EA\"") ≡ record { events = str (0xEF ∷ 0xBF ∷ 0xBD ∷ 0xF0 ∷ 0x9D ∷ 0x84 ∷ 0x9E ∷ 65 ∷ []) ∷ []; ending = finished }
unfolding reading step finish encode_utf8
lone_before_pair = refl

lone_before_char : reading 100 0 start (codes "\"\\uD834A\\uDD1E\"") ≡ record { events = str (0xEF ∷ 0xBF ∷ 0xBD ∷ 65 ∷ 0xEF ∷ 0xBF ∷ 0xBD ∷ []) ∷ []; ending = finished }
unfolding reading step finish encode_utf8
lone_before_char = refl

-- characters of two, three and four bytes; a byte of UTF-8 that can't stand there; a surrogate in UTF-8
wide_chars : reading 100 0 start (34 ∷ 0xC3 ∷ 0xA9 ∷ 0xE2 ∷ 0x82 ∷ 0xAC ∷ 0xF0 ∷ 0x9D ∷ 0x84 ∷ 0x9E ∷ 34 ∷ []) ≡ record { events = str (0xC3 ∷ 0xA9 ∷ 0xE2 ∷ 0x82 ∷ 0xAC ∷ 0xF0 ∷ 0x9D ∷ 0x84 ∷ 0x9E ∷ []) ∷ []; ending = finished }
unfolding reading step finish
wide_chars = refl

lone_tail : reading 100 0 start (34 ∷ 0x80 ∷ 34 ∷ []) ≡ record { events = []; ending = not_json 1 }
unfolding reading step finish
lone_tail = refl

surrogate_bytes : reading 100 0 start (34 ∷ 0xED ∷ 0xA0 ∷ 0x80 ∷ 34 ∷ []) ≡ record { events = []; ending = not_json 2 }
unfolding reading step finish
surrogate_bytes = refl

-- a control character can't stand in a string; 127 can
control : reading 100 0 start (34 ∷ 31 ∷ 34 ∷ []) ≡ record { events = []; ending = not_json 1 }
unfolding reading step finish
control = refl

delete : reading 100 0 start (34 ∷ 127 ∷ 34 ∷ []) ≡ record { events = str (127 ∷ []) ∷ []; ending = finished }
unfolding reading step finish
delete = refl
