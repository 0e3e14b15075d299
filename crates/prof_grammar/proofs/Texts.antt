-- Names and strings are told in UTF-8, and numbers as they are written.
use Rattle.std.proofs.Common.{◌≡◌, ℕ, ◌+◌, ◌*◌, ◌<◌, ◌≤◌, Bool, true, false, cond, List, [], ◌∷◌, ◌++◌, refl, subst, arith, inl, inr}
use Rattle.std.specs.Prelude.{nat_lt, nat_le, ◌&&◌, Some, None, IsUtf8}
use Rattle.std.specs.Char.{IsScalar, IsAsciiHexdigit, digit_value}
use Rattle.std.specs.Char.Utf16.{is_high_surrogate, is_low_surrogate, surrogate_pair_char, lone_unit_char}
use Rattle.std.specs.Option.{unwrap_or}
use Rattle.std.specs.Str.{all_scalars}
use Rattle.std.specs.List.{All, AllByRecursion}
use Rattle.std.proofs.lemmas.Bool.Decides.{nat_tests}
use Rattle.std.proofs.lemmas.List.Elements.{All-from_recursion}
use Rattle.prof_grammar.specs.Event.{Event}
use Rattle.prof_grammar.specs.Lexical.{Code, char, unit, IsShort, IsPiece, ArePieces, IsString, characters, hex_value}
use Rattle.prof_grammar.specs.Lexical as x
use Rattle.prof_grammar.specs.Grammar.{Symbol, Is, IsJson}
use Rattle.prof_grammar.specs.Grammar as g
use Rattle.prof_grammar.specs.Reading.{Ending, BeginsShallow, TellFirst, IsReading, whole, cut, wrong, deep, long}
use Rattle.prof_grammar.specs.Texts.{IsWellTold}
use Rattle.prof_grammar.proofs.Utf8.{scalar_low, scalar_high}

-- ---- characters

abbrev IsCode : Code → Type 0
IsCode (char c) = IsScalar c
IsCode (unit u) = u < 65536

abbrev alone : ℕ → ℕ
alone u = unwrap_or (lone_unit_char u) 0xFFFD

alone_scalar : (u : ℕ) → u < 65536 → IsScalar (alone u)
alone_scalar u small = low (nat_le 0xD800 u) refl
  where
    high : (t : Bool) → nat_lt u 0xE000 ≡ t → nat_le 0xD800 u ≡ true → IsScalar (unwrap_or (cond (true && t) None (Some u)) 0xFFFD)
    high true e f = refl
    high false e f = scalar_high u (grind (arith, nat_tests)) (omega arith)

    low : (t : Bool) → nat_le 0xD800 u ≡ t → IsScalar (unwrap_or (cond (t && nat_lt u 0xE000) None (Some u)) 0xFFFD)
    low true e = high (nat_lt u 0xE000) refl e
    low false e = scalar_low u (grind (arith, nat_tests))

both_true : (a b : Bool) → (a && b) ≡ true → (a ≡ true) × (b ≡ true)
both_true true b e = (refl, e)
both_true false b e = absurd cc

pair_scalar : (u v : ℕ) → (is_high_surrogate u && is_low_surrogate v) ≡ true → IsScalar (surrogate_pair_char u v)
pair_scalar u v e =
    let h = both_true (is_high_surrogate u) (is_low_surrogate v) e in
    let high = both_true (nat_le 0xD800 u) (nat_lt u 0xDC00) h.0 in
    let low = both_true (nat_le 0xDC00 v) (nat_lt v 0xE000) h.1 in
    in_range (from high.0) (below high.1) (from low.0) (below low.1)
  where
    from : {a b : ℕ} → nat_le a b ≡ true → a ≤ b
    from e = grind (arith, nat_tests)

    below : {a b : ℕ} → nat_lt a b ≡ true → a < b
    below e = grind (arith, nat_tests)

    in_range : 0xD800 ≤ u → u < 0xDC00 → 0xDC00 ≤ v → v < 0xE000 → IsScalar (surrogate_pair_char u v)
    in_range a b c d = scalar_high (surrogate_pair_char u v) (omega arith) (omega arith)

and_scalar : (c : ℕ) (cs : List ℕ) → IsScalar c → all_scalars cs ≡ true → all_scalars (c ∷ cs) ≡ true
and_scalar c cs h i = rw (h, i)

-- a unit before another
unit_scalars : (u v : ℕ) (ms : List Code) (t : Bool) → (is_high_surrogate u && is_low_surrogate v) ≡ t → u < 65536 → all_scalars (characters ms) ≡ true → all_scalars (characters (unit v ∷ ms)) ≡ true →
    all_scalars (cond t (surrogate_pair_char u v ∷ characters ms) (alone u ∷ characters (unit v ∷ ms))) ≡ true
unit_scalars u v ms true e small h i = and_scalar (surrogate_pair_char u v) (characters ms) (pair_scalar u v e) h
unit_scalars u v ms false e small h i = and_scalar (alone u) (characters (unit v ∷ ms)) (alone_scalar u small) i

characters_scalar : (ms : List Code) → AllByRecursion IsCode ms → all_scalars (characters ms) ≡ true
characters_scalar [] a = refl
characters_scalar (char c ∷ ms) a = and_scalar c (characters ms) a.0 (characters_scalar ms a.1)
characters_scalar (unit u ∷ []) a = and_scalar (alone u) [] (alone_scalar u a.0) refl
characters_scalar (unit u ∷ char c ∷ ms) a = and_scalar (alone u) (c ∷ characters ms) (alone_scalar u a.0) (characters_scalar (char c ∷ ms) a.1)
characters_scalar (unit u ∷ unit v ∷ ms) a = unit_scalars u v ms (is_high_surrogate u && is_low_surrogate v) refl a.0 (characters_scalar ms a.1.1) (characters_scalar (unit v ∷ ms) a.1)

short_scalar : {b c : ℕ} → IsShort b c → IsScalar c
short_scalar x.quote = refl
short_scalar x.backslash = refl
short_scalar x.slash = refl
short_scalar x.backspace = refl
short_scalar x.form_feed = refl
short_scalar x.line_feed = refl
short_scalar x.return = refl
short_scalar x.tab = refl

digit_small : (c : ℕ) → IsAsciiHexdigit c → digit_value c < 16
digit_small c (inl (inl h)) =
    let lo = h.0 in
    let hi = h.1 in
    let a : nat_lt c 48 ≡ false = grind (arith, nat_tests) in
    let b : nat_lt c 58 ≡ true = grind (arith, nat_tests) in
    rw (a, b) (omega arith)
digit_small c (inl (inr h)) =
    let lo = h.0 in
    let hi = h.1 in
    let a : nat_lt c 48 ≡ false = grind (arith, nat_tests) in
    let b : nat_lt c 58 ≡ false = grind (arith, nat_tests) in
    let d : nat_lt c 65 ≡ false = grind (arith, nat_tests) in
    let e : nat_lt c 91 ≡ true = grind (arith, nat_tests) in
    rw (a, b, d, e) (omega arith)
digit_small c (inr h) =
    let lo = h.0 in
    let hi = h.1 in
    let a : nat_lt c 48 ≡ false = grind (arith, nat_tests) in
    let b : nat_lt c 58 ≡ false = grind (arith, nat_tests) in
    let d : nat_lt c 65 ≡ false = grind (arith, nat_tests) in
    let e : nat_lt c 91 ≡ false = grind (arith, nat_tests) in
    let f : nat_lt c 97 ≡ false = grind (arith, nat_tests) in
    let i : nat_lt c 123 ≡ true = grind (arith, nat_tests) in
    rw (a, b, d, e, f, i) (omega arith)

hex_small : (p q r s : ℕ) → p < 16 → q < 16 → r < 16 → s < 16 → p * 4096 + q * 256 + r * 16 + s < 65536
hex_small p q r s h i j k = omega arith

piece_code : {t : List ℕ} {c : Code} → IsPiece t c → IsCode c
piece_code (x.plain sc lo q b) = sc
piece_code (x.short i) = short_scalar i
piece_code (x.hex {a = a} {b = b} {c = c} {d = d} h i j k) = hex_small (digit_value a) (digit_value b) (digit_value c) (digit_value d) (digit_small a h) (digit_small b i) (digit_small c j) (digit_small d k)

piece_codes : {t : List ℕ} {ms : List Code} → ArePieces t ms → AllByRecursion IsCode ms
piece_codes x.none = tt
piece_codes (x.more i a) = (piece_code i, piece_codes a)

string_utf8 : {t s : List ℕ} → IsString t s → IsUtf8 s
string_utf8 (x.string {ms = ms} a) = (characters ms, (characters_scalar ms (piece_codes a), refl))

-- ---- events

abbrev AreWellTold : List Event → Type 0
AreWellTold es = AllByRecursion IsWellTold es

joined : (es fs : List Event) → AreWellTold es → AreWellTold fs → AreWellTold (es ++ fs)
joined [] fs h i = i
joined (e ∷ es) fs h i = (h.0, joined es fs h.1 i)

front_told : (es fs : List Event) → AreWellTold (es ++ fs) → AreWellTold es
front_told [] fs h = tt
front_told (e ∷ es) fs h = (h.0, front_told es fs h.1)

symbol_told : {s : Symbol} {t : List ℕ} {es : List Event} → Is s t es → AreWellTold es
symbol_told g.true_word = (tt, tt)
symbol_told g.false_word = (tt, tt)
symbol_told g.null_word = (tt, tt)
symbol_told (g.numeral n) = ((_, n), tt)
symbol_told (g.string i) = (string_utf8 i, tt)
symbol_told (g.array a i) = (tt, symbol_told i)
symbol_told g.no_items = (tt, tt)
symbol_told (g.some_items {es = es} {fs = fs} v a i) = joined es fs (symbol_told v) (symbol_told i)
symbol_told g.last_item = (tt, tt)
symbol_told (g.next_item {es = es} {fs = fs} a v b i) = joined es fs (symbol_told v) (symbol_told i)
symbol_told (g.object a i) = (tt, symbol_told i)
symbol_told g.no_members = (tt, tt)
symbol_told (g.some_members {es = es} {fs = fs} m i) = joined es fs (symbol_told m) (symbol_told i)
symbol_told g.last_member = (tt, tt)
symbol_told (g.next_member {es = es} {fs = fs} a m i) = joined es fs (symbol_told m) (symbol_told i)
symbol_told (g.one_member k a b v c) = (string_utf8 k, symbol_told v)

json_told : {t : List ℕ} {es : List Event} → IsJson t es → AreWellTold es
json_told (g.json m a v b) = symbol_told v

first_told : (front : List ℕ) (es : List Event) → BeginsShallow front → TellFirst front es → AreWellTold es
first_told front es s t = let o = t s.0 s.1 s.2.json in front_told es o.0 (subst AreWellTold o.1 (json_told s.2.json))

reading_told : {limit : ℕ} {text : List ℕ} {es : List Event} {e : Ending} → IsReading limit text es e → AreWellTold es
reading_told (whole s l) = json_told s.json
reading_told (cut {es = es} f n) = first_told _ es f.begins f.told
reading_told (wrong {es = es} byte rest f l n) = first_told _ es f.begins f.told
reading_told (deep {es = es} byte rest f l j n) = first_told _ es f.begins f.told
reading_told (long {es = es} byte rest f l) = first_told _ es f.begins f.told

pub tells_texts : (limit : ℕ) (text : List ℕ) (es : List Event) (e : Ending) → IsReading limit text es e → All IsWellTold es
tells_texts limit text es e h = All-from_recursion IsWellTold es (reading_told h)
