-- Texts in quotation marks.
use Rattle.std.proofs.Common.{◌≡◌, ◌∙◌, ℕ, ◌+◌, ◌/◌, ◌%◌, ◌<◌, ◌≤◌, ◌≢◌, Bool, true, false, cond, List, [], ◌∷◌, ◌++◌, refl, sym, ap, subst, arith, inl, inr, append-nil, append_assoc}
use Rattle.std.specs.Prelude.{nat_lt, nat_le, ◌==◌, ◌&&◌, IsUtf8, encode_utf8_all}
use Rattle.std.specs.Char.{IsScalar, encode_utf8, IsAsciiHexdigit, digit_value}
use Rattle.std.specs.List.{flat_map, AllByRecursion}
use Rattle.std.specs.Str.{all_scalars}
use Rattle.std.proofs.lemmas.Bool.Decides.{nat_tests}
use Rattle.prof_grammar.specs.Lexical.{Code, char, unit, IsShort, IsPiece, ArePieces, IsString, string, characters, hex_value}
use Rattle.prof_grammar.specs.Lexical as x
use Rattle.prof_grammar.specs.Machine.{Tail, in_tail, tail_low, text_byte}
use Rattle.prof_grammar.specs.Machine as m
use Rattle.prof_grammar.proofs.Language.{IsTail, last, more, eqb_is}
use Rattle.prof_grammar.proofs.Utf8.{Led, led, char_to, encode_one, scalar_low}
use Rattle.prof_writer.specs.Writing.{escape, hex_digit, quoted}

-- a unit that is no surrogate stands for itself
stands_alone : (u : ℕ) → u < 55296 → (ms : List Code) → characters (unit u ∷ ms) ≡ u ∷ characters ms
stands_alone u h ms = parts (nat_le 0xD800 u) (grind (arith, nat_tests)) ms
  where
    parts : (t : Bool) → nat_le 0xD800 u ≡ false → (ms : List Code) → characters (unit u ∷ ms) ≡ u ∷ characters ms
    parts t e [] = rw e refl
    parts t e (char c ∷ ms) = rw e refl
    parts t e (unit v ∷ ms) = rw e refl

-- how a byte below 128 is told
record Told (c : ℕ) : Type 0 where
  code : Code
  piece : IsPiece (escape c) code
  alone : (ms : List Code) → characters (code ∷ ms) ≡ c ∷ characters ms

short_told : (c b : ℕ) → escape c ≡ 92 ∷ b ∷ [] → IsShort b c → Told c
short_told c b e s = record { code = char c; piece = subst (λ l. IsPiece l (char c)) (sym e) (x.short s); alone = λ ms. refl }

plain_told : (c : ℕ) → 32 ≤ c → c < 128 → c ≢ 34 → c ≢ 92 → escape c ≡ c ∷ [] → Told c
plain_told c lo hi not_quote not_backslash e = record {
  code = char c;
  piece = subst (λ l. IsPiece l (char c)) (encode_one c hi ∙ sym e) (x.plain (scalar_low c (omega arith)) lo not_quote not_backslash);
  alone = λ ms. refl;
}

digit_back : (n : ℕ) → n < 16 → digit_value (hex_digit n) ≡ n
digit_back n h = small (nat_lt n 10) refl
  where
    small : (t : Bool) → nat_lt n 10 ≡ t → digit_value (cond t (48 + n) (87 + n)) ≡ n
    small true e =
        let a : nat_lt (48 + n) 48 ≡ false = grind (arith, nat_tests) in
        let b : nat_lt (48 + n) 58 ≡ true = grind (arith, nat_tests) in
        rw (a, b) (omega arith)
    small false e =
        let most : 10 ≤ n = grind (arith, nat_tests) in
        let a : nat_lt (87 + n) 48 ≡ false = grind (arith, nat_tests) in
        let b : nat_lt (87 + n) 58 ≡ false = grind (arith, nat_tests) in
        let c : nat_lt (87 + n) 65 ≡ false = grind (arith, nat_tests) in
        let d : nat_lt (87 + n) 91 ≡ false = grind (arith, nat_tests) in
        let f : nat_lt (87 + n) 97 ≡ false = grind (arith, nat_tests) in
        let g : nat_lt (87 + n) 123 ≡ true = grind (arith, nat_tests) in
        rw (a, b, c, d, f, g) (omega arith)

hex_digit_is : (n : ℕ) → n < 16 → IsAsciiHexdigit (hex_digit n)
hex_digit_is n h = small (nat_lt n 10) refl
  where
    small : (t : Bool) → nat_lt n 10 ≡ t → IsAsciiHexdigit (cond t (48 + n) (87 + n))
    small true e = let least : n < 10 = grind (arith, nat_tests) in inl (inl (omega arith, omega arith))
    small false e = let most : 10 ≤ n = grind (arith, nat_tests) in inr (omega arith, omega arith)

hex_told : (c : ℕ) → c < 32 → escape c ≡ 92 ∷ 117 ∷ 48 ∷ 48 ∷ hex_digit (c / 16) ∷ hex_digit (c % 16) ∷ [] → Told c
hex_told c h e =
    let high : c / 16 < 16 = omega arith in
    let low : c % 16 < 16 = omega arith in
    let value : hex_value 48 48 (hex_digit (c / 16)) (hex_digit (c % 16)) ≡ c = rw (digit_back (c / 16) high, digit_back (c % 16) low) (omega arith) in
    let zero_digit : IsAsciiHexdigit 48 = inl (inl (omega arith, omega arith)) in
    let piece : IsPiece (92 ∷ 117 ∷ 48 ∷ 48 ∷ hex_digit (c / 16) ∷ hex_digit (c % 16) ∷ []) (unit (hex_value 48 48 (hex_digit (c / 16)) (hex_digit (c % 16)))) =
    x.hex zero_digit zero_digit (hex_digit_is (c / 16) high) (hex_digit_is (c % 16) low) in
    record {
      code = unit c;
      piece = subst (λ l. IsPiece l (unit c)) (sym e) (subst (λ u. IsPiece (92 ∷ 117 ∷ 48 ∷ 48 ∷ hex_digit (c / 16) ∷ hex_digit (c % 16) ∷ []) (unit u)) value piece);
      alone = stands_alone c (omega arith);
    }

-- a byte that is no short escape
other_told : (c : ℕ) → c < 128 → (c == 34) ≡ false → (c == 92) ≡ false → (c == 8) ≡ false → (c == 9) ≡ false → (c == 10) ≡ false → (c == 12) ≡ false → (c == 13) ≡ false → Told c
other_told c hi a b d e f g i = low (nat_lt c 32) refl
  where
    not_quote : c ≢ 34
    not_quote h = grind (arith, nat_tests)

    not_backslash : c ≢ 92
    not_backslash h = grind (arith, nat_tests)

    low : (t : Bool) → nat_lt c 32 ≡ t → Told c
    low true l = hex_told c (grind (arith, nat_tests)) (rw (a, b, d, e, f, g, i, l) refl)
    low false l = plain_told c (grind (arith, nat_tests)) hi not_quote not_backslash (rw (a, b, d, e, f, g, i, l) refl)

-- each byte below 128 is told
told : (c : ℕ) → c < 128 → Told c
told c hi = quote (c == 34) refl
  where
    return : (t : Bool) → (c == 13) ≡ t → (c == 34) ≡ false → (c == 92) ≡ false → (c == 8) ≡ false → (c == 9) ≡ false → (c == 10) ≡ false → (c == 12) ≡ false → Told c
    return true i a b d e f g = subst Told (sym (eqb_is c 13 i)) (short_told 13 114 refl x.return)
    return false i a b d e f g = other_told c hi a b d e f g i

    form_feed : (t : Bool) → (c == 12) ≡ t → (c == 34) ≡ false → (c == 92) ≡ false → (c == 8) ≡ false → (c == 9) ≡ false → (c == 10) ≡ false → Told c
    form_feed true g a b d e f = subst Told (sym (eqb_is c 12 g)) (short_told 12 102 refl x.form_feed)
    form_feed false g a b d e f = return (c == 13) refl a b d e f g

    line_feed : (t : Bool) → (c == 10) ≡ t → (c == 34) ≡ false → (c == 92) ≡ false → (c == 8) ≡ false → (c == 9) ≡ false → Told c
    line_feed true f a b d e = subst Told (sym (eqb_is c 10 f)) (short_told 10 110 refl x.line_feed)
    line_feed false f a b d e = form_feed (c == 12) refl a b d e f

    tab : (t : Bool) → (c == 9) ≡ t → (c == 34) ≡ false → (c == 92) ≡ false → (c == 8) ≡ false → Told c
    tab true e a b d = subst Told (sym (eqb_is c 9 e)) (short_told 9 116 refl x.tab)
    tab false e a b d = line_feed (c == 10) refl a b d e

    backspace : (t : Bool) → (c == 8) ≡ t → (c == 34) ≡ false → (c == 92) ≡ false → Told c
    backspace true d a b = subst Told (sym (eqb_is c 8 d)) (short_told 8 98 refl x.backspace)
    backspace false d a b = tab (c == 9) refl a b d

    backslash : (t : Bool) → (c == 92) ≡ t → (c == 34) ≡ false → Told c
    backslash true b a = subst Told (sym (eqb_is c 92 b)) (short_told 92 92 refl x.backslash)
    backslash false b a = backspace (c == 8) refl a b

    quote : (t : Bool) → (c == 34) ≡ t → Told c
    quote true a = subst Told (sym (eqb_is c 34 a)) (short_told 34 34 refl x.quote)
    quote false a = backslash (c == 92) refl a

-- ---- characters beyond ASCII

abbrev AreHigh : List ℕ → Type 0
AreHigh bytes = AllByRecursion (λ b. 128 ≤ b) bytes

high_escape : (b : ℕ) → 128 ≤ b → escape b ≡ b ∷ []
high_escape b h =
    let a : (b == 34) ≡ false = grind (arith, nat_tests) in
    let c : (b == 92) ≡ false = grind (arith, nat_tests) in
    let d : (b == 8) ≡ false = grind (arith, nat_tests) in
    let e : (b == 9) ≡ false = grind (arith, nat_tests) in
    let f : (b == 10) ≡ false = grind (arith, nat_tests) in
    let g : (b == 12) ≡ false = grind (arith, nat_tests) in
    let i : (b == 13) ≡ false = grind (arith, nat_tests) in
    let l : nat_lt b 32 ≡ false = grind (arith, nat_tests) in
    rw (a, c, d, e, f, g, i, l) refl

high_stay : (bytes : List ℕ) → AreHigh bytes → flat_map escape bytes ≡ bytes
high_stay [] h = refl
high_stay (b ∷ bytes) h = ap (λ l. l ++ flat_map escape bytes) (high_escape b h.0) ∙ ap (λ l. b ∷ l) (high_stay bytes h.1)

tail_least : (t : Tail) → 128 ≤ tail_low t
tail_least m.one_more = omega arith
tail_least m.two_more = omega arith
tail_least m.three_more = omega arith
tail_least m.behind_e0 = omega arith
tail_least m.behind_ed = omega arith
tail_least m.behind_f0 = omega arith
tail_least m.behind_f4 = omega arith

in_tail_high : (t : Tail) (b : ℕ) → in_tail t b ≡ true → 128 ≤ b
in_tail_high t b h = let least = tail_least t in let low : tail_low t ≤ b = grind (arith, nat_tests) in omega arith

tail_high : {t : Tail} {q : List ℕ} → IsTail t q → AreHigh q
tail_high (last {t = t} {b = b} i e) = (in_tail_high t b i, tt)
tail_high (more {t = t} {b = b} i e h) = (in_tail_high t b i, tail_high h)

no_lead : (a b c : Bool) (t : Tail) → cond a m.bad (cond b m.ends (cond c m.escapes m.plain)) ≡ m.leads t → ⊥
no_lead true b c t e = cc
no_lead false true c t e = cc
no_lead false false true t e = cc
no_lead false false false t e = cc

lead_high : (x : ℕ) (t : Tail) → text_byte x ≡ m.leads t → 128 ≤ x
lead_high x t h = low (nat_lt x 0x80) refl
  where
    low : (u : Bool) → nat_lt x 0x80 ≡ u → 128 ≤ x
    low true e =
        let plain : cond (nat_lt x 32) m.bad (cond (x == 34) m.ends (cond (x == 92) m.escapes m.plain)) ≡ m.leads t = rw e at h in
        absurd (no_lead (nat_lt x 32) (x == 34) (x == 92) t plain)
    low false e = grind (arith, nat_tests)

led_high : {bytes : List ℕ} → Led bytes → AreHigh bytes
led_high (led {x = x} {t = t} e h) = (lead_high x t e, tail_high h)

-- ---- whole texts

-- how a character is told
record ToldChar (c : ℕ) : Type 0 where
  code : Code
  piece : IsPiece (flat_map escape (encode_utf8 c)) code
  alone : (ms : List Code) → characters (code ∷ ms) ≡ c ∷ characters ms

told_char : (c : ℕ) → IsScalar c → ToldChar c
told_char c s = low (nat_lt c 128) refl
  where
    low : (t : Bool) → nat_lt c 128 ≡ t → ToldChar c
    low true e =
        let hi : c < 128 = grind (arith, nat_tests) in
        let one = told c hi in
        let same : escape c ≡ flat_map escape (encode_utf8 c) = sym (append-nil (escape c)) ∙ ap (flat_map escape) (sym (encode_one c hi)) in
        record { code = one.code; piece = subst (λ l. IsPiece l one.code) same one.piece; alone = one.alone }
    low false e =
        let lo : 128 ≤ c = grind (arith, nat_tests) in
        let not_quote : c ≢ 34 = λ h. omega arith in
        let not_backslash : c ≢ 92 = λ h. omega arith in
        record {
          code = char c;
          piece = subst (λ l. IsPiece l (char c)) (sym (high_stay (encode_utf8 c) (led_high (char_to c s lo)))) (x.plain s (omega arith) not_quote not_backslash);
          alone = λ ms. refl;
        }

record ToldText (cs : List ℕ) : Type 0 where
  told : List Code
  pieces : ArePieces (flat_map escape (encode_utf8_all cs)) told
  same : characters told ≡ cs

both_true : (a b : Bool) → (a && b) ≡ true → (a ≡ true) × (b ≡ true)
both_true true b e = (refl, e)
both_true false b e = absurd cc

escape_two : (xs ys : List ℕ) → flat_map escape (xs ++ ys) ≡ flat_map escape xs ++ flat_map escape ys
escape_two [] ys = refl
escape_two (b ∷ xs) ys = ap (λ l. escape b ++ l) (escape_two xs ys) ∙ sym (append_assoc (escape b) (flat_map escape xs) (flat_map escape ys))

told_text : (cs : List ℕ) → all_scalars cs ≡ true → ToldText cs
told_text [] h = record { told = []; pieces = x.none; same = refl }
told_text (c ∷ cs) h =
    let two = both_true _ (all_scalars cs) h in
    let one = told_char c two.0 in
    let others = told_text cs two.1 in
    record {
      told = one.code ∷ others.told;
      pieces = subst (λ l. ArePieces l (one.code ∷ others.told)) (sym (escape_two (encode_utf8 c) (encode_utf8_all cs))) (x.more one.piece others.pieces);
      same = one.alone others.told ∙ ap (λ l. c ∷ l) others.same;
    }

pub quoted_is : (text : List ℕ) → IsUtf8 text → IsString (quoted text) text
quoted_is text (cs, (scalars, is)) =
    let all = told_text cs scalars in
    let told_is : IsString (quoted (encode_utf8_all cs)) (encode_utf8_all (characters all.told)) = string all.pieces in
    subst (λ t. IsString (quoted t) t) is (subst (λ ds. IsString (quoted (encode_utf8_all cs)) (encode_utf8_all ds)) all.same told_is)
