-- What a string's bytes spell, a byte at a time.
use Rattle.std.proofs.Common.{◌≡◌, ◌≢◌, ℕ, zero, suc, ◌+◌, ◌*◌, ◌<◌, ◌≤◌, Bool, true, false, cond, List, [], ◌∷◌, ◌++◌, refl, sym, subst, arith, inl, inr}
use Rattle.std.specs.Prelude.{nat_lt, ◌||◌, ◌==◌, Option, Some, None}
use Rattle.std.specs.Char.{encode_utf8, IsScalar, IsAsciiHexdigit, is_ascii_hexdigit, digit_value}
use Rattle.std.specs.Int.{is_in_range, IsInRange}
use Rattle.std.proofs.lemmas.Bool.Decides.{nat_tests}
use Rattle.std.proofs.lemmas.List.{append_assoc}
use Rattle.prof_grammar.specs.Lexical.{Code, char, unit, IsShort, IsPiece, ArePieces, hex_value}
use Rattle.prof_grammar.specs.Lexical as x
use Rattle.prof_grammar.specs.Machine.{Tail, Begun, escaped, settled, add_unit, in_tail, tail_next, nothing, escape, hex, lead}
use Rattle.prof_grammar.specs.Machine as m
use Rattle.prof_grammar.proofs.Language.{Spells, spelled, IsHex, IsTail, TextFits, pieces, short, begin_unit, rest_of_unit, rest_of_char, eqb_is}
use Rattle.prof_grammar.proofs.Language as l
use Rattle.prof_grammar.proofs.Utf8.{encode_one, char_from}

-- a whole character that stands for itself
add_plain : {s : List ℕ} {p : Option ℕ} (c : ℕ) {t y : List ℕ} → IsScalar c → 32 ≤ c → c ≢ 34 → c ≢ 92 → Spells (settled s p ++ encode_utf8 c) None nothing t y → Spells s p nothing (encode_utf8 c ++ t) y
add_plain {s = s} {p = p} c sc lo q b (pieces {t = t} {ms = ms} a) = subst (λ z. Spells s p nothing z (spelled (settled s p ++ encode_utf8 c) None ms)) (append_assoc (encode_utf8 c) t (34 ∷ [])) (pieces (x.more (x.plain sc lo q b) a))

add_bytes : {s t y bytes : List ℕ} {p : Option ℕ} (c : ℕ) → encode_utf8 c ≡ bytes → IsScalar c → 32 ≤ c → c ≢ 34 → c ≢ 92 → Spells (settled s p ++ bytes) None nothing t y → Spells s p nothing (bytes ++ t) y
add_bytes {s = s} {t = t} {y = y} {bytes = bytes} {p = p} c e sc lo q b =
    subst (λ bs. Spells (settled s p ++ bs) None nothing t y → Spells s p nothing (bs ++ t) y) e (add_plain c sc lo q b)

low_scalar : (c : ℕ) → c < 128 → IsScalar c
low_scalar c h = let e : nat_lt c 55296 ≡ true = grind (arith, nat_tests) in rw e

pub add_byte : {s : List ℕ} {p : Option ℕ} {b : ℕ} → 32 ≤ b → b < 128 → b ≢ 34 → b ≢ 92 → (t y : List ℕ) → Spells (settled s p ++ b ∷ []) None nothing t y → Spells s p nothing (b ∷ t) y
add_byte {b = b} lo hi q e t y h = add_bytes b (encode_one b hi) (low_scalar b hi) lo q e h

pub begin_char : {s : List ℕ} {p : Option ℕ} {b : ℕ} {k : Tail} → TextFits b (m.leads k) → (t y : List ℕ) → Spells s p (lead k (b ∷ [])) t y → Spells s p nothing (b ∷ t) y
begin_char f t y (rest_of_char i a) =
    let c = char_from f i in
    let big = c.2 in
    add_bytes c.0 c.3 c.1 (omega arith) (λ e. omega (arith, e)) (λ e. omega (arith, e)) (pieces a)

pub more_char : {s bytes : List ℕ} {p : Option ℕ} {b : ℕ} {k j : Tail} → in_tail k b ≡ true → tail_next k ≡ Some j → (t y : List ℕ) → Spells s p (lead j (bytes ++ b ∷ [])) t y → Spells s p (lead k bytes) (b ∷ t) y
more_char {s = s} {bytes = bytes} {p = p} {b = b} {k = k} i n t y (rest_of_char {t = r} {q = q} {ms = ms} h a) =
    subst (λ z. Spells s p (lead k bytes) (b ∷ (q ++ (r ++ 34 ∷ []))) (spelled (settled s p ++ z) None ms)) (sym (append_assoc bytes (b ∷ []) q)) (rest_of_char (l.more i n h) a)

pub end_char : {s bytes : List ℕ} {p : Option ℕ} {b : ℕ} {k : Tail} → in_tail k b ≡ true → tail_next k ≡ None → (t y : List ℕ) → Spells (settled s p ++ (bytes ++ b ∷ [])) None nothing t y → Spells s p (lead k bytes) (b ∷ t) y
end_char i n t y (pieces a) = rest_of_char (l.last i n) a

-- the value of four digits
pub four_digits : (a b c d : ℕ) → (((0 * 16 + digit_value a) * 16 + digit_value b) * 16 + digit_value c) * 16 + digit_value d ≡ hex_value a b c d
four_digits a b c d = omega arith

hex_piece : {ds : List ℕ} {u : ℕ} → IsHex 3 0 ds u → IsPiece (92 ∷ 117 ∷ ds) (unit u)
hex_piece (l.more {d = a} h (l.more {d = b} i (l.more {d = c} j (l.last {d = d} k)))) = subst (λ u. IsPiece (92 ∷ 117 ∷ a ∷ b ∷ c ∷ d ∷ []) (unit u)) (sym (four_digits a b c d)) (x.hex h i j k)

pub begin_escape : {s : List ℕ} {p : Option ℕ} (t y : List ℕ) → Spells s p escape t y → Spells s p nothing (92 ∷ t) y
begin_escape t y (short i a) = pieces (x.more (x.short i) a)
begin_escape {s = s} {p = p} t y (begin_unit {t = r} {ds = ds} {ms = ms} {u = u} h a) =
    subst (λ z. Spells s p nothing (92 ∷ 117 ∷ z) (spelled s p (unit u ∷ ms))) (append_assoc ds r (34 ∷ [])) (pieces (x.more (hex_piece h) a))

pub begin_hex : {s : List ℕ} {p : Option ℕ} (t y : List ℕ) → Spells s p (hex 3 0) t y → Spells s p escape (117 ∷ t) y
begin_hex t y (rest_of_unit h a) = begin_unit h a

pub more_hex : {s : List ℕ} {p : Option ℕ} {n v d : ℕ} → IsAsciiHexdigit d → (t y : List ℕ) → Spells s p (hex n (v * 16 + digit_value d)) t y → Spells s p (hex (suc n) v) (d ∷ t) y
more_hex i t y (rest_of_unit h a) = rest_of_unit (l.more i h) a

pub end_hex : {s : List ℕ} {p : Option ℕ} {v d : ℕ} → IsAsciiHexdigit d → (t y : List ℕ) → Spells (add_unit s p (v * 16 + digit_value d)).0 (add_unit s p (v * 16 + digit_value d)).1 nothing t y → Spells s p (hex zero v) (d ∷ t) y
end_hex i t y (pieces a) = rest_of_unit (l.last i) a

pub end_short : {s : List ℕ} {p : Option ℕ} {b c : ℕ} → IsShort b c → encode_utf8 c ≡ c ∷ [] → (t y : List ℕ) → Spells (settled s p ++ c ∷ []) None nothing t y → Spells s p escape (b ∷ t) y
end_short {s = s} {p = p} {b = b} {c = c} i e t y (pieces {t = r} {ms = ms} a) = subst (λ z. Spells s p escape (b ∷ (r ++ 34 ∷ [])) (spelled (settled s p ++ z) None ms)) e (short i a)

-- ---- tests of bytes

in_range : (lo hi b : ℕ) → is_in_range lo hi b ≡ true → IsInRange lo hi b
in_range lo hi b h = (grind (arith, nat_tests), grind (arith, nat_tests))

pub hexdigit_is : (b : ℕ) → is_ascii_hexdigit b ≡ true → IsAsciiHexdigit b
hexdigit_is b h = go (is_in_range 48 57 b) (is_in_range 65 70 b) refl refl h
  where
    go : (t u : Bool) → is_in_range 48 57 b ≡ t → is_in_range 65 70 b ≡ u → ((t || u) || is_in_range 97 102 b) ≡ true → IsAsciiHexdigit b
    go true u e f i = inl (inl (in_range 48 57 b e))
    go false true e f i = inl (inr (in_range 65 70 b f))
    go false false e f i = inr (in_range 97 102 b i)

-- a short escape and its character, which is ASCII
abbrev pub IfShort : ℕ → Option ℕ → Type 0
IfShort b None = Unit {0}
IfShort b (Some c) = IsShort b c × (encode_utf8 c ≡ c ∷ [])

pick_short : (b n : ℕ) (c : ℕ) (r : Option ℕ) → IsShort n c → encode_utf8 c ≡ c ∷ [] → IfShort b r → IfShort b (cond (b == n) (Some c) r)
pick_short b n c r i e h = go (b == n) refl
  where
    go : (t : Bool) → (b == n) ≡ t → IfShort b (cond t (Some c) r)
    go true f = subst (λ z. IfShort z (Some c)) (sym (eqb_is b n f)) (i, e)
    go false f = h

pub escaped_is : (b : ℕ) → IfShort b (escaped b)
unfolding encode_utf8
escaped_is b =
    pick_short b 34 34 _ x.quote refl (pick_short b 92 92 _ x.backslash refl (pick_short b 47 47 _ x.slash refl (pick_short b 98 8 _ x.backspace refl
    (pick_short b 102 12 _ x.form_feed refl (pick_short b 110 10 _ x.line_feed refl (pick_short b 114 13 _ x.return refl (pick_short b 116 9 _ x.tab refl tt)))))))

pub short_ascii : {b c : ℕ} → IsShort b c → encode_utf8 c ≡ c ∷ []
unfolding encode_utf8
short_ascii x.quote = refl
short_ascii x.backslash = refl
short_ascii x.slash = refl
short_ascii x.backspace = refl
short_ascii x.form_feed = refl
short_ascii x.line_feed = refl
short_ascii x.return = refl
short_ascii x.tab = refl
