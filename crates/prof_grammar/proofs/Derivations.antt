-- Short texts with their derivations in the grammar.
use Rattle.std.proofs.Common.{◌≡◌, [], ◌∷◌, codes, refl, true, false, inl, inr, arith, lit≤}
use Rattle.std.specs.Char.{encode_utf8}
use Rattle.prof_grammar.specs.Event as e
use Rattle.prof_grammar.specs.Lexical as l
use Rattle.prof_grammar.specs.Grammar as g
use Rattle.prof_time.specs.Numeral as n

surrogates : l.characters (l.unit 0xD834 ∷ l.unit 0xD834 ∷ l.unit 0xDD1E ∷ l.char 65 ∷ l.unit 0xDD1E ∷ []) ≡ 0xFFFD ∷ 0x1D11E ∷ 65 ∷ 0xFFFD ∷ []
surrogates = refl

empty : g.IsJson (codes " [ ]") (e.array_start ∷ e.array_end ∷ [])
empty = g.json {a = codes " "} g.no_mark (l.more l.space l.none) (g.array {a = codes " "} (l.more l.space l.none) g.no_items) l.none

minus_one_half : n.IsNumber (codes "-1.50e+2") (record { negative = true; whole = codes "1"; fraction = codes "50"; down = false; exponent = codes "2" })
minus_one_half =
    n.number n.minus (n.int (lit≤ tt, lit≤ tt) (λ h. omega (arith, h)) tt) (n.fraction (n.digits (lit≤ tt, lit≤ tt) ((lit≤ tt, lit≤ tt), tt)))
    (n.exponent {s = codes "+"} n.small n.plus (n.digits (lit≤ tt, lit≤ tt) tt))

a_number : g.IsJson (codes "-1.50e+2") (e.number (codes "-1.50e+2") ∷ [])
a_number = g.json {a = []} {v = codes "-1.50e+2"} g.no_mark l.none (g.numeral minus_one_half) l.none

a_name : l.IsString (codes "\"a\\u00e9\"") (97 ∷ 0xC3 ∷ 0xA9 ∷ [])
unfolding encode_utf8
a_name = l.string {t = codes "a\\u00e9"} (l.more {p = codes "a"} (l.plain {c = 97} refl (lit≤ tt) (λ h. omega (arith, h)) (λ h. omega (arith, h))) (l.more {p = codes "\\u00e9"} (l.hex (inl (inl (lit≤ tt, lit≤ tt))) (inl (inl (lit≤ tt, lit≤ tt))) (inr (lit≤ tt, lit≤ tt)) (inl (inl (lit≤ tt, lit≤ tt)))) l.none))

-- {"a\\u00e9": [true]}, behind a byte order mark
object_text : g.IsJson (0xEF ∷ 0xBB ∷ 0xBF ∷ codes "{\"a\\u00e9\": [true]}") (e.object_start ∷ e.name (97 ∷ 0xC3 ∷ 0xA9 ∷ []) ∷ e.array_start ∷ e.truth true ∷ e.array_end ∷ e.object_end ∷ [])
object_text =
    g.json {a = []} {v = codes "{\"a\\u00e9\": [true]}"} g.byte_order_mark l.none
    (g.object {a = []} l.none
    (g.some_members {m = codes "\"a\\u00e9\": [true]"}
    (g.one_member {k = codes "\"a\\u00e9\""} {a = []} {b = codes " "} {v = codes "[true]"} a_name l.none (l.more l.space l.none)
    (g.array {a = []} l.none (g.some_items {v = codes "true"} {a = []} g.true_word l.none g.last_item)) l.none)
    g.last_member))
    l.none
