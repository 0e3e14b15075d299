-- What the parts that are still to come may be, and which bytes are of a class.
use Rattle.std.proofs.Common.{◌≡◌, ◌≢◌, ℕ, zero, suc, ◌+◌, ◌*◌, ◌≤◌, ◌<◌, Bool, true, false, cond, List, [], ◌∷◌, ◌++◌, refl, sym, subst, arith}
use Rattle.std.specs.Prelude.{◌==◌, nat_lt, Option, Some, None, encode_utf8}
use Rattle.std.specs.Char.{IsAsciiHexdigit, digit_value}
use Rattle.std.proofs.lemmas.Bool.Decides.{nat_tests}
use Rattle.prof_grammar.specs.Event.{Event, number}
use Rattle.prof_grammar.specs.Grammar.{Symbol, Is, IsMark}
use Rattle.prof_grammar.specs.Lexical.{IsBlank, IsSpace, Code, char, unit, IsShort, ArePieces}
use Rattle.prof_grammar.specs.Lexical as x
use Rattle.prof_grammar.specs.Machine.{Part, Class, Role, Tail, Stage, Begun, TextByte, class, told, text_byte, tail_next, in_tail, next_stage, may_end, settled, add_unit, blank, symbol, word, chars, digits, mark, nothing, escape, hex, lead}
use Rattle.prof_grammar.specs.Machine as m

-- ---- what may come of a number, a character and a string

abbrev pub IfNext : Option Stage → (Stage → Type 0) → Type 0
IfNext None P = ⊥
IfNext (Some n) P = P n

-- the number goes on with these bytes, and may end there
abbrev pub Follows : Stage → List ℕ → Type 0
Follows n [] = may_end n ≡ true
Follows n (b ∷ bs) = IfNext (next_stage n (class b)) (λ n'. Follows n' bs)

-- these bytes are the rest of a character
pub data IsTail : Tail → List ℕ → Type 0 where
  last : {t : Tail} {b : ℕ} → in_tail t b ≡ true → tail_next t ≡ None → IsTail t (b ∷ [])
  more : {t t' : Tail} {b : ℕ} {bs : List ℕ} → in_tail t b ≡ true → tail_next t ≡ Some t' → IsTail t' bs → IsTail t (b ∷ bs)

-- these bytes are the rest of a `\u`, where so many digits come behind the first; and this is the unit
pub data IsHex : ℕ → ℕ → List ℕ → ℕ → Type 0 where
  last : {v d : ℕ} → IsAsciiHexdigit d → IsHex zero v (d ∷ []) (v * 16 + digit_value d)
  more : {n v d u : ℕ} {ds : List ℕ} → IsAsciiHexdigit d → IsHex n (v * 16 + digit_value d) ds u → IsHex (suc n) v (d ∷ ds) u

-- the text of a string, where this is its text so far and these pieces are still to come
abbrev pub spelled : List ℕ → Option ℕ → List Code → List ℕ
spelled s p [] = settled s p
spelled s p (char c ∷ ms) = spelled (settled s p ++ encode_utf8 c) None ms
spelled s p (unit u ∷ ms) = spelled (add_unit s p u).0 (add_unit s p u).1 ms

-- these bytes, up to the closing quote, make the text of a string
pub data Spells : List ℕ → Option ℕ → Begun → List ℕ → List ℕ → Type 0 where
  pieces : {s t : List ℕ} {p : Option ℕ} {ms : List Code} → ArePieces t ms → Spells s p nothing (t ++ 34 ∷ []) (spelled s p ms)
  short : {s t : List ℕ} {p : Option ℕ} {ms : List Code} {b c : ℕ} → IsShort b c → ArePieces t ms → Spells s p escape (b ∷ (t ++ 34 ∷ [])) (spelled s p (char c ∷ ms))
  begin_unit : {s t ds : List ℕ} {p : Option ℕ} {ms : List Code} {u : ℕ} → IsHex 3 0 ds u → ArePieces t ms → Spells s p escape (117 ∷ (ds ++ (t ++ 34 ∷ []))) (spelled s p (unit u ∷ ms))
  rest_of_unit : {s t ds : List ℕ} {p : Option ℕ} {ms : List Code} {n v u : ℕ} → IsHex n v ds u → ArePieces t ms → Spells s p (hex n v) (ds ++ (t ++ 34 ∷ [])) (spelled s p (unit u ∷ ms))
  rest_of_char : {s t q bytes : List ℕ} {p : Option ℕ} {ms : List Code} {k : Tail} → IsTail k q → ArePieces t ms → Spells s p (lead k bytes) (q ++ (t ++ 34 ∷ [])) (spelled (settled s p ++ (bytes ++ q)) None ms)

-- ---- parts

pub data Lang : Part → List ℕ → List Event → Type 0 where
  is_mark : {t : List ℕ} → IsMark t → Lang mark t []
  is_blank : {t : List ℕ} → IsBlank t → Lang blank t []
  is_symbol : {s : Symbol} {t : List ℕ} {es : List Event} → Is s t es → Lang (symbol s) t es
  is_word : {cs : List ℕ} {w : m.Literal} → Lang (word cs w) cs (m.meant w)
  is_digits : {n : Stage} {s t : List ℕ} → Follows n t → Lang (digits n s) t (number (s ++ t) ∷ [])
  is_chars : {k : Role} {s t x : List ℕ} {p : Option ℕ} {g : Begun} → Spells s p g t x → Lang (chars k s p g) t (told k x ∷ [])

-- the text is the parts in a row, and these are their events
pub data Goes : List Part → List ℕ → List Event → Type 0 where
  done : Goes [] [] []
  part : {p : Part} {ps : List Part} {t r : List ℕ} {es fs : List Event} → Lang p t es → Goes ps r fs → Goes (p ∷ ps) (t ++ r) (es ++ fs)

-- ---- the class of a byte

-- the byte is of the class
pub data Fits : ℕ → Class → Type 0 where
  open_bracket : Fits 91 m.open_bracket
  close_bracket : Fits 93 m.close_bracket
  open_brace : Fits 123 m.open_brace
  close_brace : Fits 125 m.close_brace
  comma : Fits 44 m.comma
  colon : Fits 58 m.colon
  quote : Fits 34 m.quote
  minus : Fits 45 m.minus
  plus : Fits 43 m.plus
  point : Fits 46 m.point
  zero_digit : Fits 48 m.zero_digit
  digit : {b : ℕ} → 49 ≤ b → b ≤ 57 → Fits b m.digit
  space : {b : ℕ} → IsSpace b → Fits b m.space
  letter_t : Fits 116 m.letter_t
  letter_f : Fits 102 m.letter_f
  letter_n : Fits 110 m.letter_n
  small_e : Fits 101 m.letter_e
  capital_e : Fits 69 m.letter_e
  mark_byte : Fits 0xEF m.mark_byte
  other : {b : ℕ} → Fits b m.other

pub eqb_is : (a b : ℕ) → (a == b) ≡ true → a ≡ b
eqb_is a b e = grind (arith, nat_tests)

pick : (b n : ℕ) (c d : Class) → Fits n c → Fits b d → Fits b (cond (b == n) c d)
pick b n c d f g = go (b == n) refl
  where
    go : (t : Bool) → (b == n) ≡ t → Fits b (cond t c d)
    go true e = subst (λ x. Fits x c) (sym (eqb_is b n e)) f
    go false e = g

abbrev low_class : ℕ → Class
low_class b =
    cond (b == 34) m.quote (cond (b == 44) m.comma (cond (b == 45) m.minus (cond (b == 46) m.point (cond (b == 43) m.plus
    (cond (b == 32) m.space (cond (b == 9) m.space (cond (b == 10) m.space (cond (b == 13) m.space m.other))))))))

low_fits : (b : ℕ) → Fits b (low_class b)
low_fits b = pick _ _ _ _ quote (pick _ _ _ _ comma (pick _ _ _ _ minus (pick _ _ _ _ point (pick _ _ _ _ plus (pick _ _ _ _ (space x.space) (pick _ _ _ _ (space x.tab) (pick _ _ _ _ (space x.line_feed) (pick _ _ _ _ (space x.return) other))))))))

abbrev high_class : ℕ → Class
high_class b =
    cond (b == 58) m.colon (cond (b == 91) m.open_bracket (cond (b == 93) m.close_bracket (cond (b == 123) m.open_brace (cond (b == 125) m.close_brace
    (cond (b == 116) m.letter_t (cond (b == 102) m.letter_f (cond (b == 110) m.letter_n (cond (b == 101) m.letter_e (cond (b == 69) m.letter_e (cond (b == 0xEF) m.mark_byte m.other))))))))))

high_fits : (b : ℕ) → Fits b (high_class b)
high_fits b = pick _ _ _ _ colon (pick _ _ _ _ open_bracket (pick _ _ _ _ close_bracket (pick _ _ _ _ open_brace (pick _ _ _ _ close_brace (pick _ _ _ _ letter_t (pick _ _ _ _ letter_f (pick _ _ _ _ letter_n (pick _ _ _ _ small_e (pick _ _ _ _ capital_e (pick _ _ _ _ mark_byte other))))))))))

pub class_fits : (b : ℕ) → Fits b (class b)
class_fits b = low (nat_lt b 48) refl
  where
    low : (t : Bool) → nat_lt b 48 ≡ t → Fits b (cond t (low_class b) (cond (b == 48) m.zero_digit (cond (nat_lt b 58) m.digit (high_class b))))
    low true e = low_fits b
    low false e = at_zero (b == 48) refl
      where
        high : (u : Bool) → (b == 48) ≡ false → nat_lt b 58 ≡ u → Fits b (cond u m.digit (high_class b))
        high true z h = digit (grind (arith, nat_tests)) (grind (arith, nat_tests))
        high false z h = high_fits b

        at_zero : (u : Bool) → (b == 48) ≡ u → Fits b (cond u m.zero_digit (cond (nat_lt b 58) m.digit (high_class b)))
        at_zero true z = subst (λ x. Fits x m.zero_digit) (sym (eqb_is b 48 z)) zero_digit
        at_zero false z = high (nat_lt b 58) z refl

-- ---- the byte between the pieces of a string

pub data TextFits : ℕ → TextByte → Type 0 where
  ends : TextFits 34 m.ends
  escapes : TextFits 92 m.escapes
  plain : {b : ℕ} → 32 ≤ b → b < 128 → b ≢ 34 → b ≢ 92 → TextFits b m.plain
  leads_two : {b : ℕ} → 0xC2 ≤ b → b ≤ 0xDF → TextFits b (m.leads m.one_more)
  leads_e0 : TextFits 0xE0 (m.leads m.behind_e0)
  leads_ed : TextFits 0xED (m.leads m.behind_ed)
  leads_three : {b : ℕ} → 0xE1 ≤ b → b ≤ 0xEF → b ≢ 0xED → TextFits b (m.leads m.two_more)
  leads_f0 : TextFits 0xF0 (m.leads m.behind_f0)
  leads_four : {b : ℕ} → 0xF1 ≤ b → b ≤ 0xF3 → TextFits b (m.leads m.three_more)
  leads_f4 : TextFits 0xF4 (m.leads m.behind_f4)
  bad : {b : ℕ} → TextFits b m.bad

-- where b is n this, and else that
pick_text : (b n : ℕ) (c d : TextByte) → TextFits n c → ((b == n) ≡ false → TextFits b d) → TextFits b (cond (b == n) c d)
pick_text b n c d f g = go (b == n) refl
  where
    go : (t : Bool) → (b == n) ≡ t → TextFits b (cond t c d)
    go true e = subst (λ x. TextFits x c) (sym (eqb_is b n e)) f
    go false e = g e

below : (b n : ℕ) (c d : TextByte) → (nat_lt b n ≡ true → TextFits b c) → (nat_lt b n ≡ false → TextFits b d) → TextFits b (cond (nat_lt b n) c d)
below b n c d f g = go (nat_lt b n) refl
  where
    go : (t : Bool) → nat_lt b n ≡ t → TextFits b (cond t c d)
    go true e = f e
    go false e = g e

pub text_fits : (b : ℕ) → TextFits b (text_byte b)
text_fits b =
    below b 32 _ _ (λ _. bad) (λ a. pick_text b 34 _ _ ends (λ q. pick_text b 92 _ _ escapes (λ r.
    below b 0x80 _ _ (λ h. plain (grind (arith, nat_tests)) (grind (arith, nat_tests)) (grind (arith, nat_tests)) (grind (arith, nat_tests))) (λ c.
    below b 0xC2 _ _ (λ _. bad) (λ d. below b 0xE0 _ _ (λ h. leads_two (grind (arith, nat_tests)) (grind (arith, nat_tests))) (λ e.
    pick_text b 0xE0 _ _ leads_e0 (λ f. pick_text b 0xED _ _ leads_ed (λ g.
    below b 0xF0 _ _ (λ h. leads_three (grind (arith, nat_tests)) (grind (arith, nat_tests)) (grind (arith, nat_tests))) (λ i.
    pick_text b 0xF0 _ _ leads_f0 (λ j. below b 0xF4 _ _ (λ h. leads_four (grind (arith, nat_tests)) (grind (arith, nat_tests))) (λ k.
    pick_text b 0xF4 _ _ leads_f4 (λ _. bad))))))))))))
