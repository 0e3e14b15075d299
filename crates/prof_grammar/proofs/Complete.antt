-- What is in the grammar the machine takes, with the same events.
use Rattle.std.proofs.Common.{◌≡◌, ◌≢◌, ℕ, zero, suc, ◌+◌, ◌*◌, ◌<◌, ◌≤◌, Bool, true, false, List, [], ◌∷◌, ◌++◌, refl, sym, subst, ap, ◌∙◌, arith, inl, inr}
use Rattle.std.specs.Prelude.{◌==◌, nat_lt, ◌||◌, Option, Some, None, option_and_then, codes, encode_utf8_all}
use Rattle.std.specs.Char.{encode_utf8, IsScalar, IsAsciiHexdigit, is_ascii_hexdigit, digit_value}
use Rattle.std.specs.Int.{is_in_range, IsInRange}
use Rattle.std.proofs.lemmas.Bool.Decides.{nat_tests}
use Rattle.std.proofs.lemmas.List.{append-nil, append_assoc}
use Rattle.prof_time.specs.Numeral.{IsInt, IsNumber, Numeral}
use Rattle.prof_time.specs.Numeral as n
use Rattle.prof_grammar.specs.Event.{Event, array_start, object_start, number, name}
use Rattle.prof_grammar.specs.Lexical.{IsBlank, IsSpace, IsString, IsShort, IsPiece, ArePieces, Code, char, unit, hex_value}
use Rattle.prof_grammar.specs.Lexical as x
use Rattle.prof_grammar.specs.Grammar.{Symbol, Is, IsMark, value, items, more_items, members, member, more_members}
use Rattle.prof_grammar.specs.Grammar as g
use Rattle.prof_grammar.specs.Machine.{Part, Class, Role, Stage, Tail, Begun, class, told, Next, step, finish, run, start, prefix, begin_value, as_name, as_value, step_blank, step_mark, step_chars, step_text, step_escape, step_hex, step_lead, step_digits, next_stage, may_end, text_byte, in_tail, tail_next, settled, add_unit, with_char, with_unit, give, after_name, nothing, escape, hex, lead}
use Rattle.prof_grammar.specs.Machine as m
use Rattle.prof_grammar.proofs.Language.{Follows, IfNext, IsTail, IsHex, spelled, eqb_is}
use Rattle.prof_grammar.proofs.Language as l
use Rattle.prof_grammar.proofs.Numbers.{digit_class, zero_follows, whole_follows, minus_follows}
use Rattle.prof_grammar.proofs.Utf8.{Led, led, char_to, encode_one}
use Rattle.prof_grammar.proofs.Spelled.{spelled_is}
use Rattle.prof_grammar.proofs.Strings.{four_digits, short_ascii}

abbrev pub NotSpace : Class → Type 0
NotSpace m.space = ⊥
NotSpace c = Unit {0}

abbrev pub NotMark : Class → Type 0
NotMark m.mark_byte = ⊥
NotMark c = Unit {0}

-- a number that may end ends before such a byte
abbrev pub NotNumber : Class → Type 0
NotNumber m.zero_digit = ⊥
NotNumber m.digit = ⊥
NotNumber m.point = ⊥
NotNumber m.letter_e = ⊥
NotNumber c = Unit {0}

-- what comes first, if anything does, is of such a class
abbrev pub Before : (Class → Type 0) → List ℕ → Type 0
Before P [] = Unit {0}
Before P (b ∷ bs) = P (class b)

abbrev pub and_run : List ℕ → Next → Option (List Event)
and_run bs r = option_and_then (λ n. give n.0 (run n.1 bs)) r

pub give_nil : (r : Option (List Event)) → give [] r ≡ r
give_nil None = refl
give_nil (Some es) = refl

pub give_give : (es fs : List Event) (r : Option (List Event)) → give es (give fs r) ≡ give (es ++ fs) r
give_give es fs None = refl
give_give es fs (Some gs) = ap (λ z. Some z) (sym (append_assoc es fs gs))

pub and_run-prefix : (bs : List ℕ) (es : List Event) (r : Next) → and_run bs (prefix es r) ≡ give es (and_run bs r)
and_run-prefix bs es None = refl
and_run-prefix bs es (Some n) = sym (give_give es n.0 (run n.1 bs))

-- ---- what parts begin with

-- a value begins with such a byte
abbrev Opens : Class → Type 0
Opens m.open_bracket = Unit {0}
Opens m.open_brace = Unit {0}
Opens m.quote = Unit {0}
Opens m.minus = Unit {0}
Opens m.zero_digit = Unit {0}
Opens m.digit = Unit {0}
Opens m.letter_t = Unit {0}
Opens m.letter_f = Unit {0}
Opens m.letter_n = Unit {0}
Opens c = ⊥

opens_not_space : (c : Class) → Opens c → NotSpace c
opens_not_space m.space h = absurd h
opens_not_space c h = tt

opens_not_mark : (c : Class) → Opens c → NotMark c
opens_not_mark m.mark_byte h = absurd h
opens_not_mark c h = tt

opens_first : (t : List ℕ) → Before Opens t → Before NotSpace t
opens_first [] h = tt
opens_first (b ∷ bs) h = opens_not_space (class b) h

opens_unmarked : (t : List ℕ) → Before Opens t → Before NotMark t
opens_unmarked [] h = tt
opens_unmarked (b ∷ bs) h = opens_not_mark (class b) h

number_head : {t : List ℕ} {k : Numeral} → IsNumber t k → (r : List ℕ) → Before Opens (t ++ r)
number_head (n.number n.no_sign n.zero_int f e) r = tt
number_head (n.number n.no_sign (n.int {d = d} h not_zero a) f e) r =
    let lo = h.0 in
    let big : 49 ≤ d = grind (arith, not_zero) in
    subst Opens (sym (digit_class d big h.1)) tt
number_head (n.number n.minus i f e) r = tt

value_opens : {t : List ℕ} {es : List Event} → Is value t es → (r : List ℕ) → Before Opens (t ++ r)
value_opens g.true_word r = tt
value_opens g.false_word r = tt
value_opens g.null_word r = tt
value_opens (g.numeral n) r = number_head n r
value_opens (g.string (x.string p)) r = tt
value_opens (g.array a i) r = tt
value_opens (g.object a i) r = tt

value_head : {t : List ℕ} {es : List Event} → Is value t es → (r : List ℕ) → Before NotSpace (t ++ r)
value_head {t = t} i r = opens_first (t ++ r) (value_opens i r)

items_head : {t : List ℕ} {es : List Event} → Is items t es → (r : List ℕ) → Before NotSpace (t ++ r)
items_head g.no_items r = tt
items_head (g.some_items {v = v} {a = a} {t = t} iv ba im) r = rw (append_assoc v (a ++ t) r) (value_head iv ((a ++ t) ++ r))

abbrev IsQuote : Class → Type 0
IsQuote m.quote = Unit {0}
IsQuote c = ⊥

member_quote : {t : List ℕ} {es : List Event} → Is member t es → (r : List ℕ) → Before IsQuote (t ++ r)
member_quote (g.one_member (x.string p) a b v c) r = tt

member_head : {t : List ℕ} {es : List Event} → Is member t es → (r : List ℕ) → Before NotSpace (t ++ r)
member_head (g.one_member (x.string p) a b v c) r = tt

members_head : {t : List ℕ} {es : List Event} → Is members t es → (r : List ℕ) → Before NotSpace (t ++ r)
members_head g.no_members r = tt
members_head (g.some_members {m = n} {t = t} i im) r = rw (append_assoc n t r) (member_head i (t ++ r))

more_items_head : {t : List ℕ} {es : List Event} → Is more_items t es → (r : List ℕ) → Before NotSpace (t ++ r)
more_items_head g.last_item r = tt
more_items_head (g.next_item a v b i) r = tt

more_items_free : {t : List ℕ} {es : List Event} → Is more_items t es → (r : List ℕ) → Before NotNumber (t ++ r)
more_items_free g.last_item r = tt
more_items_free (g.next_item a v b i) r = tt

more_members_head : {t : List ℕ} {es : List Event} → Is more_members t es → (r : List ℕ) → Before NotSpace (t ++ r)
more_members_head g.last_member r = tt
more_members_head (g.next_member a v i) r = tt

more_members_free : {t : List ℕ} {es : List Event} → Is more_members t es → (r : List ℕ) → Before NotNumber (t ++ r)
more_members_free g.last_member r = tt
more_members_free (g.next_member a v i) r = tt

blank_free : {a : List ℕ} → IsBlank a → (r : List ℕ) → Before NotNumber r → Before NotNumber (a ++ r)
blank_free x.none r h = h
blank_free (x.more x.space a) r h = tt
blank_free (x.more x.tab a) r h = tt
blank_free (x.more x.line_feed a) r h = tt
blank_free (x.more x.return a) r h = tt

-- ---- runs over blanks and the mark

blank_over : (c : Class) (ps : List Part) (r : Next) → NotSpace c → step_blank c ps r ≡ r
blank_over m.space ps r h = absurd h
blank_over c ps r h = refl

pub blank_run : {a : List ℕ} → IsBlank a → (ps : List Part) (r : List ℕ) → Before NotSpace r → run (m.blank ∷ ps) (a ++ r) ≡ run ps r
unfolding run step finish
blank_run x.none ps [] h = refl
blank_run x.none ps (b ∷ bs) h = ap (and_run bs) (blank_over (class b) ps (step ps (class b) b) h)
blank_run (x.more x.space a) ps r h = give_nil _ ∙ blank_run a ps r h
blank_run (x.more x.tab a) ps r h = give_nil _ ∙ blank_run a ps r h
blank_run (x.more x.line_feed a) ps r h = give_nil _ ∙ blank_run a ps r h
blank_run (x.more x.return a) ps r h = give_nil _ ∙ blank_run a ps r h

mark_over : (c : Class) (ps : List Part) (r : Next) → NotMark c → step_mark c ps r ≡ r
mark_over m.mark_byte ps r h = absurd h
mark_over c ps r h = refl

mark_run : {a : List ℕ} → IsMark a → (ps : List Part) (r : List ℕ) → Before NotMark r → run (m.mark ∷ ps) (a ++ r) ≡ run ps r
unfolding run step finish
mark_run g.no_mark ps [] h = refl
mark_run g.no_mark ps (b ∷ bs) h = ap (and_run bs) (mark_over (class b) ps (step ps (class b) b) h)
mark_run g.byte_order_mark ps r h = give_nil _ ∙ give_nil _ ∙ give_nil _

blank_unmarked : {a : List ℕ} → IsBlank a → (r : List ℕ) → Before NotMark r → Before NotMark (a ++ r)
blank_unmarked x.none r h = h
blank_unmarked (x.more x.space a) r h = tt
blank_unmarked (x.more x.tab a) r h = tt
blank_unmarked (x.more x.line_feed a) r h = tt
blank_unmarked (x.more x.return a) r h = tt

-- ---- runs over numbers

over_next : (k : Stage) (c : Class) → may_end k ≡ true → NotNumber c → next_stage k c ≡ None
over_next m.after_minus c e h = absurd cc
over_next m.after_zero m.point e h = absurd h
over_next m.after_zero m.letter_e e h = absurd h
over_next m.after_zero c e h = refl
over_next m.in_whole m.zero_digit e h = absurd h
over_next m.in_whole m.digit e h = absurd h
over_next m.in_whole m.point e h = absurd h
over_next m.in_whole m.letter_e e h = absurd h
over_next m.in_whole c e h = refl
over_next m.after_point c e h = absurd cc
over_next m.in_fraction m.zero_digit e h = absurd h
over_next m.in_fraction m.digit e h = absurd h
over_next m.in_fraction m.letter_e e h = absurd h
over_next m.in_fraction c e h = refl
over_next m.after_e c e h = absurd cc
over_next m.after_sign c e h = absurd cc
over_next m.in_exponent m.zero_digit e h = absurd h
over_next m.in_exponent m.digit e h = absurd h
over_next m.in_exponent c e h = refl

digits_over : (o : Option Stage) (u : Bool) (s : List ℕ) (b : ℕ) (ps : List Part) (r : Next) → o ≡ None → u ≡ true → step_digits o u s b ps r ≡ prefix (number s ∷ []) r
digits_over o u s b ps r e f = rw (e, f)

pub digits_end : (k : Stage) → may_end k ≡ true → (s : List ℕ) (ps : List Part) (r : List ℕ) → Before NotNumber r → run (m.digits k s ∷ ps) r ≡ give (number s ∷ []) (run ps r)
unfolding run step finish
digits_end k e s ps [] h = rw e
digits_end k e s ps (b ∷ bs) h =
    ap (and_run bs) (digits_over (next_stage k (class b)) (may_end k) s b ps (step ps (class b) b) (over_next k (class b) e h) e) ∙ and_run-prefix bs (number s ∷ []) (step ps (class b) b)

digits_on : (o : Option Stage) (k : Stage) (u : Bool) (s : List ℕ) (b : ℕ) (ps : List Part) (r : Next) → o ≡ Some k → step_digits o u s b ps r ≡ Some ([], m.digits k (s ++ b ∷ []) ∷ ps)
digits_on o k u s b ps r e = rw e

digits_next : (k j : Stage) (s : List ℕ) (ps : List Part) (b : ℕ) (r : List ℕ) → next_stage k (class b) ≡ Some j → run (m.digits k s ∷ ps) (b ∷ r) ≡ run (m.digits j (s ++ b ∷ []) ∷ ps) r
unfolding run step
digits_next k j s ps b r e = ap (and_run r) (digits_on (next_stage k (class b)) j (may_end k) s b ps (step ps (class b) b) e) ∙ give_nil _

abbrev DigitsRun : List ℕ → Type 0
DigitsRun t = (k : Stage) → Follows k t → (s : List ℕ) (ps : List Part) (r : List ℕ) → Before NotNumber r → run (m.digits k s ∷ ps) (t ++ r) ≡ give (number (s ++ t) ∷ []) (run ps r)

pub digits_run : (t : List ℕ) → DigitsRun t
digits_run [] = λ k h s ps r e. rw (append-nil s) (digits_end k h s ps r e)
digits_run (b ∷ bs) = λ k h s ps r e. go k s ps r e (digits_run bs) (next_stage k (class b)) refl h
  where
    go : (k : Stage) (s : List ℕ) (ps : List Part) (r : List ℕ) → Before NotNumber r → DigitsRun bs → (o : Option Stage) → next_stage k (class b) ≡ o → IfNext o (λ j. Follows j bs) →
        run (m.digits k s ∷ ps) (b ∷ (bs ++ r)) ≡ give (number (s ++ b ∷ bs) ∷ []) (run ps r)
    go k s ps r e rest None f h = absurd h
    go k s ps r e rest (Some j) f h =
        digits_next k j s ps b (bs ++ r) f ∙ rest j h (s ++ b ∷ []) ps r e ∙ ap (λ z. give (number z ∷ []) (run ps r)) (append_assoc s (b ∷ []) bs)

value_on : (c : Class) (b : ℕ) (ps : List Part) → c ≡ m.digit → begin_value c b ps ≡ Some ([], m.digits m.in_whole (b ∷ []) ∷ ps)
value_on c b ps e = rw e

value_digit : (ps : List Part) (d : ℕ) (r : List ℕ) → 49 ≤ d → d ≤ 57 → run (m.symbol value ∷ ps) (d ∷ r) ≡ run (m.digits m.in_whole (d ∷ []) ∷ ps) r
unfolding run step
value_digit ps d r lo hi = ap (and_run r) (value_on (class d) d ps (digit_class d lo hi)) ∙ give_nil _

number_run : {t : List ℕ} {k : Numeral} → IsNumber t k → (ps : List Part) (r : List ℕ) → Before NotNumber r → run (m.symbol value ∷ ps) (t ++ r) ≡ give (number t ∷ []) (run ps r)
unfolding run step
number_run (n.number {f = f} {e = e} n.no_sign n.zero_int i j) ps r h = give_nil _ ∙ digits_run (f ++ e) m.after_zero (zero_follows i j) (48 ∷ []) ps r h
number_run (n.number {f = f} {e = e} n.no_sign (n.int {d = d} {ds = ds} k not_zero a) i j) ps r h =
    let lo = k.0 in
    let big : 49 ≤ d = grind (arith, not_zero) in
    value_digit ps d ((ds ++ (f ++ e)) ++ r) big k.1 ∙ digits_run (ds ++ (f ++ e)) m.in_whole (whole_follows ds a i j) (d ∷ []) ps r h
number_run (n.number {w = w} {f = f} {e = e} n.minus q i j) ps r h = give_nil _ ∙ digits_run (w ++ (f ++ e)) m.after_minus (minus_follows q i j) (45 ∷ []) ps r h

-- ---- runs over strings

pub chars_next : (k : Role) (s : List ℕ) (p : Option ℕ) (c : Begun) (q : Part) (ps : List Part) (b : ℕ) (r : List ℕ) → step_chars k s p c b ps ≡ Some ([], q ∷ ps) → run (m.chars k s p c ∷ ps) (b ∷ r) ≡ run (q ∷ ps) r
unfolding run step
chars_next k s p c q ps b r e = ap (and_run r) e ∙ give_nil _

chars_end : (k : Role) (s : List ℕ) (p : Option ℕ) (ps : List Part) (r : List ℕ) → run (m.chars k s p nothing ∷ ps) (34 ∷ r) ≡ give (told k (settled s p) ∷ []) (run ps r)
unfolding run step
chars_end k s p ps r = refl

pub plain_byte : (b : ℕ) → 32 ≤ b → b < 128 → b ≢ 34 → b ≢ 92 → text_byte b ≡ m.plain
plain_byte b lo hi q e =
    let a : nat_lt b 32 ≡ false = grind (arith, nat_tests) in
    let c : (b == 34) ≡ false = grind (arith, nat_tests, q) in
    let d : (b == 92) ≡ false = grind (arith, nat_tests, e) in
    let f : nat_lt b 0x80 ≡ true = grind (arith, nat_tests) in
    rw (a, c, d, f)

pub text_on : (k : Role) (s : List ℕ) (p : Option ℕ) (b : ℕ) (c : m.TextByte) (ps : List Part) → text_byte b ≡ c → step_chars k s p nothing b ps ≡ step_text k s p c b ps
text_on k s p b c ps e = rw e

pub lead_step : (k : Role) (s : List ℕ) (p : Option ℕ) (t : Tail) (bytes : List ℕ) (b : ℕ) (ps : List Part) (o : Option Tail) → in_tail t b ≡ true → tail_next t ≡ o → step_lead k s p t bytes b ps ≡ Some ([], m.with_byte k s p o (bytes ++ b ∷ []) ∷ ps)
lead_step k s p t bytes b ps o e f = rw (e, f)

rest_of_char_run : {t : Tail} {q : List ℕ} → IsTail t q → (k : Role) (s : List ℕ) (p : Option ℕ) (bytes : List ℕ) (ps : List Part) (r : List ℕ) → run (m.chars k s p (lead t bytes) ∷ ps) (q ++ r) ≡ run (with_char k s p (bytes ++ q) ∷ ps) r
rest_of_char_run (l.last {t = t} {b = b} i e) k s p bytes ps r = chars_next k s p (lead t bytes) (with_char k s p (bytes ++ b ∷ [])) ps b r (lead_step k s p t bytes b ps None i e)
rest_of_char_run (l.more {t = t} {t' = j} {b = b} {bs = bs} i e h) k s p bytes ps r =
    chars_next k s p (lead t bytes) (m.chars k s p (lead j (bytes ++ b ∷ []))) ps b (bs ++ r) (lead_step k s p t bytes b ps (Some j) i e)
    ∙ rest_of_char_run h k s p (bytes ++ b ∷ []) ps r ∙ ap (λ z. run (with_char k s p z ∷ ps) r) (append_assoc bytes (b ∷ []) bs)

led_run : {bytes : List ℕ} → Led bytes → (k : Role) (s : List ℕ) (p : Option ℕ) (ps : List Part) (r : List ℕ) → run (m.chars k s p nothing ∷ ps) (bytes ++ r) ≡ run (with_char k s p bytes ∷ ps) r
led_run (led {x = b} {q = q} {t = t} e h) k s p ps r = chars_next k s p nothing (m.chars k s p (lead t (b ∷ []))) ps b (q ++ r) (text_on k s p b (m.leads t) ps e) ∙ rest_of_char_run h k s p (b ∷ []) ps r

-- a character that stands for itself
pub plain_run : (c : ℕ) → IsScalar c → 32 ≤ c → c ≢ 34 → c ≢ 92 → (k : Role) (s : List ℕ) (p : Option ℕ) (ps : List Part) (r : List ℕ) → run (m.chars k s p nothing ∷ ps) (encode_utf8 c ++ r) ≡ run (with_char k s p (encode_utf8 c) ∷ ps) r
plain_run c sc lo q e k s p ps r = go (nat_lt c 128) refl
  where
    go : (t : Bool) → nat_lt c 128 ≡ t → run (m.chars k s p nothing ∷ ps) (encode_utf8 c ++ r) ≡ run (with_char k s p (encode_utf8 c) ∷ ps) r
    go true h =
        let small : c < 128 = grind (arith, nat_tests) in
        subst (λ z. run (m.chars k s p nothing ∷ ps) (z ++ r) ≡ run (with_char k s p z ∷ ps) r) (sym (encode_one c small))
        (chars_next k s p nothing (with_char k s p (c ∷ [])) ps c r (text_on k s p c m.plain ps (plain_byte c lo small q e)))
    go false h = led_run (char_to c sc (grind (arith, nat_tests))) k s p ps r

pub short_step : {b c : ℕ} → IsShort b c → (k : Role) (s : List ℕ) (p : Option ℕ) (ps : List Part) → step_escape k s p b ps ≡ Some ([], with_char k s p (c ∷ []) ∷ ps)
short_step x.quote k s p ps = refl
short_step x.backslash k s p ps = refl
short_step x.slash k s p ps = refl
short_step x.backspace k s p ps = refl
short_step x.form_feed k s p ps = refl
short_step x.line_feed k s p ps = refl
short_step x.return k s p ps = refl
short_step x.tab k s p ps = refl

range_true : (lo hi b : ℕ) → IsInRange lo hi b → is_in_range lo hi b ≡ true
range_true lo hi b h = let a = h.0 in let c = h.1 in grind (arith, nat_tests)

pub hexdigit_true : (b : ℕ) → IsAsciiHexdigit b → is_ascii_hexdigit b ≡ true
hexdigit_true b (inl (inl h)) = rw (range_true 48 57 b h)
hexdigit_true b (inl (inr h)) = middle (is_in_range 48 57 b) (range_true 65 70 b h)
  where
    middle : (t : Bool) → is_in_range 65 70 b ≡ true → ((t || is_in_range 65 70 b) || is_in_range 97 102 b) ≡ true
    middle true e = refl
    middle false e = rw e
hexdigit_true b (inr h) = late (is_in_range 48 57 b) (is_in_range 65 70 b) (range_true 97 102 b h)
  where
    late : (t u : Bool) → is_in_range 97 102 b ≡ true → ((t || u) || is_in_range 97 102 b) ≡ true
    late true u e = refl
    late false true e = refl
    late false false e = e

pub hex_step : (k : Role) (s : List ℕ) (p : Option ℕ) (j v b : ℕ) (ps : List Part) → IsAsciiHexdigit b → step_hex k s p j v b ps ≡ Some ([], m.with_hex k s p j (v * 16 + digit_value b) ∷ ps)
hex_step k s p j v b ps h = rw (hexdigit_true b h)

hex_run : {j v u : ℕ} {ds : List ℕ} → IsHex j v ds u → (k : Role) (s : List ℕ) (p : Option ℕ) (ps : List Part) (r : List ℕ) → run (m.chars k s p (hex j v) ∷ ps) (ds ++ r) ≡ run (with_unit k s p u ∷ ps) r
hex_run (l.last {v = v} {d = d} h) k s p ps r = chars_next k s p (hex zero v) (with_unit k s p (v * 16 + digit_value d)) ps d r (hex_step k s p zero v d ps h)
hex_run (l.more {n = j} {v = v} {d = d} {ds = ds} h i) k s p ps r =
    chars_next k s p (hex (suc j) v) (m.chars k s p (hex j (v * 16 + digit_value d))) ps d (ds ++ r) (hex_step k s p (suc j) v d ps h) ∙ hex_run i k s p ps r

begin_escape : (k : Role) (s : List ℕ) (p : Option ℕ) (ps : List Part) (r : List ℕ) → run (m.chars k s p nothing ∷ ps) (92 ∷ r) ≡ run (m.chars k s p escape ∷ ps) r
begin_escape k s p ps r = chars_next k s p nothing (m.chars k s p escape) ps 92 r refl

begin_hex : (k : Role) (s : List ℕ) (p : Option ℕ) (ps : List Part) (r : List ℕ) → run (m.chars k s p escape ∷ ps) (117 ∷ r) ≡ run (m.chars k s p (hex 3 0) ∷ ps) r
begin_hex k s p ps r = chars_next k s p escape (m.chars k s p (hex 3 0)) ps 117 r refl

four_run : {a b c d : ℕ} → IsAsciiHexdigit a → IsAsciiHexdigit b → IsAsciiHexdigit c → IsAsciiHexdigit d → IsHex 3 0 (a ∷ b ∷ c ∷ d ∷ []) (hex_value a b c d)
four_run {a = a} {b = b} {c = c} {d = d} h i j k = subst (IsHex 3 0 (a ∷ b ∷ c ∷ d ∷ [])) (four_digits a b c d) (l.more h (l.more i (l.more j (l.last k))))

-- behind a piece
abbrev behind : Role → List ℕ → Option ℕ → Code → Part
behind k s p (char c) = with_char k s p (encode_utf8 c)
behind k s p (unit u) = with_unit k s p u

piece_run : {t : List ℕ} {c : Code} → IsPiece t c → (k : Role) (s : List ℕ) (p : Option ℕ) (ps : List Part) (r : List ℕ) → run (m.chars k s p nothing ∷ ps) (t ++ r) ≡ run (behind k s p c ∷ ps) r
piece_run (x.plain {c = c} sc lo q e) k s p ps r = plain_run c sc lo q e k s p ps r
piece_run (x.short {x = b} {c = c} i) k s p ps r =
    begin_escape k s p ps (b ∷ r) ∙ chars_next k s p escape (with_char k s p (c ∷ [])) ps b r (short_step i k s p ps) ∙ ap (λ z. run (with_char k s p z ∷ ps) r) (sym (short_ascii i))
piece_run (x.hex {a = a} {b = b} {c = c} {d = d} h i j e) k s p ps r = begin_escape k s p ps (117 ∷ a ∷ b ∷ c ∷ d ∷ r) ∙ begin_hex k s p ps (a ∷ b ∷ c ∷ d ∷ r) ∙ hex_run (four_run h i j e) k s p ps r

quoted : (q t r : List ℕ) → ((q ++ t) ++ 34 ∷ []) ++ r ≡ q ++ ((t ++ 34 ∷ []) ++ r)
quoted q t r = simp append_assoc

pub pieces_run : {t : List ℕ} {ms : List Code} → ArePieces t ms → (k : Role) (s : List ℕ) (p : Option ℕ) (ps : List Part) (r : List ℕ) → run (m.chars k s p nothing ∷ ps) ((t ++ 34 ∷ []) ++ r) ≡ give (told k (spelled s p ms) ∷ []) (run ps r)
pieces_run x.none k s p ps r = chars_end k s p ps r
pieces_run (x.more {p = q} {t = t} {m = char c} i a) k s p ps r =
    ap (run (m.chars k s p nothing ∷ ps)) (quoted q t r) ∙ piece_run i k s p ps ((t ++ 34 ∷ []) ++ r) ∙ pieces_run a k (settled s p ++ encode_utf8 c) None ps r
pieces_run (x.more {p = q} {t = t} {m = unit u} i a) k s p ps r =
    ap (run (m.chars k s p nothing ∷ ps)) (quoted q t r) ∙ piece_run i k s p ps ((t ++ 34 ∷ []) ++ r) ∙ pieces_run a k (add_unit s p u).0 (add_unit s p u).1 ps r

string_run : {t : List ℕ} {ms : List Code} → ArePieces t ms → (k : Role) (ps : List Part) (r : List ℕ) → run (m.chars k [] None nothing ∷ ps) ((t ++ 34 ∷ []) ++ r) ≡ give (told k (encode_utf8_all (x.characters ms)) ∷ []) (run ps r)
string_run {ms = ms} a k ps r = pieces_run a k [] None ps r ∙ ap (λ z. give (told k z ∷ []) (run ps r)) (spelled_is ms)

-- ---- the grammar

tail_run : (qs ps : List Part) {a : List ℕ} (t r : List ℕ) (fs : List Event) → IsBlank a → Before NotSpace (t ++ r) → run qs (t ++ r) ≡ give fs (run ps r) → run (m.blank ∷ qs) ((a ++ t) ++ r) ≡ give fs (run ps r)
tail_run qs ps {a = a} t r fs ba h e = ap (run (m.blank ∷ qs)) (append_assoc a t r) ∙ blank_run ba qs (t ++ r) h ∙ e

join_run : (p : Part) (qs ps : List Part) (t u r : List ℕ) (es fs : List Event) → run (p ∷ qs) (t ++ (u ++ r)) ≡ give es (run qs (u ++ r)) → run qs (u ++ r) ≡ give fs (run ps r) → run (p ∷ qs) ((t ++ u) ++ r) ≡ give (es ++ fs) (run ps r)
join_run p qs ps t u r es fs e f = ap (run (p ∷ qs)) (append_assoc t u r) ∙ e ∙ ap (give es) f ∙ give_give es fs (run ps r)

items_on : (c : Class) (b : ℕ) (ps : List Part) → Opens c → m.step_items c b ps ≡ begin_value c b (m.blank ∷ m.symbol more_items ∷ ps)
items_on m.close_bracket b ps h = absurd h
items_on c b ps h = refl

items_run : (ps : List Part) (x : List ℕ) → Before Opens x → run (m.symbol items ∷ ps) x ≡ run (m.symbol value ∷ m.blank ∷ m.symbol more_items ∷ ps) x
unfolding run step finish
items_run ps [] h = refl
items_run ps (b ∷ bs) h = ap (and_run bs) (items_on (class b) b ps h)

members_on : (c : Class) (ps : List Part) → IsQuote c → m.step_members c ps ≡ m.begin_member c (m.symbol more_members ∷ ps)
members_on m.close_brace ps h = absurd h
members_on c ps h = refl

members_run : (ps : List Part) (x : List ℕ) → Before IsQuote x → run (m.symbol members ∷ ps) x ≡ run (m.symbol member ∷ m.symbol more_members ∷ ps) x
unfolding run step finish
members_run ps [] h = refl
members_run ps (b ∷ bs) h = ap (and_run bs) (members_on (class b) ps h)

-- what may come behind one
abbrev pub After : Symbol → List ℕ → Type 0
After value r = Before NotNumber r
After member r = Before NotSpace r × Before NotNumber r
After items r = Unit {0}
After more_items r = Unit {0}
After members r = Unit {0}
After more_members r = Unit {0}

pub complete : {s : Symbol} {t : List ℕ} {es : List Event} → Is s t es → (ps : List Part) (r : List ℕ) → After s r → run (m.symbol s ∷ ps) (t ++ r) ≡ give es (run ps r)
unfolding run step
complete g.true_word ps r h = give_nil _ ∙ give_nil _ ∙ give_nil _
complete g.false_word ps r h = give_nil _ ∙ give_nil _ ∙ give_nil _ ∙ give_nil _
complete g.null_word ps r h = give_nil _ ∙ give_nil _ ∙ give_nil _
complete (g.numeral n) ps r h = number_run n ps r h
complete (g.string (x.string p)) ps r h = give_nil _ ∙ string_run p as_value ps r
complete (g.array {t = t} {es = es} ba i) ps r h =
    ap (give (array_start ∷ [])) (tail_run (m.symbol items ∷ ps) ps t r es ba (items_head i r) (complete i ps r tt)) ∙ give_give (array_start ∷ []) es (run ps r)
complete g.no_items ps r h = refl
complete (g.some_items {v = v} {a = a} {t = t} {es = es} {fs = fs} iv ba im) ps r h =
    items_run ps ((v ++ (a ++ t)) ++ r) (rw (append_assoc v (a ++ t) r) (value_opens iv ((a ++ t) ++ r)))
    ∙ join_run (m.symbol value) (m.blank ∷ m.symbol more_items ∷ ps) ps v (a ++ t) r es fs
    (complete iv (m.blank ∷ m.symbol more_items ∷ ps) ((a ++ t) ++ r) (rw (append_assoc a t r) (blank_free ba (t ++ r) (more_items_free im r))))
    (tail_run (m.symbol more_items ∷ ps) ps t r fs ba (more_items_head im r) (complete im ps r tt))
complete g.last_item ps r h = refl
complete (g.next_item {a = a} {v = v} {b = b} {t = t} {es = es} {fs = fs} ba iv bb im) ps r h =
    give_nil _ ∙ tail_run (m.symbol value ∷ m.blank ∷ m.symbol more_items ∷ ps) ps (v ++ (b ++ t)) r (es ++ fs) ba (rw (append_assoc v (b ++ t) r) (value_head iv ((b ++ t) ++ r)))
    (join_run (m.symbol value) (m.blank ∷ m.symbol more_items ∷ ps) ps v (b ++ t) r es fs
    (complete iv (m.blank ∷ m.symbol more_items ∷ ps) ((b ++ t) ++ r) (rw (append_assoc b t r) (blank_free bb (t ++ r) (more_items_free im r))))
    (tail_run (m.symbol more_items ∷ ps) ps t r fs bb (more_items_head im r) (complete im ps r tt)))
complete (g.object {t = t} {es = es} ba i) ps r h =
    ap (give (object_start ∷ [])) (tail_run (m.symbol members ∷ ps) ps t r es ba (members_head i r) (complete i ps r tt)) ∙ give_give (object_start ∷ []) es (run ps r)
complete g.no_members ps r h = refl
complete (g.some_members {m = n} {t = t} {es = es} {fs = fs} i im) ps r h =
    members_run ps ((n ++ t) ++ r) (rw (append_assoc n t r) (member_quote i (t ++ r)))
    ∙ join_run (m.symbol member) (m.symbol more_members ∷ ps) ps n t r es fs
    (complete i (m.symbol more_members ∷ ps) (t ++ r) (more_members_head im r, more_members_free im r)) (complete im ps r tt)
complete g.last_member ps r h = refl
complete (g.next_member {a = a} {m = n} {t = t} {es = es} {fs = fs} ba i im) ps r h =
    give_nil _ ∙ tail_run (m.symbol member ∷ m.symbol more_members ∷ ps) ps (n ++ t) r (es ++ fs) ba (rw (append_assoc n t r) (member_head i (t ++ r)))
    (join_run (m.symbol member) (m.symbol more_members ∷ ps) ps n t r es fs
    (complete i (m.symbol more_members ∷ ps) (t ++ r) (more_members_head im r, more_members_free im r)) (complete im ps r tt))
complete (g.one_member {s = y} {a = a} {b = b} {v = v} {c = c} {es = es} (x.string {t = s} p) ba bb iv bc) ps r h =
    ap (run (m.symbol member ∷ ps)) (append_assoc (34 ∷ s ++ 34 ∷ []) (a ++ (58 ∷ b ++ (v ++ c))) r)
    ∙ give_nil _ ∙ string_run p as_name (after_name ps) ((a ++ (58 ∷ b ++ (v ++ c))) ++ r)
    ∙ ap (give (name y ∷ []))
    (tail_run (m.word (codes ":") m.a_colon ∷ m.blank ∷ m.symbol value ∷ m.blank ∷ ps) ps (58 ∷ b ++ (v ++ c)) r es ba tt
    (give_nil _ ∙ tail_run (m.symbol value ∷ m.blank ∷ ps) ps (v ++ c) r es bb (rw (append_assoc v c r) (value_head iv (c ++ r)))
    (ap (run (m.symbol value ∷ m.blank ∷ ps)) (append_assoc v c r) ∙ complete iv (m.blank ∷ ps) (c ++ r) (blank_free bc r h.1) ∙ ap (give es) (blank_run bc ps r h.0))))
    ∙ give_give (name y ∷ []) es (run ps r)

last_blank : {b : List ℕ} → IsBlank b → run (m.blank ∷ []) b ≡ Some []
unfolding run finish
last_blank {b = b} bb = ap (run (m.blank ∷ [])) (sym (append-nil b)) ∙ blank_run bb [] [] tt

pub json_run : {t : List ℕ} {es : List Event} → g.IsJson t es → run start t ≡ Some es
json_run (g.json {a = a} {v = v} {b = b} {es = es} im ba iv bb) =
    let free : Before NotNumber b = rw (append-nil b) at (blank_free bb [] tt) in
    mark_run im (m.blank ∷ m.symbol value ∷ m.blank ∷ []) (a ++ (v ++ b)) (blank_unmarked ba (v ++ b) (opens_unmarked (v ++ b) (value_opens iv b)))
    ∙ blank_run ba (m.symbol value ∷ m.blank ∷ []) (v ++ b) (value_head iv b) ∙ complete iv (m.blank ∷ []) b free ∙ ap (give es) (last_blank bb) ∙ ap (λ z. Some z) (append-nil es)
