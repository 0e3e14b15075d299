-- Runs of bytes: what the machine does with them, and how a reading goes on over them.
use Rattle.std.proofs.Common.{◌≡◌, ◌≢◌, ℕ, suc, ◌+◌, ◌<◌, ◌≤◌, Bool, true, false, List, [], ◌∷◌, ◌++◌, length, refl, sym, subst, ap, ◌∙◌, arith}
use Rattle.std.specs.Prelude.{Option, Some, None, ◌==◌, ◌&&◌, nat_lt, encode_utf8_all, IsUtf8}
use Rattle.std.specs.Char.{encode_utf8, IsScalar}
use Rattle.std.specs.Str.{all_scalars}
use Rattle.std.specs.List.{AllByRecursion}
use lib.Utf8.{scalar}
use Rattle.std.proofs.lemmas.Bool.Decides.{nat_tests}
use Rattle.std.proofs.lemmas.List.{append-nil, append_assoc}
use Rattle.prof_time.specs.Numeral.{AreDigits}
use Rattle.prof_grammar.specs.Event.{Event, number}
use Rattle.prof_grammar.specs.Lexical.{IsBlank, IsShort}
use Rattle.prof_grammar.specs.Lexical as x
use Rattle.prof_grammar.specs.Grammar.{Symbol, Is}
use Rattle.prof_grammar.specs.Machine.{Part, Class, Role, Stage, Tail, Begun, Next, class, told, step, feed, finish, prefix, and_feed, step_chars, step_digits, next_stage, may_end, settled, with_char, with_unit, nothing, escape, hex, lead}
use Rattle.prof_grammar.specs.Machine as m
use Rattle.prof_grammar.specs.Reading.{max_depth, not_json, too_deep, too_long, NestsWithin}
use Rattle.prof_grammar.specs.Told.{Reading, reading, stop, tell, at_end, depth}
use Rattle.prof_grammar.proofs.Language.{Goes, part, done, IsTail, IsHex}
use Rattle.prof_grammar.proofs.Language as l
use Rattle.prof_grammar.proofs.Numbers.{digit_or_zero, by_class}
use Rattle.prof_grammar.proofs.Utf8.{Led, led, char_to, encode_one}
use Rattle.prof_grammar.proofs.Complete.{plain_byte, text_on, lead_step}
use Rattle.prof_grammar.proofs.Begins.{Fed, fed}
use Rattle.prof_grammar.proofs.Depth.{opened, nests_open, Keeps, keeps}
use Rattle.prof_grammar.proofs.Ended.{prefix_nil, feed_join}

-- ---- a byte of a reading

pub reading_long : (limit at : ℕ) (ps : List Part) (b : ℕ) (bs : List ℕ) → at ≡ limit → reading limit at ps (b ∷ bs) ≡ stop too_long
unfolding reading
reading_long limit at ps b bs h = let e : (at == limit) ≡ true = grind (arith, nat_tests) in rw e

pub reading_step : (limit at : ℕ) (ps : List Part) (n : List Event × List Part) (b : ℕ) (bs : List ℕ) → at < limit → step ps (class b) b ≡ Some n → depth n.1 ≤ max_depth → reading limit at ps (b ∷ bs) ≡ tell n.0 (reading limit (at + 1) n.1 bs)
unfolding reading
reading_step limit at ps n b bs room s d =
    let e : (at == limit) ≡ false = grind (arith, nat_tests) in
    let f : nat_lt max_depth (depth n.1) ≡ false = grind (arith, nat_tests) in
    rw (e, s, f)

pub reading_wrong : (limit at : ℕ) (ps : List Part) (b : ℕ) (bs : List ℕ) → at < limit → step ps (class b) b ≡ None → reading limit at ps (b ∷ bs) ≡ stop (not_json at)
unfolding reading
reading_wrong limit at ps b bs room s = let e : (at == limit) ≡ false = grind (arith, nat_tests) in rw (e, s)

pub reading_deep : (limit at : ℕ) (ps : List Part) (n : List Event × List Part) (b : ℕ) (bs : List ℕ) → at < limit → step ps (class b) b ≡ Some n → max_depth < depth n.1 → reading limit at ps (b ∷ bs) ≡ stop (too_deep at)
unfolding reading
reading_deep limit at ps n b bs room s d =
    let e : (at == limit) ≡ false = grind (arith, nat_tests) in
    let f : nat_lt max_depth (depth n.1) ≡ true = grind (arith, nat_tests) in
    rw (e, s, f)

pub reading_end : (limit at : ℕ) (ps : List Part) → reading limit at ps [] ≡ at_end at (finish ps)
unfolding reading
reading_end limit at ps = refl

-- ---- a run of bytes of a reading

nests_behind : (most k : ℕ) (es fs : List Event) → NestsWithin most k (es ++ fs) → NestsWithin most (opened k es) fs
nests_behind most k [] fs h = h
nests_behind most k (Event.array_start ∷ es) fs h = nests_behind most (k + 1) es fs h.1
nests_behind most k (Event.object_start ∷ es) fs h = nests_behind most (k + 1) es fs h.1
nests_behind most k (Event.array_end ∷ es) fs h = nests_behind most _ es fs h
nests_behind most k (Event.object_end ∷ es) fs h = nests_behind most _ es fs h
nests_behind most k (Event.name s ∷ es) fs h = nests_behind most k es fs h
nests_behind most k (Event.str s ∷ es) fs h = nests_behind most k es fs h
nests_behind most k (number t ∷ es) fs h = nests_behind most k es fs h
nests_behind most k (Event.truth b ∷ es) fs h = nests_behind most k es fs h
nests_behind most k (Event.null ∷ es) fs h = nests_behind most k es fs h

abbrev Over : ℕ → ℕ → List Part → List ℕ → List ℕ → Next → Type 0
Over limit at ps xs ys None = Unit {0}
Over limit at ps xs ys (Some n) = depth ps ≤ max_depth → NestsWithin max_depth (depth ps) n.0 → at + length xs ≤ limit → reading limit at ps (xs ++ ys) ≡ tell n.0 (reading limit (at + length xs) n.1 ys)

tell_tell : (es fs : List Event) (r : Reading) → tell es (tell fs r) ≡ tell (es ++ fs) r
tell_tell es fs r = ap joined (sym (append_assoc es fs r.events))
  where
    joined : List Event → Reading
    joined gs = record { events = gs; ending = r.ending }

over_byte : (limit at : ℕ) (ps : List Part) (b : ℕ) (bs ys : List ℕ) (n : List Event × List Part) (r : Next) → step ps (class b) b ≡ Some n → Over limit (at + 1) n.1 bs ys r → Over limit at ps (b ∷ bs) ys (prefix n.0 r)
over_byte limit at ps b bs ys n None s h = tt
over_byte limit at ps b bs ys n (Some j) s h = λ d nests room.
    let kept : Keeps (depth ps) (Some n) = subst (Keeps (depth ps)) s (keeps ps (class b) b) in
    let open_is : opened (depth ps) n.0 ≡ depth n.1 = kept.0 in
    let few : opened (depth ps) n.0 ≤ max_depth = nests_open max_depth (depth ps) n.0 j.0 d nests in
    let shallow : depth n.1 ≤ max_depth = omega arith in
    let rest : NestsWithin max_depth (depth n.1) j.0 = subst (λ k. NestsWithin max_depth k j.0) open_is (nests_behind max_depth (depth ps) n.0 j.0 nests) in
    let place : at + 1 + length bs ≡ at + suc (length bs) = omega arith in
    reading_step limit at ps n b (bs ++ ys) (omega arith) s shallow
    ∙ ap (tell n.0) (h shallow rest (omega arith) ∙ ap (λ k. tell j.0 (reading limit k j.1 ys)) place)
    ∙ tell_tell n.0 j.0 (reading limit (at + suc (length bs)) j.1 ys)

over : (xs : List ℕ) (limit at : ℕ) (ps : List Part) (ys : List ℕ) → Over limit at ps xs ys (feed ps xs)
unfolding feed
over [] limit at ps ys = λ d nests room. let e : at ≡ at + 0 = omega arith in ap (λ k. reading limit k ps ys) e
over (b ∷ bs) limit at ps ys = go (step ps (class b) b) refl (λ qs. over bs limit (at + 1) qs ys)
  where
    go : (r : Next) → step ps (class b) b ≡ r → ((qs : List Part) → Over limit (at + 1) qs bs ys (feed qs bs)) → Over limit at ps (b ∷ bs) ys (and_feed bs r)
    go None s h = tt
    go (Some n) s h = over_byte limit at ps b bs ys n (feed n.1 bs) s (h n.1)

-- where the machine goes over these bytes to those parts, with events that nest, the reading goes on behind them
pub reading_feed : (xs ys : List ℕ) (limit at : ℕ) (ps : List Part) (n : List Event × List Part) → feed ps xs ≡ Some n → depth ps ≤ max_depth → NestsWithin max_depth (depth ps) n.0 → at + length xs ≤ limit →
    reading limit at ps (xs ++ ys) ≡ tell n.0 (reading limit (at + length xs) n.1 ys)
reading_feed xs ys limit at ps n e d nests room = let h : Over limit at ps xs ys (Some n) = subst (Over limit at ps xs ys) e (over xs limit at ps ys) in h d nests room

-- bytes over which a symbol is done are one of it
pub symbol_fed : (s : Symbol) (text : List ℕ) (es : List Event) → feed (m.symbol s ∷ []) text ≡ Some (es, []) → Is s text es
symbol_fed s text es e =
    let f : Fed (m.symbol s ∷ []) text (Some (es, [])) = subst (Fed (m.symbol s ∷ []) text) e (fed text (m.symbol s ∷ [])) in
    alone (f [] [] done)
  where
    only : {t : List ℕ} {fs : List Event} → Goes (m.symbol s ∷ []) t fs → Is s t fs
    only (part (l.is_symbol i) done) = simp append-nil i

    alone : Goes (m.symbol s ∷ []) (text ++ []) (es ++ []) → Is s text es
    alone g = simp append-nil at (only g)

-- ---- runs of bytes

pub feed_blank : {a : List ℕ} → IsBlank a → (ps : List Part) → feed (m.blank ∷ ps) a ≡ Some ([], m.blank ∷ ps)
unfolding feed step
feed_blank x.none ps = refl
feed_blank (x.more x.space a) ps = prefix_nil _ ∙ feed_blank a ps
feed_blank (x.more x.tab a) ps = prefix_nil _ ∙ feed_blank a ps
feed_blank (x.more x.line_feed a) ps = prefix_nil _ ∙ feed_blank a ps
feed_blank (x.more x.return a) ps = prefix_nil _ ∙ feed_blank a ps

-- a byte at which a number goes on, and one before which it is over
digits_on : (o : Option Stage) (k : Stage) (u : Bool) (s : List ℕ) (b : ℕ) (ps : List Part) (r : Next) → o ≡ Some k → step_digits o u s b ps r ≡ Some ([], m.digits k (s ++ b ∷ []) ∷ ps)
digits_on o k u s b ps r e = rw e

digits_off : (o : Option Stage) (u : Bool) (s : List ℕ) (b : ℕ) (ps : List Part) (r : Next) → o ≡ None → u ≡ true → step_digits o u s b ps r ≡ prefix (number s ∷ []) r
digits_off o u s b ps r e f = rw (e, f)

pub digits_step : (k j : Stage) (s : List ℕ) (b : ℕ) (ps : List Part) → next_stage k (class b) ≡ Some j → step (m.digits k s ∷ ps) (class b) b ≡ Some ([], m.digits j (s ++ b ∷ []) ∷ ps)
unfolding step
digits_step k j s b ps e = digits_on (next_stage k (class b)) j (may_end k) s b ps (step ps (class b) b) e

pub digits_over_step : (k : Stage) (s : List ℕ) (b : ℕ) (ps : List Part) → next_stage k (class b) ≡ None → may_end k ≡ true → step (m.digits k s ∷ ps) (class b) b ≡ prefix (number s ∷ []) (step ps (class b) b)
unfolding step
digits_over_step k s b ps e f = digits_off (next_stage k (class b)) (may_end k) s b ps (step ps (class b) b) e f

feed_first : (ps : List Part) (q : List Part) (b : ℕ) (bs : List ℕ) → step ps (class b) b ≡ Some ([], q) → feed ps (b ∷ bs) ≡ feed q bs
unfolding feed
feed_first ps q b bs e = ap (and_feed bs) e ∙ prefix_nil (feed q bs)

-- a run of digits at a stage at which they stay
pub feed_digits : (ds : List ℕ) → AreDigits ds → (k : Stage) → next_stage k m.zero_digit ≡ Some k → next_stage k m.digit ≡ Some k → (s : List ℕ) (ps : List Part) → feed (m.digits k s ∷ ps) ds ≡ Some ([], m.digits k (s ++ ds) ∷ ps)
unfolding feed
feed_digits [] a k z e s ps = rw (append-nil s)
feed_digits (d ∷ ds) a k z e s ps =
    feed_first (m.digits k s ∷ ps) (m.digits k (s ++ d ∷ []) ∷ ps) d ds (digits_step k k s d ps (by_class k k (class d) (digit_or_zero d a.0) z e))
    ∙ feed_digits ds a.1 k z e (s ++ d ∷ []) ps ∙ ap (λ t. Some ([], m.digits k t ∷ ps)) (append_assoc s (d ∷ []) ds)

-- ---- strings

pub feed_next : (k : Role) (s : List ℕ) (p : Option ℕ) (c : Begun) (q : Part) (ps : List Part) (b : ℕ) (bs : List ℕ) → step_chars k s p c b ps ≡ Some ([], q ∷ ps) → feed (m.chars k s p c ∷ ps) (b ∷ bs) ≡ feed (q ∷ ps) bs
unfolding feed step
feed_next k s p c q ps b bs e = ap (and_feed bs) e ∙ prefix_nil (feed (q ∷ ps) bs)

feed_tail : {t : Tail} {q : List ℕ} → IsTail t q → (k : Role) (s : List ℕ) (p : Option ℕ) (bytes : List ℕ) (ps : List Part) → feed (m.chars k s p (lead t bytes) ∷ ps) q ≡ Some ([], with_char k s p (bytes ++ q) ∷ ps)
unfolding feed
feed_tail (l.last {t = t} {b = b} i e) k s p bytes ps = feed_next k s p (lead t bytes) (with_char k s p (bytes ++ b ∷ [])) ps b [] (lead_step k s p t bytes b ps None i e)
feed_tail (l.more {t = t} {t' = j} {b = b} {bs = bs} i e h) k s p bytes ps =
    feed_next k s p (lead t bytes) (m.chars k s p (lead j (bytes ++ b ∷ []))) ps b bs (lead_step k s p t bytes b ps (Some j) i e)
    ∙ feed_tail h k s p (bytes ++ b ∷ []) ps ∙ ap (λ z. Some ([], with_char k s p z ∷ ps)) (append_assoc bytes (b ∷ []) bs)

feed_led : {bytes : List ℕ} → Led bytes → (k : Role) (s : List ℕ) (p : Option ℕ) (ps : List Part) → feed (m.chars k s p nothing ∷ ps) bytes ≡ Some ([], with_char k s p bytes ∷ ps)
feed_led (led {x = b} {q = q} {t = t} e h) k s p ps = feed_next k s p nothing (m.chars k s p (lead t (b ∷ []))) ps b q (text_on k s p b (m.leads t) ps e) ∙ feed_tail h k s p (b ∷ []) ps

-- a character that stands for itself
pub record IsSelf (c : ℕ) : Type 0 where
  pub scalar : IsScalar c
  pub printed : 32 ≤ c
  pub not_quote : c ≢ 34
  pub not_backslash : c ≢ 92

pub data AreSelf : List ℕ → Type 0 where
  none : AreSelf []
  more : {c : ℕ} {cs : List ℕ} → IsSelf c → AreSelf cs → AreSelf (c ∷ cs)

pub feed_char : (c : ℕ) → IsSelf c → (k : Role) (s : List ℕ) (p : Option ℕ) (ps : List Part) → feed (m.chars k s p nothing ∷ ps) (encode_utf8 c) ≡ Some ([], with_char k s p (encode_utf8 c) ∷ ps)
unfolding feed
feed_char c i k s p ps = go (nat_lt c 128) refl
  where
    go : (t : Bool) → nat_lt c 128 ≡ t → feed (m.chars k s p nothing ∷ ps) (encode_utf8 c) ≡ Some ([], with_char k s p (encode_utf8 c) ∷ ps)
    go true h =
        let small : c < 128 = grind (arith, nat_tests) in
        subst (λ z. feed (m.chars k s p nothing ∷ ps) z ≡ Some ([], with_char k s p z ∷ ps)) (sym (encode_one c small))
        (feed_next k s p nothing (with_char k s p (c ∷ [])) ps c [] (text_on k s p c m.plain ps (plain_byte c i.printed small i.not_quote i.not_backslash)))
    go false h = feed_led (char_to c i.scalar (grind (arith, nat_tests))) k s p ps

feed_then : (ps qs : List Part) (xs ys : List ℕ) → feed ps xs ≡ Some ([], qs) → feed ps (xs ++ ys) ≡ feed qs ys
feed_then ps qs xs ys e = feed_join xs ys ps ∙ ap (and_feed ys) e ∙ prefix_nil (feed qs ys)

-- a run of characters that stand for themselves, where no first unit of a pair waits
pub feed_chars : {cs : List ℕ} → AreSelf cs → (k : Role) (s : List ℕ) (ps : List Part) → feed (m.chars k s None nothing ∷ ps) (encode_utf8_all cs) ≡ Some ([], m.chars k (s ++ encode_utf8_all cs) None nothing ∷ ps)
unfolding feed
feed_chars none k s ps = rw (append-nil s)
feed_chars (more {c = c} {cs = cs} i a) k s ps =
    feed_then (m.chars k s None nothing ∷ ps) (m.chars k (s ++ encode_utf8 c) None nothing ∷ ps) (encode_utf8 c) (encode_utf8_all cs) (feed_char c i k s None ps)
    ∙ feed_chars a k (s ++ encode_utf8 c) ps ∙ ap (λ z. Some ([], m.chars k z None nothing ∷ ps)) (append_assoc s (encode_utf8 c) (encode_utf8_all cs))

-- ---- bytes that stand for themselves

abbrev pub IsPrinted : ℕ → Type 0
IsPrinted b = (32 ≤ b) × (b ≢ 34) × (b ≢ 92)

printed_char : (c : ℕ) (r : List ℕ) → IsScalar c → AllByRecursion IsPrinted (encode_utf8 c ++ r) → IsSelf c
printed_char c r i a = go (nat_lt c 128) refl
  where
    go : (t : Bool) → nat_lt c 128 ≡ t → IsSelf c
    go true h =
        let small : c < 128 = grind (arith, nat_tests) in
        let b : AllByRecursion IsPrinted (c ∷ r) = subst (λ z. AllByRecursion IsPrinted (z ++ r)) (encode_one c small) a in
        record { scalar = i; printed = b.0.0; not_quote = b.0.1; not_backslash = b.0.2 }
    go false h =
        let big : 128 ≤ c = grind (arith, nat_tests) in
        record { scalar = i; printed = omega arith; not_quote = λ e. omega (arith, e); not_backslash = λ e. omega (arith, e) }

all_behind : (xs ys : List ℕ) → AllByRecursion IsPrinted (xs ++ ys) → AllByRecursion IsPrinted ys
all_behind [] ys a = a
all_behind (b ∷ xs) ys a = all_behind xs ys a.1

both_true : (a b : Bool) → (a && b) ≡ true → (a ≡ true) × (b ≡ true)
both_true true b e = (refl, e)
both_true false b e = absurd cc

printed_chars : (cs : List ℕ) → all_scalars cs ≡ true → AllByRecursion IsPrinted (encode_utf8_all cs) → AreSelf cs
printed_chars [] i a = none
printed_chars (c ∷ cs) i a =
    let j = both_true (scalar c) (all_scalars cs) i in
    more (printed_char c (encode_utf8_all cs) j.0 a) (printed_chars cs j.1 (all_behind (encode_utf8 c) (encode_utf8_all cs) a))

-- UTF-8 of such bytes is a run of characters that stand for themselves
pub feed_text : (run : List ℕ) → IsUtf8 run → AllByRecursion IsPrinted run → (k : Role) (s : List ℕ) (ps : List Part) → feed (m.chars k s None nothing ∷ ps) run ≡ Some ([], m.chars k (s ++ run) None nothing ∷ ps)
feed_text run u a k s ps =
    let self : AreSelf u.0 = printed_chars u.0 u.1.0 (subst (AllByRecursion IsPrinted) (sym u.1.1) a) in
    subst (λ z. feed (m.chars k s None nothing ∷ ps) z ≡ Some ([], m.chars k (s ++ z) None nothing ∷ ps)) u.1.1 (feed_chars self k s ps)
