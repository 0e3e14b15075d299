-- What the texts that begin with a front have in common is what was told of it, but for a word that has begun.
use Rattle.std.proofs.Common.{◌≡◌, ℕ, ◌+◌, ◌*◌, ◌<◌, Bool, true, false, cond, List, [], ◌∷◌, ◌++◌, length, refl, sym, subst, ap, ◌∙◌, arith, inl, inr, lit<, lit≤}
use Rattle.std.specs.Prelude.{Option, Some, None, option_map, codes, ◌==◌, ◌⊎◌}
use Rattle.std.specs.Char.{encode_utf8, is_ascii_hexdigit, digit_value}
use Rattle.std.proofs.lemmas.List.{append_assoc, length-append, append_cancel_left}
use Rattle.prof_grammar.specs.Event.{Event, name, number, truth, null}
use Rattle.prof_grammar.specs.Lexical as x
use Rattle.prof_grammar.specs.Grammar.{Symbol, Is, IsJson, value, items, more_items, members, member, more_members}
use Rattle.prof_grammar.specs.Grammar as g
use Rattle.prof_grammar.specs.Reading.{TellFirst, IsWordEvent, truth_word, null_word}
use Rattle.prof_grammar.specs.Machine.{Part, Class, Stage, Tail, Begun, Role, Next, class, told, step, feed, start, prefix, and_feed, begin_value, begin_member, step_mark, step_blank, step_items, step_more_items, step_members, step_more_members, step_word, step_chars, step_text, step_escape, step_hex, step_lead, step_digits, next_stage, may_end, text_byte, escaped, in_tail, tail_next, with_char, with_hex, with_byte, settled, nothing, escape, hex, lead}
use Rattle.prof_grammar.specs.Machine as m
use Rattle.prof_grammar.proofs.Language.{Goes, Lang, Follows, Spells, part, done}
use Rattle.prof_grammar.proofs.Language as l
use Rattle.prof_grammar.proofs.Begins.{Fed, fed, completed, json_from, hex_text, tail_text, a_zero, a_member}

-- ---- only the first part can be a word that means an event

abbrev QuietWord : m.Literal → Type 0
QuietWord m.a_true = ⊥
QuietWord m.a_false = ⊥
QuietWord m.a_null = ⊥
QuietWord m.a_colon = Unit {0}
QuietWord m.a_mark = Unit {0}

abbrev Quiet : List Part → Type 0
Quiet [] = Unit {0}
Quiet (m.word cs w ∷ ps) = QuietWord w × Quiet ps
Quiet (m.mark ∷ ps) = Quiet ps
Quiet (m.blank ∷ ps) = Quiet ps
Quiet (m.symbol s ∷ ps) = Quiet ps
Quiet (m.digits k s ∷ ps) = Quiet ps
Quiet (m.chars k s p c ∷ ps) = Quiet ps

abbrev Calm : List Part → Type 0
Calm [] = Unit {0}
Calm (p ∷ ps) = Quiet ps

calm : (ps : List Part) → Quiet ps → Calm ps
calm [] h = tt
calm (m.word cs w ∷ ps) h = h.1
calm (m.mark ∷ ps) h = h
calm (m.blank ∷ ps) h = h
calm (m.symbol s ∷ ps) h = h
calm (m.digits k s ∷ ps) h = h
calm (m.chars k s p c ∷ ps) h = h

abbrev CalmNext : Next → Type 0
CalmNext None = Unit {0}
CalmNext (Some n) = Calm n.1

calm_value : (c : Class) (b : ℕ) (ps : List Part) → Quiet ps → CalmNext (begin_value c b ps)
calm_value m.open_bracket b ps h = h
calm_value m.open_brace b ps h = h
calm_value m.quote b ps h = h
calm_value m.minus b ps h = h
calm_value m.zero_digit b ps h = h
calm_value m.digit b ps h = h
calm_value m.letter_t b ps h = h
calm_value m.letter_f b ps h = h
calm_value m.letter_n b ps h = h
calm_value c b ps h = tt

calm_member : (c : Class) (ps : List Part) → Quiet ps → CalmNext (begin_member c ps)
calm_member m.quote ps h = (tt, h)
calm_member c ps h = tt

calm_items : (c : Class) (b : ℕ) (ps : List Part) → Quiet ps → CalmNext (step_items c b ps)
calm_items m.close_bracket b ps h = calm ps h
calm_items c b ps h = calm_value c b (m.blank ∷ m.symbol more_items ∷ ps) h

calm_more_items : (c : Class) (ps : List Part) → Quiet ps → CalmNext (step_more_items c ps)
calm_more_items m.close_bracket ps h = calm ps h
calm_more_items m.comma ps h = h
calm_more_items c ps h = tt

calm_members : (c : Class) (ps : List Part) → Quiet ps → CalmNext (step_members c ps)
calm_members m.close_brace ps h = calm ps h
calm_members c ps h = calm_member c (m.symbol more_members ∷ ps) h

calm_more_members : (c : Class) (ps : List Part) → Quiet ps → CalmNext (step_more_members c ps)
calm_more_members m.close_brace ps h = calm ps h
calm_more_members m.comma ps h = h
calm_more_members c ps h = tt

calm_if : (t : Bool) (r s : Next) → CalmNext r → CalmNext s → CalmNext (cond t r s)
calm_if true r s h k = h
calm_if false r s h k = k

calm_word : (cs : List ℕ) (w : m.Literal) (b : ℕ) (ps : List Part) → Quiet ps → CalmNext (step_word cs w b ps)
calm_word [] w b ps h = tt
calm_word (c ∷ []) w b ps h = calm_if (b == c) (Some (m.meant w, ps)) None (calm ps h) tt
calm_word (c ∷ d ∷ cs) w b ps h = calm_if (b == c) (Some ([], m.word (d ∷ cs) w ∷ ps)) None h tt

calm_text : (k : Role) (s : List ℕ) (p : Option ℕ) (c : m.TextByte) (b : ℕ) (ps : List Part) → Quiet ps → CalmNext (step_text k s p c b ps)
calm_text k s p m.ends b ps h = calm ps h
calm_text k s p m.escapes b ps h = h
calm_text k s p m.plain b ps h = h
calm_text k s p (m.leads t) b ps h = h
calm_text k s p m.bad b ps h = tt

calm_short : (k : Role) (s : List ℕ) (p : Option ℕ) (ps : List Part) (r : Option ℕ) → Quiet ps → CalmNext (option_map (λ c. ([], with_char k s p (c ∷ []) ∷ ps)) r)
calm_short k s p ps None h = tt
calm_short k s p ps (Some c) h = h

calm_chars : (k : Role) (s : List ℕ) (p : Option ℕ) (c : Begun) (b : ℕ) (ps : List Part) → Quiet ps → CalmNext (step_chars k s p c b ps)
calm_chars k s p nothing b ps h = calm_text k s p (text_byte b) b ps h
calm_chars k s p escape b ps h = calm_if (b == 117) (Some ([], m.chars k s p (hex 3 0) ∷ ps)) _ h (calm_short k s p ps (escaped b) h)
calm_chars k s p (hex j v) b ps h = calm_if (is_ascii_hexdigit b) (Some ([], with_hex k s p j (v * 16 + digit_value b) ∷ ps)) None h tt
calm_chars k s p (lead t bytes) b ps h = calm_if (in_tail t b) (Some ([], with_byte k s p (tail_next t) (bytes ++ b ∷ []) ∷ ps)) None h tt

calm_prefix : (es : List Event) (r : Next) → CalmNext r → CalmNext (prefix es r)
calm_prefix es None h = tt
calm_prefix es (Some n) h = h

calm_digits : (o : Option Stage) (u : Bool) (s : List ℕ) (b : ℕ) (ps : List Part) (r : Next) → Quiet ps → CalmNext r → CalmNext (step_digits o u s b ps r)
calm_digits (Some k) u s b ps r h i = h
calm_digits None true s b ps r h i = calm_prefix (number s ∷ []) r i
calm_digits None false s b ps r h i = tt

calm_blank : (c : Class) (ps : List Part) (r : Next) → Quiet ps → CalmNext r → CalmNext (step_blank c ps r)
calm_blank m.space ps r h i = h
calm_blank c ps r h i = i

calm_mark : (c : Class) (ps : List Part) (r : Next) → Quiet ps → CalmNext r → CalmNext (step_mark c ps r)
calm_mark m.mark_byte ps r h i = h
calm_mark c ps r h i = i

calm_step : (ps : List Part) (c : Class) (b : ℕ) → Calm ps → CalmNext (step ps c b)
unfolding step
calm_step [] c b h = tt
calm_step (m.mark ∷ ps) c b h = calm_mark c ps (step ps c b) h (calm_step ps c b (calm ps h))
calm_step (m.blank ∷ ps) c b h = calm_blank c ps (step ps c b) h (calm_step ps c b (calm ps h))
calm_step (m.symbol value ∷ ps) c b h = calm_value c b ps h
calm_step (m.symbol items ∷ ps) c b h = calm_items c b ps h
calm_step (m.symbol more_items ∷ ps) c b h = calm_more_items c ps h
calm_step (m.symbol members ∷ ps) c b h = calm_members c ps h
calm_step (m.symbol member ∷ ps) c b h = calm_member c ps h
calm_step (m.symbol more_members ∷ ps) c b h = calm_more_members c ps h
calm_step (m.word cs w ∷ ps) c b h = calm_word cs w b ps h
calm_step (m.digits k s ∷ ps) c b h = calm_digits (next_stage k c) (may_end k) s b ps (step ps c b) h (calm_step ps c b (calm ps h))
calm_step (m.chars k s p g ∷ ps) c b h = calm_chars k s p g b ps h

calm_feed : (xs : List ℕ) (ps : List Part) → Calm ps → CalmNext (feed ps xs)
unfolding feed
calm_feed [] ps h = h
calm_feed (b ∷ bs) ps h = go (step ps (class b) b) (calm_step ps (class b) b h) (calm_feed bs)
  where
    go : (r : Next) → CalmNext r → ((qs : List Part) → Calm qs → CalmNext (feed qs bs)) → CalmNext (and_feed bs r)
    go None h k = tt
    go (Some j) h k = calm_prefix j.0 (feed j.1 bs) (k j.1 h)

-- ---- other parts can go on in two ways, or without an event

data Diverges (ps : List Part) : Type 0 where
  silent : {t : List ℕ} → Goes ps t [] → Diverges ps
  apart : {t u : List ℕ} {e f : Event} {es fs : List Event} → Goes ps t (e ∷ es) → Goes ps u (f ∷ fs) → (e ≡ f → ⊥) → Diverges ps

skip : {p : Part} {t : List ℕ} (ps : List Part) → Lang p t [] → Diverges ps → Diverges (p ∷ ps)
skip ps h (silent k) = silent (part h k)
skip ps h (apart i j d) = apart (part h i) (part h j) d

fork : {p : Part} {t u : List ℕ} {e f : Event} {es fs : List Event} (ps : List Part) → Lang p t (e ∷ es) → Lang p u (f ∷ fs) → (e ≡ f → ⊥) → Diverges (p ∷ ps)
fork ps h i d = let y = completed ps in apart (part h y.2) (part i y.2) d

longer : (s t : List ℕ) → 0 < length t → s ≡ s ++ t → ⊥
longer s t h e = let k = ap length e in let j = length-append s t in omega arith

another_name : Is member (codes "\"a\":0") (name (codes "a") ∷ number (codes "0") ∷ [])
unfolding encode_utf8
another_name = g.one_member {a = []} {b = []} {v = codes "0"} (x.string {t = codes "a"} (x.more {p = codes "a"} (x.plain {c = 97} refl (lit≤ tt) (λ e. omega (arith, e)) (λ e. omega (arith, e))) x.none)) x.none x.none a_zero x.none

fork_symbol : (s : Symbol) (ps : List Part) → Diverges (m.symbol s ∷ ps)
fork_symbol value ps = fork ps (l.is_symbol g.null_word) (l.is_symbol a_zero) (λ e. cc)
fork_symbol items ps = fork ps (l.is_symbol g.no_items) (l.is_symbol (g.some_items {v = codes "0"} {a = []} a_zero x.none g.last_item)) (λ e. cc)
fork_symbol more_items ps = fork ps (l.is_symbol g.last_item) (l.is_symbol (g.next_item {a = []} {v = codes "0"} {b = []} x.none a_zero x.none g.last_item)) (λ e. cc)
fork_symbol members ps = fork ps (l.is_symbol g.no_members) (l.is_symbol (g.some_members {m = codes "\"\":0"} a_member g.last_member)) (λ e. cc)
fork_symbol member ps = fork ps (l.is_symbol a_member) (l.is_symbol another_name) (λ e. cc)
fork_symbol more_members ps = fork ps (l.is_symbol g.last_member) (l.is_symbol (g.next_member {a = []} {m = codes "\"\":0"} x.none a_member g.last_member)) (λ e. cc)

-- a number's text and a longer one
record TwoNumbers (k : Stage) : Type 0 where
  short : List ℕ
  long : List ℕ
  one : Follows k short
  two : Follows k long
  longer : length short < length long

two_numbers : (k : Stage) → TwoNumbers k
two_numbers m.after_minus = record { short = codes "1"; long = codes "10"; one = refl; two = refl; longer = lit< tt }
two_numbers m.after_zero = record { short = []; long = codes ".0"; one = refl; two = refl; longer = lit< tt }
two_numbers m.in_whole = record { short = []; long = codes "0"; one = refl; two = refl; longer = lit< tt }
two_numbers m.after_point = record { short = codes "0"; long = codes "00"; one = refl; two = refl; longer = lit< tt }
two_numbers m.in_fraction = record { short = []; long = codes "0"; one = refl; two = refl; longer = lit< tt }
two_numbers m.after_e = record { short = codes "0"; long = codes "00"; one = refl; two = refl; longer = lit< tt }
two_numbers m.after_sign = record { short = codes "0"; long = codes "00"; one = refl; two = refl; longer = lit< tt }
two_numbers m.in_exponent = record { short = []; long = codes "0"; one = refl; two = refl; longer = lit< tt }

numbers_apart : (s t u : List ℕ) → length t < length u → number (s ++ t) ≡ number (s ++ u) → ⊥
numbers_apart s t u more e =
    let same : s ++ t ≡ s ++ u = cc in
    let sizes = ap length (append_cancel_left s t u same) in
    omega arith

fork_digits : (k : Stage) (s : List ℕ) (ps : List Part) → Diverges (m.digits k s ∷ ps)
fork_digits k s ps = let two = two_numbers k in fork ps (l.is_digits two.one) (l.is_digits two.two) (numbers_apart s two.short two.long two.longer)

-- the letter a behind the pieces
an_a : x.ArePieces (codes "a") (x.char 97 ∷ [])
unfolding encode_utf8
an_a = x.more {p = codes "a"} (x.plain {c = 97} refl (lit≤ tt) (λ e. omega (arith, e)) (λ e. omega (arith, e))) x.none

record TwoTexts (s : List ℕ) (p : Option ℕ) (c : Begun) : Type 0 where
  first : List ℕ
  second : List ℕ
  text : List ℕ
  one : Spells s p c first text
  two : Spells s p c second (text ++ encode_utf8 97)

two_texts : (s : List ℕ) (p : Option ℕ) (c : Begun) → TwoTexts s p c
two_texts s p nothing = record { first = _; second = _; text = _; one = l.pieces x.none; two = l.pieces an_a }
two_texts s p escape = record { first = _; second = _; text = _; one = l.short x.slash x.none; two = l.short x.slash an_a }
two_texts s p (hex k v) = let r = hex_text k v in record { first = _; second = _; text = _; one = l.rest_of_unit r.2 x.none; two = l.rest_of_unit r.2 an_a }
two_texts s p (lead k bytes) = let r = tail_text k in record { first = _; second = _; text = _; one = l.rest_of_char r.1 x.none; two = l.rest_of_char r.1 an_a }

told_apart : (k : Role) (s : List ℕ) → told k s ≡ told k (s ++ encode_utf8 97) → ⊥
unfolding encode_utf8
told_apart m.as_name s e = let same : s ≡ s ++ encode_utf8 97 = cc in longer s (encode_utf8 97) (lit< tt) same
told_apart m.as_value s e = let same : s ≡ s ++ encode_utf8 97 = cc in longer s (encode_utf8 97) (lit< tt) same

fork_chars : (k : Role) (s : List ℕ) (p : Option ℕ) (c : Begun) (ps : List Part) → Diverges (m.chars k s p c ∷ ps)
fork_chars k s p c ps = let two = two_texts s p c in fork ps (l.is_chars {k = k} two.one) (l.is_chars {k = k} two.two) (told_apart k two.text)

diverges : (ps : List Part) → Quiet ps → Diverges ps
diverges [] h = silent done
diverges (m.mark ∷ ps) h = skip ps (l.is_mark g.no_mark) (diverges ps h)
diverges (m.blank ∷ ps) h = skip ps (l.is_blank x.none) (diverges ps h)
diverges (m.symbol s ∷ ps) h = fork_symbol s ps
diverges (m.word cs m.a_true ∷ ps) h = absurd h.0
diverges (m.word cs m.a_false ∷ ps) h = absurd h.0
diverges (m.word cs m.a_null ∷ ps) h = absurd h.0
diverges (m.word cs m.a_colon ∷ ps) h = skip ps l.is_word (diverges ps h.1)
diverges (m.word cs m.a_mark ∷ ps) h = skip ps l.is_word (diverges ps h.1)
diverges (m.digits k s ∷ ps) h = fork_digits k s ps
diverges (m.chars k s p c ∷ ps) h = fork_chars k s p c ps

-- ---- what all ways to go have in common

abbrev All : List Part → List Event → Type 0
All ps fs = (t : List ℕ) (gs : List Event) → Goes ps t gs → (others : List Event) × (gs ≡ fs ++ others)

nothing_common : (ps : List Part) (e : Event) (r : List Event) → Diverges ps → All ps (e ∷ r) → ⊥
nothing_common ps e r (silent {t = t} h) a = let i = a t [] h in let j = i.1 in cc
nothing_common ps e r (apart {t = t} {u = u} {e = b} {f = c} {es = es} {fs = fs} h k d) a =
    let i = a t (b ∷ es) h in
    let j = a u (c ∷ fs) k in
    let p : b ≡ e = let q = i.1 in cc in
    let q : c ≡ e = let o = j.1 in cc in
    d (p ∙ sym q)

no_more : (ps : List Part) (r : List Event) → Diverges ps → All ps r → r ≡ []
no_more ps [] d a = refl
no_more ps (e ∷ r) d a = absurd (nothing_common ps e r d a)

-- behind a word that has begun comes what its letters tell, and nothing else is common
word_common : (cs : List ℕ) (w : m.Literal) (e b : Event) (r : List Event) (ps : List Part) → Quiet ps → m.meant w ≡ b ∷ [] → All (m.word cs w ∷ ps) (e ∷ r) → (e ≡ b) × (r ≡ [])
word_common cs w e b r ps q i a =
    let y = completed ps in
    let h = a (cs ++ y.0) (m.meant w ++ y.1) (part l.is_word y.2) in
    let first : b ∷ y.1 ≡ e ∷ (r ++ h.0) = ap (λ z. z ++ y.1) (sym i) ∙ h.1 in
    let same : e ≡ b = cc in (
      same,
      no_more ps r (diverges ps q) (λ t gs k.
          let j = a (cs ++ t) (m.meant w ++ gs) (part l.is_word k) in
          let rest : b ∷ gs ≡ e ∷ (r ++ j.0) = ap (λ z. z ++ gs) (sym i) ∙ j.1 in
          (j.0, cc)),
    )

abbrev WordOnly : Event → List Event → Type 0
WordOnly e r = IsWordEvent e × (r ≡ [])

word_only : (e b : Event) (r : List Event) → IsWordEvent b → (e ≡ b) × (r ≡ []) → WordOnly e r
word_only e b r i h = (subst IsWordEvent (sym h.0) i, h.1)

common : (ps : List Part) (e : Event) (r : List Event) → Calm ps → All ps (e ∷ r) → WordOnly e r
common (m.word cs m.a_true ∷ ps) e r h a = word_only e (truth true) r truth_word (word_common cs m.a_true e (truth true) r ps h refl a)
common (m.word cs m.a_false ∷ ps) e r h a = word_only e (truth false) r truth_word (word_common cs m.a_false e (truth false) r ps h refl a)
common (m.word cs m.a_null ∷ ps) e r h a = word_only e null r null_word (word_common cs m.a_null e null r ps h refl a)
common (m.word cs m.a_colon ∷ ps) e r h a = absurd (nothing_common (m.word cs m.a_colon ∷ ps) e r (diverges (m.word cs m.a_colon ∷ ps) (tt, h)) a)
common (m.word cs m.a_mark ∷ ps) e r h a = absurd (nothing_common (m.word cs m.a_mark ∷ ps) e r (diverges (m.word cs m.a_mark ∷ ps) (tt, h)) a)
common [] e r h a = absurd (nothing_common [] e r (diverges [] tt) a)
common (m.mark ∷ ps) e r h a = absurd (nothing_common (m.mark ∷ ps) e r (diverges (m.mark ∷ ps) h) a)
common (m.blank ∷ ps) e r h a = absurd (nothing_common (m.blank ∷ ps) e r (diverges (m.blank ∷ ps) h) a)
common (m.symbol s ∷ ps) e r h a = absurd (nothing_common (m.symbol s ∷ ps) e r (diverges (m.symbol s ∷ ps) h) a)
common (m.digits k s ∷ ps) e r h a = absurd (nothing_common (m.digits k s ∷ ps) e r (diverges (m.digits k s ∷ ps) h) a)
common (m.chars k s p c ∷ ps) e r h a = absurd (nothing_common (m.chars k s p c ∷ ps) e r (diverges (m.chars k s p c ∷ ps) h) a)

-- of two lists that begin one list, the second begins the first, or goes further
data Prefixes (es fs : List Event) : Type 0 where
  within : (others : List Event) → es ≡ fs ++ others → Prefixes es fs
  further : (e : Event) (r : List Event) → fs ≡ es ++ e ∷ r → Prefixes es fs

prefixes_on : {d b : Event} {es fs : List Event} → d ≡ b → Prefixes es fs → Prefixes (d ∷ es) (b ∷ fs)
prefixes_on p (within others e) = within others (let q = p in cc)
prefixes_on p (further b r e) = further b r (let q = p in cc)

prefixes : (es fs a b : List Event) → es ++ a ≡ fs ++ b → Prefixes es fs
prefixes es [] a b e = within es refl
prefixes [] (d ∷ fs) a b e = further d fs refl
prefixes (c ∷ es) (d ∷ fs) a b e = let p : c ≡ d = cc in let q : es ++ a ≡ fs ++ b = cc in prefixes_on p (prefixes es fs a b q)

pub most : (front : List ℕ) (es : List Event) (ps : List Part) → feed start front ≡ Some (es, ps) → (fs : List Event) → TellFirst front fs →
    ((others : List Event) × (es ≡ fs ++ others)) ⊎ ((e : Event) × IsWordEvent e × (fs ≡ es ++ e ∷ []))
most front es ps e fs h =
    let f : Fed start front (Some (es, ps)) = subst (Fed start front) e (fed front start) in
    let y = completed ps in
    let i = h y.0 (es ++ y.1) (json_from (front ++ y.0) (es ++ y.1) (f y.0 y.1 y.2)) in
    go f (prefixes es fs y.1 i.0 i.1)
  where
    quiet : CalmNext (Some (es, ps))
    quiet = subst CalmNext e (calm_feed front start tt)

    go : Fed start front (Some (es, ps)) → Prefixes es fs → ((others : List Event) × (es ≡ fs ++ others)) ⊎ ((b : Event) × IsWordEvent b × (fs ≡ es ++ b ∷ []))
    go f (within others p) = inl (others, p)
    go f (further b r p) =
        let w : WordOnly b r = common ps b r quiet (λ t gs k.
        let j = h t (es ++ gs) (json_from (front ++ t) (es ++ gs) (f t gs k)) in
        (j.0, append_cancel_left es gs ((b ∷ r) ++ j.0) (j.1 ∙ ap (λ z. z ++ j.0) p ∙ append_assoc es (b ∷ r) j.0))) in
        inr (b, w.0, p ∙ ap (λ z. es ++ b ∷ z) w.1)
