-- What the machine takes is in the grammar.
use Rattle.std.proofs.Common.{◌≡◌, ℕ, zero, suc, ◌+◌, ◌*◌, ◌≤◌, Bool, true, false, cond, List, [], ◌∷◌, ◌++◌, refl, sym, subst}
use Rattle.std.specs.Prelude.{◌==◌, Option, Some, None, option_map, option_and_then, codes}
use Rattle.std.specs.Char.{is_ascii_hexdigit, digit_value}
use Rattle.std.proofs.lemmas.List.{append-nil, append_assoc}
use Rattle.prof_grammar.specs.Event.{Event, array_start, array_end, object_start, object_end, number, name}
use Rattle.prof_grammar.specs.Lexical.{IsBlank, IsSpace, IsShort}
use Rattle.prof_grammar.specs.Lexical as x
use Rattle.prof_grammar.specs.Grammar.{Symbol, Is, value, items, more_items, members, member, more_members}
use Rattle.prof_grammar.specs.Grammar as g
use Rattle.prof_grammar.specs.Machine.{Part, Class, Role, Stage, Tail, Begun, TextByte, class, told, Next, step, finish, run, start, prefix, begin_value, begin_member, after_name, as_name, as_value, step_items, step_more_items, step_members, step_more_members, step_word, step_chars, step_text, step_escape, step_hex, step_lead, step_digits, next_stage, may_end, escaped, in_tail, tail_next, settled, add_unit, with_byte, with_hex, with_char, nothing, escape, hex, lead, give}
use Rattle.prof_grammar.specs.Machine as m
use Rattle.prof_grammar.proofs.Language.{Lang, Goes, part, done, Fits, class_fits, TextFits, text_fits, Spells, Follows, IfNext, eqb_is}
use Rattle.prof_grammar.proofs.Language as l
use Rattle.prof_grammar.proofs.Numbers.{number_zero, number_digit, number_minus}
use Rattle.prof_grammar.proofs.Spelled.{spelled_is}
use Rattle.prof_grammar.proofs.Strings.{add_byte, begin_char, more_char, end_char, begin_escape, begin_hex, more_hex, end_hex, end_short, hexdigit_is, escaped_is, IfShort}

-- What is to come behind the byte, with the byte before it, was to come before.
abbrev pub Sound : List Part → ℕ → Next → Type 0
Sound ps b None = Unit {0}
Sound ps b (Some n) = (t : List ℕ) (fs : List Event) → Goes n.1 t fs → Goes ps (b ∷ t) (n.0 ++ fs)

-- each way to go by qs is a way to go by ps
abbrev Covers : List Part → List Part → Type 0
Covers ps qs = (t : List ℕ) (fs : List Event) → Goes qs t fs → Goes ps t fs

covered : (ps qs : List Part) (b : ℕ) (r : Next) → Covers ps qs → Sound qs b r → Sound ps b r
covered ps qs b None k s = tt
covered ps qs b (Some n) k s = λ t fs h. k _ _ (s t fs h)

-- both sides with the lists joined to the right
open_array : {ps : List Part} (t : List ℕ) (fs : List Event) → Goes (m.blank ∷ m.symbol items ∷ ps) t fs → Goes (m.symbol value ∷ ps) (91 ∷ t) (array_start ∷ fs)
open_array t fs (part (l.is_blank a) (part (l.is_symbol i) r)) = simp append_assoc at (part (l.is_symbol (g.array a i)) r)

open_object : {ps : List Part} (t : List ℕ) (fs : List Event) → Goes (m.blank ∷ m.symbol members ∷ ps) t fs → Goes (m.symbol value ∷ ps) (123 ∷ t) (object_start ∷ fs)
open_object t fs (part (l.is_blank a) (part (l.is_symbol i) r)) = simp append_assoc at (part (l.is_symbol (g.object a i)) r)

-- a string that was spelled is one of the grammar
spelled_string : {t y : List ℕ} → Spells [] None nothing t y → x.IsString (34 ∷ t) y
spelled_string (l.pieces {t = t} {ms = ms} a) = subst (x.IsString (34 ∷ t ++ 34 ∷ [])) (sym (spelled_is ms)) (x.string a)

open_string : {ps : List Part} (t : List ℕ) (fs : List Event) → Goes (m.chars as_value [] None nothing ∷ ps) t fs → Goes (m.symbol value ∷ ps) (34 ∷ t) fs
open_string t fs (part (l.is_chars s) r) = part (l.is_symbol (g.string (spelled_string s))) r

open_minus : {ps : List Part} (t : List ℕ) (fs : List Event) → Goes (m.digits m.after_minus (45 ∷ []) ∷ ps) t fs → Goes (m.symbol value ∷ ps) (45 ∷ t) fs
open_minus t fs (part (l.is_digits {t = d} h) r) = part (l.is_symbol (g.numeral (number_minus d h).1)) r

open_zero : {ps : List Part} (t : List ℕ) (fs : List Event) → Goes (m.digits m.after_zero (48 ∷ []) ∷ ps) t fs → Goes (m.symbol value ∷ ps) (48 ∷ t) fs
open_zero t fs (part (l.is_digits {t = d} h) r) = part (l.is_symbol (g.numeral (number_zero d h).1)) r

open_digits : {ps : List Part} {b : ℕ} (t : List ℕ) (fs : List Event) → 49 ≤ b → b ≤ 57 → Goes (m.digits m.in_whole (b ∷ []) ∷ ps) t fs → Goes (m.symbol value ∷ ps) (b ∷ t) fs
open_digits {b = b} t fs lo hi (part (l.is_digits {t = d} h) r) = part (l.is_symbol (g.numeral (number_digit b d lo hi h).1)) r

open_true : {ps : List Part} (t : List ℕ) (fs : List Event) → Goes (m.word (codes "rue") m.a_true ∷ ps) t fs → Goes (m.symbol value ∷ ps) (116 ∷ t) fs
open_true t fs (part l.is_word r) = part (l.is_symbol g.true_word) r

open_false : {ps : List Part} (t : List ℕ) (fs : List Event) → Goes (m.word (codes "alse") m.a_false ∷ ps) t fs → Goes (m.symbol value ∷ ps) (102 ∷ t) fs
open_false t fs (part l.is_word r) = part (l.is_symbol g.false_word) r

open_null : {ps : List Part} (t : List ℕ) (fs : List Event) → Goes (m.word (codes "ull") m.a_null ∷ ps) t fs → Goes (m.symbol value ∷ ps) (110 ∷ t) fs
open_null t fs (part l.is_word r) = part (l.is_symbol g.null_word) r

sound_value : {b : ℕ} {c : Class} (ps : List Part) → Fits b c → Sound (m.symbol value ∷ ps) b (begin_value c b ps)
sound_value ps l.open_bracket = open_array
sound_value ps l.open_brace = open_object
sound_value ps l.quote = open_string
sound_value ps l.minus = open_minus
sound_value ps l.zero_digit = open_zero
sound_value ps (l.digit lo hi) = λ t fs h. open_digits t fs lo hi h
sound_value ps l.letter_t = open_true
sound_value ps l.letter_f = open_false
sound_value ps l.letter_n = open_null
sound_value ps f = tt

join_member : (k a b v c r : List ℕ) → (k ++ (a ++ (58 ∷ b ++ (v ++ c)))) ++ r ≡ k ++ (a ++ (58 ∷ b ++ (v ++ (c ++ r))))
join_member k a b v c r = simp append_assoc

open_name : {ps : List Part} (t : List ℕ) (fs : List Event) → Goes (m.chars as_name [] None nothing ∷ after_name ps) t fs → Goes (m.symbol member ∷ ps) (34 ∷ t) fs
open_name {ps = ps} t fs (part (l.is_chars {t = n} {x = y} s) (part (l.is_blank {t = a} ba) (part l.is_word (part (l.is_blank {t = b} bb) (part (l.is_symbol {t = v} {es = es} iv) (part {r = r} {fs = gs} (l.is_blank {t = c} bc) h)))))) =
    subst (λ z. Goes (m.symbol member ∷ ps) z (name y ∷ es ++ gs)) (join_member (34 ∷ n) a b v c r) (part (l.is_symbol (g.one_member (spelled_string s) ba bb iv bc)) h)

sound_member : {b : ℕ} {c : Class} (ps : List Part) → Fits b c → Sound (m.symbol member ∷ ps) b (begin_member c ps)
sound_member ps l.quote = open_name
sound_member ps f = tt

items_from : {ps : List Part} (t : List ℕ) (fs : List Event) → Goes (m.symbol value ∷ m.blank ∷ m.symbol more_items ∷ ps) t fs → Goes (m.symbol items ∷ ps) t fs
items_from t fs (part (l.is_symbol v) (part (l.is_blank a) (part (l.is_symbol i) r))) = simp append_assoc at (part (l.is_symbol (g.some_items v a i)) r)

close_items : {ps : List Part} (t : List ℕ) (fs : List Event) → Goes ps t fs → Goes (m.symbol items ∷ ps) (93 ∷ t) (array_end ∷ fs)
close_items t fs r = part (l.is_symbol g.no_items) r

sound_items : {b : ℕ} {c : Class} (ps : List Part) → Fits b c → Sound (m.symbol items ∷ ps) b (step_items c b ps)
sound_items ps l.close_bracket = close_items
sound_items {b = b} {c = c} ps f = covered (m.symbol items ∷ ps) (m.symbol value ∷ m.blank ∷ m.symbol more_items ∷ ps) b (begin_value c b (m.blank ∷ m.symbol more_items ∷ ps)) items_from (sound_value (m.blank ∷ m.symbol more_items ∷ ps) f)

close_more : {ps : List Part} (t : List ℕ) (fs : List Event) → Goes ps t fs → Goes (m.symbol more_items ∷ ps) (93 ∷ t) (array_end ∷ fs)
close_more t fs r = part (l.is_symbol g.last_item) r

next_item : {ps : List Part} (t : List ℕ) (fs : List Event) → Goes (m.blank ∷ m.symbol value ∷ m.blank ∷ m.symbol more_items ∷ ps) t fs → Goes (m.symbol more_items ∷ ps) (44 ∷ t) fs
next_item t fs (part (l.is_blank a) (part (l.is_symbol v) (part (l.is_blank b) (part (l.is_symbol i) r)))) = simp append_assoc at (part (l.is_symbol (g.next_item a v b i)) r)

sound_more_items : {b : ℕ} {c : Class} (ps : List Part) → Fits b c → Sound (m.symbol more_items ∷ ps) b (step_more_items c ps)
sound_more_items ps l.close_bracket = close_more
sound_more_items ps l.comma = next_item
sound_more_items ps f = tt

members_from : {ps : List Part} (t : List ℕ) (fs : List Event) → Goes (m.symbol member ∷ m.symbol more_members ∷ ps) t fs → Goes (m.symbol members ∷ ps) t fs
members_from t fs (part (l.is_symbol v) (part (l.is_symbol i) r)) = simp append_assoc at (part (l.is_symbol (g.some_members v i)) r)

close_members : {ps : List Part} (t : List ℕ) (fs : List Event) → Goes ps t fs → Goes (m.symbol members ∷ ps) (125 ∷ t) (object_end ∷ fs)
close_members t fs r = part (l.is_symbol g.no_members) r

sound_members : {b : ℕ} {c : Class} (ps : List Part) → Fits b c → Sound (m.symbol members ∷ ps) b (step_members c ps)
sound_members ps l.close_brace = close_members
sound_members {b = b} {c = c} ps f = covered (m.symbol members ∷ ps) (m.symbol member ∷ m.symbol more_members ∷ ps) b (begin_member c (m.symbol more_members ∷ ps)) members_from (sound_member (m.symbol more_members ∷ ps) f)

close_more_members : {ps : List Part} (t : List ℕ) (fs : List Event) → Goes ps t fs → Goes (m.symbol more_members ∷ ps) (125 ∷ t) (object_end ∷ fs)
close_more_members t fs r = part (l.is_symbol g.last_member) r

next_member : {ps : List Part} (t : List ℕ) (fs : List Event) → Goes (m.blank ∷ m.symbol member ∷ m.symbol more_members ∷ ps) t fs → Goes (m.symbol more_members ∷ ps) (44 ∷ t) fs
next_member t fs (part (l.is_blank a) (part (l.is_symbol v) (part (l.is_symbol i) r))) = simp append_assoc at (part (l.is_symbol (g.next_member a v i)) r)

sound_more_members : {b : ℕ} {c : Class} (ps : List Part) → Fits b c → Sound (m.symbol more_members ∷ ps) b (step_more_members c ps)
sound_more_members ps l.close_brace = close_more_members
sound_more_members ps l.comma = next_member
sound_more_members ps f = tt

-- a byte that is this one, or none
sound_if : (ps : List Part) (b c : ℕ) (r : Next) → Sound ps c r → Sound ps b (cond (b == c) r None)
sound_if ps b c r s = go (b == c) refl
  where
    go : (t : Bool) → (b == c) ≡ t → Sound ps b (cond t r None)
    go true e = subst (λ x. Sound ps x r) (sym (eqb_is b c e)) s
    go false e = tt

last_letter : {ps : List Part} {c : ℕ} {es : m.Literal} (t : List ℕ) (fs : List Event) → Goes ps t fs → Goes (m.word (c ∷ []) es ∷ ps) (c ∷ t) (m.meant es ++ fs)
last_letter t fs r = part l.is_word r

letter : {ps : List Part} {c d : ℕ} {cs : List ℕ} {es : m.Literal} (t : List ℕ) (fs : List Event) → Goes (m.word (d ∷ cs) es ∷ ps) t fs → Goes (m.word (c ∷ d ∷ cs) es ∷ ps) (c ∷ t) fs
letter t fs (part l.is_word r) = part l.is_word r

sound_word : (cs : List ℕ) (es : m.Literal) (b : ℕ) (ps : List Part) → Sound (m.word cs es ∷ ps) b (step_word cs es b ps)
sound_word [] es b ps = tt
sound_word (c ∷ []) es b ps = sound_if _ b c _ last_letter
sound_word (c ∷ d ∷ cs) es b ps = sound_if _ b c _ letter

-- ---- strings

through : {ps : List Part} {k : Role} {s s' : List ℕ} {p p' : Option ℕ} {g g' : Begun} {b : ℕ} → ((t y : List ℕ) → Spells s' p' g' t y → Spells s p g (b ∷ t) y) →
    (t : List ℕ) (fs : List Event) → Goes (m.chars k s' p' g' ∷ ps) t fs → Goes (m.chars k s p g ∷ ps) (b ∷ t) fs
through f t fs (part (l.is_chars s) r) = part (l.is_chars (f _ _ s)) r

end_string : {ps : List Part} {k : Role} {s : List ℕ} {p : Option ℕ} (t : List ℕ) (fs : List Event) → Goes ps t fs → Goes (m.chars k s p nothing ∷ ps) (34 ∷ t) (told k (settled s p) ∷ fs)
end_string t fs r = part (l.is_chars (l.pieces x.none)) r

sound_text : {b : ℕ} {c : TextByte} (k : Role) (s : List ℕ) (p : Option ℕ) (ps : List Part) → TextFits b c → Sound (m.chars k s p nothing ∷ ps) b (step_text k s p c b ps)
sound_text k s p ps l.ends = end_string
sound_text k s p ps l.escapes = through begin_escape
sound_text k s p ps (l.plain lo hi q e) = through (add_byte lo hi q e)
sound_text k s p ps (l.leads_two lo hi) = through (begin_char (l.leads_two lo hi))
sound_text k s p ps l.leads_e0 = through (begin_char l.leads_e0)
sound_text k s p ps l.leads_ed = through (begin_char l.leads_ed)
sound_text k s p ps (l.leads_three lo hi e) = through (begin_char (l.leads_three lo hi e))
sound_text k s p ps l.leads_f0 = through (begin_char l.leads_f0)
sound_text k s p ps (l.leads_four lo hi) = through (begin_char (l.leads_four lo hi))
sound_text k s p ps l.leads_f4 = through (begin_char l.leads_f4)
sound_text k s p ps l.bad = tt

sound_short : (k : Role) (s : List ℕ) (p : Option ℕ) (b : ℕ) (ps : List Part) (r : Option ℕ) → IfShort b r → Sound (m.chars k s p escape ∷ ps) b (option_map (λ c. ([], with_char k s p (c ∷ []) ∷ ps)) r)
sound_short k s p b ps None h = tt
sound_short k s p b ps (Some c) h = through (end_short h.0 h.1)

sound_escape : (k : Role) (s : List ℕ) (p : Option ℕ) (b : ℕ) (ps : List Part) → Sound (m.chars k s p escape ∷ ps) b (step_escape k s p b ps)
sound_escape k s p b ps = go (b == 117) refl
  where
    go : (u : Bool) → (b == 117) ≡ u → Sound (m.chars k s p escape ∷ ps) b (cond u (Some ([], m.chars k s p (hex 3 0) ∷ ps)) (option_map (λ c. ([], with_char k s p (c ∷ []) ∷ ps)) (escaped b)))
    go true e = subst (λ z. Sound (m.chars k s p escape ∷ ps) z (Some ([], m.chars k s p (hex 3 0) ∷ ps))) (sym (eqb_is b 117 e)) (through begin_hex)
    go false e = sound_short k s p b ps (escaped b) (escaped_is b)

sound_hex : (k : Role) (s : List ℕ) (p : Option ℕ) (n v b : ℕ) (ps : List Part) → Sound (m.chars k s p (hex n v) ∷ ps) b (step_hex k s p n v b ps)
sound_hex k s p n v b ps = go (is_ascii_hexdigit b) refl
  where
    digit : (n : ℕ) → is_ascii_hexdigit b ≡ true → Sound (m.chars k s p (hex n v) ∷ ps) b (Some ([], with_hex k s p n (v * 16 + digit_value b) ∷ ps))
    digit zero e = through (end_hex (hexdigit_is b e))
    digit (suc n) e = through (more_hex (hexdigit_is b e))

    go : (u : Bool) → is_ascii_hexdigit b ≡ u → Sound (m.chars k s p (hex n v) ∷ ps) b (cond u (Some ([], with_hex k s p n (v * 16 + digit_value b) ∷ ps)) None)
    go true e = digit n e
    go false e = tt

sound_lead : (k : Role) (s : List ℕ) (p : Option ℕ) (c : Tail) (bytes : List ℕ) (b : ℕ) (ps : List Part) → Sound (m.chars k s p (lead c bytes) ∷ ps) b (step_lead k s p c bytes b ps)
sound_lead k s p c bytes b ps = go (in_tail c b) refl
  where
    byte : (r : Option Tail) → tail_next c ≡ r → in_tail c b ≡ true → Sound (m.chars k s p (lead c bytes) ∷ ps) b (Some ([], with_byte k s p r (bytes ++ b ∷ []) ∷ ps))
    byte None n e = through (end_char e n)
    byte (Some j) n e = through (more_char e n)

    go : (u : Bool) → in_tail c b ≡ u → Sound (m.chars k s p (lead c bytes) ∷ ps) b (cond u (Some ([], with_byte k s p (tail_next c) (bytes ++ b ∷ []) ∷ ps)) None)
    go true e = byte (tail_next c) refl e
    go false e = tt

sound_chars : (k : Role) (s : List ℕ) (p : Option ℕ) (g : Begun) (b : ℕ) (ps : List Part) → Sound (m.chars k s p g ∷ ps) b (step_chars k s p g b ps)
sound_chars k s p nothing b ps = sound_text k s p ps (text_fits b)
sound_chars k s p escape b ps = sound_escape k s p b ps
sound_chars k s p (hex n v) b ps = sound_hex k s p n v b ps
sound_chars k s p (lead c bytes) b ps = sound_lead k s p c bytes b ps

-- ---- numbers, blanks and the mark

-- a part that is over before the byte
sound_prefix : {p : Part} {es : List Event} (ps : List Part) (b : ℕ) (r : Next) → Lang p [] es → Sound ps b r → Sound (p ∷ ps) b (prefix es r)
sound_prefix ps b None h s = tt
sound_prefix {es = es} ps b (Some n) h s = λ t fs k. rw (append_assoc es n.0 fs) (part h (s t fs k))

no_digits : (n : Stage) (s : List ℕ) → may_end n ≡ true → Lang (m.digits n s) [] (number s ∷ [])
no_digits n s e = rw (append-nil s) at (l.is_digits {s = s} {t = []} e)

more_digits : {ps : List Part} {n n' : Stage} {s : List ℕ} {b : ℕ} (t : List ℕ) (fs : List Event) → next_stage n (class b) ≡ Some n' → Goes (m.digits n' (s ++ b ∷ []) ∷ ps) t fs → Goes (m.digits n s ∷ ps) (b ∷ t) fs
more_digits {ps = ps} {n = n} {s = s} {b = b} t fs e (part {r = r} {fs = gs} (l.is_digits {t = d} h) k) =
    let f : Follows n (b ∷ d) = subst (λ z. IfNext z (λ j. Follows j d)) (sym e) h in
    subst (λ z. Goes (m.digits n s ∷ ps) (b ∷ (d ++ r)) (number z ∷ gs)) (sym (append_assoc s (b ∷ []) d)) (part (l.is_digits {s = s} f) k)

sound_digits : (n : Stage) (s : List ℕ) (b : ℕ) (ps : List Part) (r : Next) → Sound ps b r → Sound (m.digits n s ∷ ps) b (step_digits (next_stage n (class b)) (may_end n) s b ps r)
sound_digits n s b ps r h = go (next_stage n (class b)) (may_end n) refl refl
  where
    go : (o : Option Stage) (u : Bool) → next_stage n (class b) ≡ o → may_end n ≡ u → Sound (m.digits n s ∷ ps) b (step_digits o u s b ps r)
    go (Some j) u e f = λ t fs k. more_digits t fs e k
    go None true e f = sound_prefix ps b r (no_digits n s f) h
    go None false e f = tt

more_blank : {ps : List Part} {b : ℕ} (t : List ℕ) (fs : List Event) → IsSpace b → Goes (m.blank ∷ ps) t fs → Goes (m.blank ∷ ps) (b ∷ t) fs
more_blank t fs s (part (l.is_blank a) r) = part (l.is_blank (x.more s a)) r

no_blank : {ps : List Part} (t : List ℕ) (fs : List Event) → Goes ps t fs → Goes (m.blank ∷ ps) t fs
no_blank t fs r = part (l.is_blank x.none) r

sound_blank : {b : ℕ} {c : Class} (ps : List Part) → Fits b c → (r : Next) → Sound ps b r → Sound (m.blank ∷ ps) b (m.step_blank c ps r)
sound_blank ps (l.space s) r h = λ t fs k. more_blank t fs s k
sound_blank {b = b} ps f r h = covered (m.blank ∷ ps) ps b r no_blank h

no_mark : {ps : List Part} (t : List ℕ) (fs : List Event) → Goes ps t fs → Goes (m.mark ∷ ps) t fs
no_mark t fs r = part (l.is_mark g.no_mark) r

some_mark : {ps : List Part} (t : List ℕ) (fs : List Event) → Goes (m.word (0xBB ∷ 0xBF ∷ []) m.a_mark ∷ ps) t fs → Goes (m.mark ∷ ps) (0xEF ∷ t) fs
some_mark t fs (part l.is_word r) = part (l.is_mark g.byte_order_mark) r

sound_mark : {b : ℕ} {c : Class} (ps : List Part) → Fits b c → (r : Next) → Sound ps b r → Sound (m.mark ∷ ps) b (m.step_mark c ps r)
sound_mark ps l.mark_byte r h = some_mark
sound_mark {b = b} ps f r h = covered (m.mark ∷ ps) ps b r no_mark h

pub sound : (ps : List Part) (b : ℕ) → Sound ps b (step ps (class b) b)
unfolding step
sound [] b = tt
sound (m.mark ∷ ps) b = sound_mark ps (class_fits b) (step ps (class b) b) (sound ps b)
sound (m.blank ∷ ps) b = sound_blank ps (class_fits b) (step ps (class b) b) (sound ps b)
sound (m.symbol value ∷ ps) b = sound_value ps (class_fits b)
sound (m.symbol items ∷ ps) b = sound_items ps (class_fits b)
sound (m.symbol more_items ∷ ps) b = sound_more_items ps (class_fits b)
sound (m.symbol members ∷ ps) b = sound_members ps (class_fits b)
sound (m.symbol member ∷ ps) b = sound_member ps (class_fits b)
sound (m.symbol more_members ∷ ps) b = sound_more_members ps (class_fits b)
sound (m.word cs w ∷ ps) b = sound_word cs w b ps
sound (m.digits n s ∷ ps) b = sound_digits n s b ps (step ps (class b) b) (sound ps b)
sound (m.chars k s p g ∷ ps) b = sound_chars k s p g b ps

-- the events of a text that was taken whole
abbrev pub Ended : List Part → List ℕ → Option (List Event) → Type 0
Ended ps t None = Unit {0}
Ended ps t (Some es) = Goes ps t es

ended_behind : {p : Part} {es : List Event} (ps : List Part) (r : Option (List Event)) → Lang p [] es → Ended ps [] r → Ended (p ∷ ps) [] (give es r)
ended_behind ps None h e = tt
ended_behind ps (Some fs) h e = part h e

skipped_ended : {p : Part} (ps : List Part) (r : Option (List Event)) → Lang p [] [] → Ended ps [] r → Ended (p ∷ ps) [] r
skipped_ended ps None h e = tt
skipped_ended ps (Some fs) h e = part h e

digits_ended : (n : Stage) (s : List ℕ) (ps : List Part) (r : Option (List Event)) → Ended ps [] r → Ended (m.digits n s ∷ ps) [] (cond (may_end n) (give (number s ∷ []) r) None)
digits_ended n s ps r h = go (may_end n) refl
  where
    go : (u : Bool) → may_end n ≡ u → Ended (m.digits n s ∷ ps) [] (cond u (give (number s ∷ []) r) None)
    go true e = ended_behind ps r (no_digits n s e) h
    go false e = tt

pub finish_sound : (ps : List Part) → Ended ps [] (finish ps)
unfolding finish
finish_sound [] = done
finish_sound (m.mark ∷ ps) = skipped_ended ps (finish ps) (l.is_mark g.no_mark) (finish_sound ps)
finish_sound (m.blank ∷ ps) = skipped_ended ps (finish ps) (l.is_blank x.none) (finish_sound ps)
finish_sound (m.symbol s ∷ ps) = tt
finish_sound (m.word cs w ∷ ps) = tt
finish_sound (m.digits n s ∷ ps) = digits_ended n s ps (finish ps) (finish_sound ps)
finish_sound (m.chars k s p g ∷ ps) = tt

give_ended : (ps qs : List Part) (b : ℕ) (bs : List ℕ) (es : List Event) (r : Option (List Event)) → Sound ps b (Some (es, qs)) → Ended qs bs r → Ended ps (b ∷ bs) (give es r)
give_ended ps qs b bs es None s e = tt
give_ended ps qs b bs es (Some fs) s e = s bs fs e

pub run_sound : (bs : List ℕ) (ps : List Part) → Ended ps bs (run ps bs)
unfolding run
run_sound [] ps = finish_sound ps
run_sound (b ∷ bs) ps = go (step ps (class b) b) (sound ps b) (run_sound bs)
  where
    go : (r : Next) → Sound ps b r → ((qs : List Part) → Ended qs bs (run qs bs)) → Ended ps (b ∷ bs) (option_and_then (λ n. give n.0 (run n.1 bs)) r)
    go None s h = tt
    go (Some n) s h = give_ended ps n.1 b bs n.0 (run n.1 bs) s (h n.1)
