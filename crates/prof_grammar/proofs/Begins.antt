-- The machine goes on exactly as long as the bytes begin a JSON text.
use Rattle.std.proofs.Common.{◌≡◌, ℕ, zero, suc, ◌+◌, ◌*◌, List, [], ◌∷◌, ◌++◌, refl, sym, ap, ◌∙◌, lit≤, inl}
use Rattle.std.specs.Prelude.{Option, Some, None, IsSome, codes, ◌↔◌}
use Rattle.std.specs.Char.{digit_value}
use Rattle.std.proofs.lemmas.List.{append-nil, append_assoc}
use Rattle.prof_time.specs.Numeral as n
use Rattle.prof_grammar.specs.Event.{Event, number, name}
use Rattle.prof_grammar.specs.Lexical as x
use Rattle.prof_grammar.specs.Grammar.{Symbol, Is, IsJson, BeginsJson, value, items, more_items, members, member, more_members}
use Rattle.prof_grammar.specs.Grammar as g
use Rattle.prof_grammar.specs.Machine.{Part, Class, Stage, Tail, Begun, Next, class, told, step, run, feed, start, prefix, give, nothing, escape, hex, lead}
use Rattle.prof_grammar.specs.Machine as m
use Rattle.prof_grammar.proofs.Language.{Lang, Goes, Follows, IsHex, IsTail, Spells, part, done}
use Rattle.prof_grammar.proofs.Language as l
use Rattle.prof_grammar.proofs.Sound.{Sound, sound}
use Rattle.prof_grammar.proofs.Complete.{and_run, give_nil, and_run-prefix, json_run}

-- ---- each list of parts can be completed

pub a_zero : Is value (codes "0") (number (codes "0") ∷ [])
a_zero = g.numeral (n.number n.no_sign n.zero_int n.no_fraction n.no_exponent)

pub a_member : Is member (codes "\"\":0") (name [] ∷ number (codes "0") ∷ [])
a_member = g.one_member {a = []} {b = []} {v = codes "0"} (x.string x.none) x.none x.none a_zero x.none

unfoldable pub symbol_text : (s : Symbol) → (t : List ℕ) × (es : List Event) × Is s t es
symbol_text value = (_, _, a_zero)
symbol_text items = (_, _, g.no_items)
symbol_text more_items = (_, _, g.last_item)
symbol_text members = (_, _, g.no_members)
symbol_text member = (_, _, a_member)
symbol_text more_members = (_, _, g.last_member)

pub digits_text : (k : Stage) → (t : List ℕ) × Follows k t
digits_text m.after_minus = (codes "0", refl)
digits_text m.after_zero = ([], refl)
digits_text m.in_whole = ([], refl)
digits_text m.after_point = (codes "0", refl)
digits_text m.in_fraction = ([], refl)
digits_text m.after_e = (codes "0", refl)
digits_text m.after_sign = (codes "0", refl)
digits_text m.in_exponent = ([], refl)

pub hex_text : (k v : ℕ) → (ds : List ℕ) × (u : ℕ) × IsHex k v ds u
hex_text zero v = (_, _, l.last {d = 48} (inl (inl (lit≤ tt, lit≤ tt))))
hex_text (suc k) v = let r = hex_text k (v * 16 + digit_value 48) in (48 ∷ r.0, r.1, l.more {d = 48} (inl (inl (lit≤ tt, lit≤ tt))) r.2)

pub one_tail : IsTail m.one_more (0x80 ∷ [])
one_tail = l.last refl refl

pub two_tail : IsTail m.two_more (0x80 ∷ 0x80 ∷ [])
two_tail = l.more refl refl one_tail

pub tail_text : (k : Tail) → (t : List ℕ) × IsTail k t
tail_text m.one_more = (_, one_tail)
tail_text m.two_more = (_, two_tail)
tail_text m.three_more = (0x80 ∷ _, l.more refl refl two_tail)
tail_text m.behind_e0 = (0xA0 ∷ _, l.more refl refl one_tail)
tail_text m.behind_ed = (0x80 ∷ _, l.more refl refl one_tail)
tail_text m.behind_f0 = (0x90 ∷ _, l.more refl refl two_tail)
tail_text m.behind_f4 = (0x80 ∷ _, l.more refl refl two_tail)

pub chars_text : (s : List ℕ) (p : Option ℕ) (c : Begun) → (t : List ℕ) × (y : List ℕ) × Spells s p c t y
chars_text s p nothing = (_, _, l.pieces x.none)
chars_text s p escape = (_, _, l.short x.slash x.none)
chars_text s p (hex k v) = let r = hex_text k v in (_, _, l.rest_of_unit r.2 x.none)
chars_text s p (lead k bytes) = let r = tail_text k in (_, _, l.rest_of_char r.1 x.none)

unfoldable pub part_text : (p : Part) → (t : List ℕ) × (es : List Event) × Lang p t es
part_text m.mark = ([], [], l.is_mark g.no_mark)
part_text m.blank = ([], [], l.is_blank x.none)
part_text (m.symbol s) = let r = symbol_text s in (r.0, r.1, l.is_symbol r.2)
part_text (m.word cs w) = (cs, m.meant w, l.is_word)
part_text (m.digits k s) = let r = digits_text k in (r.0, number (s ++ r.0) ∷ [], l.is_digits r.1)
part_text (m.chars k s p c) = let r = chars_text s p c in (r.0, told k r.1 ∷ [], l.is_chars r.2)

unfoldable pub completed : (ps : List Part) → (t : List ℕ) × (es : List Event) × Goes ps t es
completed [] = ([], [], done)
completed (p ∷ ps) = let x = part_text p in let y = completed ps in (x.0 ++ y.0, x.1 ++ y.1, part x.2 y.2)

-- ---- what was taken, and then a completion

abbrev pub Fed : List Part → List ℕ → Next → Type 0
Fed ps xs None = Unit {0}
Fed ps xs (Some n) = (t : List ℕ) (fs : List Event) → Goes n.1 t fs → Goes ps (xs ++ t) (n.0 ++ fs)

fed_behind : (ps qs : List Part) (b : ℕ) (bs : List ℕ) (es : List Event) (r : Next) → Sound ps b (Some (es, qs)) → Fed qs bs r → Fed ps (b ∷ bs) (prefix es r)
fed_behind ps qs b bs es None s h = tt
fed_behind ps qs b bs es (Some n) s h = λ t fs k. rw (append_assoc es n.0 fs) (s (bs ++ t) (n.0 ++ fs) (h t fs k))

pub fed : (xs : List ℕ) (ps : List Part) → Fed ps xs (feed ps xs)
unfolding feed
fed [] ps = λ t fs k. k
fed (b ∷ bs) ps = go (step ps (class b) b) (sound ps b) (fed bs)
  where
    go : (r : Next) → Sound ps b r → ((qs : List Part) → Fed qs bs (feed qs bs)) → Fed ps (b ∷ bs) (m.and_feed bs r)
    go None s h = tt
    go (Some n) s h = fed_behind ps n.1 b bs n.0 (feed n.1 bs) s (h n.1)

pub run_feed : (xs ys : List ℕ) (ps : List Part) → run ps (xs ++ ys) ≡ and_run ys (feed ps xs)
unfolding run feed
run_feed [] ys ps = sym (give_nil (run ps ys))
run_feed (x ∷ xs) ys ps = go (step ps (class x) x) (run_feed xs ys)
  where
    go : (r : Next) → ((qs : List Part) → run qs (xs ++ ys) ≡ and_run ys (feed qs xs)) → and_run (xs ++ ys) r ≡ and_run ys (m.and_feed xs r)
    go None h = refl
    go (Some n) h = ap (give n.0) (h n.1) ∙ sym (and_run-prefix ys n.0 (feed n.1 xs))

pub json_from : (t : List ℕ) (es : List Event) → Goes start t es → IsJson t es
json_from t es (part (l.is_mark k) (part (l.is_blank a) (part (l.is_symbol v) (part (l.is_blank b) done)))) = simp append-nil (g.json k a v b)

alive : (ys : List ℕ) (es : List Event) (r : Next) → and_run ys r ≡ Some es → IsSome r
alive ys es None e = cc
alive ys es (Some n) e = refl

begun : (xs : List ℕ) (r : Next) → Fed start xs r → IsSome r → BeginsJson xs
begun xs None f h = cc
begun xs (Some n) f h = let x = completed n.1 in (x.0, n.0 ++ x.1, json_from (xs ++ x.0) (n.0 ++ x.1) (f x.0 x.1 x.2))

pub begins : (xs : List ℕ) → BeginsJson xs ↔ IsSome (feed start xs)
begins xs = (λ h. alive h.0 h.1 (feed start xs) (sym (run_feed xs h.0 start) ∙ json_run h.2), begun xs (feed start xs) (fed xs start))
