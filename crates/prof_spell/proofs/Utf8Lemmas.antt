-- A text is UTF-8 exactly where its bytes may come one behind another, up to the end of a character.
use Rattle.std.proofs.Common.{◌≡◌, ℕ, ◌+◌, ◌<◌, ◌≤◌, Bool, true, false, List, [], ◌∷◌, ◌++◌, length, refl, sym, subst, ap, ◌∙◌, arith, zero, suc}
use Rattle.std.specs.Prelude.{if◌then◌else◌, nat_lt, nat_le, ◌&&◌, ◌||◌, ◌==◌, Option, Some, None, IsUtf8, encode_utf8_all}
use Rattle.std.specs.Char.{IsScalar, encode_utf8}
use Rattle.std.specs.Str.{all_scalars}
use Rattle.std.proofs.lemmas.Bool.Decides.{nat_tests}
use Rattle.prof_grammar.specs.Machine.{Tail, tail_next, in_tail, leads}
use Rattle.prof_grammar.specs.Machine as m
use Rattle.prof_grammar.proofs.Language.{IsTail, TextFits, last, more, text_fits}
use Rattle.prof_grammar.proofs.Language as l
use Rattle.prof_grammar.proofs.Utf8.{encode_one, scalar_low, char_from, char_to, Led, led}
use Rattle.prof_spell.specs.declared.utf8.Due.{Due}
use Rattle.prof_spell.specs.declared.utf8.Due.TheVariants.{Character, OneMore, TwoMore, ThreeMore, BehindE0, BehindEd, BehindF0, BehindF4}
use Rattle.prof_spell.specs.Utf8.{allows, behind_first, behind_byte, is_between}
use Rattle.prof_spell.proofs.Bytes.{and_true, and_both, or_left, or_right, eqb_is}

-- these bytes may come one behind another, and a text may end behind them
abbrev pub Runs : Due → List ℕ → Type 0
Runs d [] = is_between d ≡ true
Runs d (b ∷ s) = (allows d b ≡ true) × Runs (behind_byte d b) s

abbrev due_of : Tail → Due
due_of m.one_more = OneMore
due_of m.two_more = TwoMore
due_of m.three_more = ThreeMore
due_of m.behind_e0 = BehindE0
due_of m.behind_ed = BehindEd
due_of m.behind_f0 = BehindF0
due_of m.behind_f4 = BehindF4

abbrev due_after : Option Tail → Due
due_after None = Character
due_after (Some t) = due_of t

allows_tail : (t : Tail) (b : ℕ) → allows (due_of t) b ≡ in_tail t b
allows_tail m.one_more b = refl
allows_tail m.two_more b = refl
allows_tail m.three_more b = refl
allows_tail m.behind_e0 b = refl
allows_tail m.behind_ed b = refl
allows_tail m.behind_f0 b = refl
allows_tail m.behind_f4 b = refl

behind_tail : (t : Tail) (b : ℕ) → behind_byte (due_of t) b ≡ due_after (tail_next t)
behind_tail m.one_more b = refl
behind_tail m.two_more b = refl
behind_tail m.three_more b = refl
behind_tail m.behind_e0 b = refl
behind_tail m.behind_ed b = refl
behind_tail m.behind_f0 b = refl
behind_tail m.behind_f4 b = refl

-- ---- from the characters to the bytes

tail_runs : {t : Tail} {q : List ℕ} (rest : List ℕ) → IsTail t q → Runs Character rest → Runs (due_of t) (q ++ rest)
tail_runs rest (last {t = t} {b = b} i n) h =
    (allows_tail t b ∙ i, subst (λ (d : Due). Runs d rest) (sym (behind_tail t b ∙ ap due_after n)) h)
tail_runs rest (more {t = t} {t' = t'} {b = b} {bs = bs} i n q) h =
    (allows_tail t b ∙ i, subst (λ (d : Due). Runs d (bs ++ rest)) (sym (behind_tail t b ∙ ap due_after n)) (tail_runs rest q h))

abbrev LeadsTo : ℕ → Tail → Type 0
LeadsTo x t = (allows Character x ≡ true) × (behind_first x ≡ due_of t)

first_allowed : (x : ℕ) → 194 ≤ x → x ≤ 244 → allows Character x ≡ true
first_allowed x lo hi = or_right (nat_lt x 0x80) (nat_le 0xC2 x && nat_le x 0xF4) (and_both (nat_le 0xC2 x) (nat_le x 0xF4) (grind (arith, nat_tests)) (grind (arith, nat_tests)))

lead_due : {x : ℕ} {t : Tail} → TextFits x (leads t) → LeadsTo x t
lead_due {x = x} (l.leads_two lo hi) =
    let a : nat_lt x 0x80 ≡ false = grind (arith, nat_tests) in
    let b : nat_lt x 0xE0 ≡ true = grind (arith, nat_tests) in
    (first_allowed x lo (omega arith), rw (a, b) refl)
lead_due l.leads_e0 = (refl, refl)
lead_due l.leads_ed = (refl, refl)
lead_due {x = x} (l.leads_three lo hi not_ed) =
    let a : nat_lt x 0x80 ≡ false = grind (arith, nat_tests) in
    let b : nat_lt x 0xE0 ≡ false = grind (arith, nat_tests) in
    let c : (x == 0xE0) ≡ false = grind (arith, nat_tests) in
    let d : (x == 0xED) ≡ false = grind (arith, nat_tests) in
    let e : nat_lt x 0xF0 ≡ true = grind (arith, nat_tests) in
    (first_allowed x (omega arith) (omega arith), rw (a, b, c, d, e) refl)
lead_due l.leads_f0 = (refl, refl)
lead_due {x = x} (l.leads_four lo hi) =
    let a : nat_lt x 0x80 ≡ false = grind (arith, nat_tests) in
    let b : nat_lt x 0xE0 ≡ false = grind (arith, nat_tests) in
    let c : (x == 0xE0) ≡ false = grind (arith, nat_tests) in
    let d : (x == 0xED) ≡ false = grind (arith, nat_tests) in
    let e : nat_lt x 0xF0 ≡ false = grind (arith, nat_tests) in
    let f : (x == 0xF0) ≡ false = grind (arith, nat_tests) in
    let g : (x == 0xF4) ≡ false = grind (arith, nat_tests) in
    (first_allowed x (omega arith) (omega arith), rw (a, b, c, d, e, f, g) refl)
lead_due l.leads_f4 = (refl, refl)

led_runs : (s rest : List ℕ) → Led s → Runs Character rest → Runs Character (s ++ rest)
led_runs s rest (led {x = x} {q = q} {t = t} e i) h =
    let d = lead_due (subst (λ y. TextFits x y) e (text_fits x)) in
    (d.0, subst (λ (k : Due). Runs k (q ++ rest)) (sym d.1) (tail_runs rest i h))

char_runs : (c : ℕ) (rest : List ℕ) → IsScalar c → Runs Character rest → Runs Character (encode_utf8 c ++ rest)
char_runs c rest sc h = at (nat_lt c 128) refl
  where
    at : (t : Bool) → nat_lt c 128 ≡ t → Runs Character (encode_utf8 c ++ rest)
    at true e =
        let next : behind_first c ≡ Character = rw e refl in
        subst (λ (s : List ℕ). Runs Character (s ++ rest)) (sym (encode_one c (grind (arith, nat_tests)))) (or_left (nat_lt c 0x80) (nat_le 0xC2 c && nat_le c 0xF4) e, subst (λ (d : Due). Runs d rest) (sym next) h)
    at false e = led_runs (encode_utf8 c) rest (char_to c sc (grind (arith, nat_tests))) h

chars_run : (cs : List ℕ) → all_scalars cs ≡ true → Runs Character (encode_utf8_all cs)
chars_run [] h = refl
chars_run (c ∷ cs) h = let k = and_true _ (all_scalars cs) h in char_runs c (encode_utf8_all cs) k.0 (chars_run cs k.1)

pub utf8_runs : (s : List ℕ) → IsUtf8 s → Runs Character s
utf8_runs s u = subst (λ (t : List ℕ). Runs Character t) u.1.1 (chars_run u.0 u.1.0)

-- ---- from the bytes to the characters

abbrev Split : Tail → List ℕ → Type 0
Split t s = (q : List ℕ) × (rest : List ℕ) × IsTail t q × (s ≡ q ++ rest) × Runs Character rest × (length rest ≤ length s)

tail_split : (s : List ℕ) (t : Tail) → Runs (due_of t) s → Split t s
tail_split [] t h = absurd (no_end t h)
  where
    no_end : (t : Tail) → is_between (due_of t) ≡ true → ⊥
    no_end m.one_more h = cc
    no_end m.two_more h = cc
    no_end m.three_more h = cc
    no_end m.behind_e0 h = cc
    no_end m.behind_ed h = cc
    no_end m.behind_f0 h = cc
    no_end m.behind_f4 h = cc
tail_split (b ∷ s) t h = at (tail_next t) refl (λ u k. tail_split s u k)
  where
    allowed : in_tail t b ≡ true
    allowed = sym (allows_tail t b) ∙ h.0

    at : (n : Option Tail) → tail_next t ≡ n → ((u : Tail) → Runs (due_of u) s → Split u s) → Split t (b ∷ s)
    at None e so = (b ∷ [], s, last allowed e, refl, subst (λ (d : Due). Runs d s) (behind_tail t b ∙ ap due_after e) h.1, omega arith)
    at (Some t') e so =
        let r = so t' (subst (λ (d : Due). Runs d s) (behind_tail t b ∙ ap due_after e) h.1) in
        let k : s ≡ r.0 ++ r.1 = r.3 in
        let small = r.5 in
        (b ∷ r.0, r.1, more allowed e r.2, ap (λ u. b ∷ u) k, r.4, omega arith)

abbrev Lead : ℕ → Due → Type 0
Lead x d = (t : Tail) × TextFits x (leads t) × (d ≡ due_of t)

pick : (x n : ℕ) (c d : Due) → (x ≡ n → Lead x c) → ((x == n) ≡ false → Lead x d) → Lead x (if x == n then c else d)
pick x n c d f g = at (x == n) refl
  where
    at : (t : Bool) → (x == n) ≡ t → Lead x (if t then c else d)
    at true e = f (eqb_is x n e)
    at false e = g e

under : (x n : ℕ) (c d : Due) → (x < n → Lead x c) → (n ≤ x → Lead x d) → Lead x (if nat_lt x n then c else d)
under x n c d f g = at (nat_lt x n) refl
  where
    at : (t : Bool) → nat_lt x n ≡ t → Lead x (if t then c else d)
    at true e = f (grind (arith, nat_tests))
    at false e = g (grind (arith, nat_tests))

lead_of : (x : ℕ) → 194 ≤ x → x ≤ 244 → Lead x (behind_first x)
lead_of x lo hi =
    under x 0x80 _ _ (λ a. absurd (omega arith)) (λ a.
    under x 0xE0 _ _ (λ h. (m.one_more, l.leads_two lo (omega arith), refl)) (λ b.
    pick x 0xE0 _ _ (λ e. (m.behind_e0, subst (λ y. TextFits y (leads m.behind_e0)) (sym e) l.leads_e0, refl)) (λ c.
    pick x 0xED _ _ (λ e. (m.behind_ed, subst (λ y. TextFits y (leads m.behind_ed)) (sym e) l.leads_ed, refl)) (λ d.
    under x 0xF0 _ _ (λ h. (m.two_more, l.leads_three (grind (arith, nat_tests)) (omega arith) (grind (arith, nat_tests)), refl)) (λ f.
    pick x 0xF0 _ _ (λ e. (m.behind_f0, subst (λ y. TextFits y (leads m.behind_f0)) (sym e) l.leads_f0, refl)) (λ g.
    pick x 0xF4 _ _ (λ e. (m.behind_f4, subst (λ y. TextFits y (leads m.behind_f4)) (sym e) l.leads_f4, refl)) (λ k.
    (m.three_more, l.leads_four (grind (arith, nat_tests)) (grind (arith, nat_tests)), refl))))))))

one_char : (c : ℕ) (s rest : List ℕ) → IsScalar c → s ≡ encode_utf8 c ++ rest → IsUtf8 rest → IsUtf8 s
one_char c s rest sc e u = (c ∷ u.0, (and_both _ (all_scalars u.0) sc u.1.0, ap (λ t. encode_utf8 c ++ t) u.1.1 ∙ sym e))

runs_from : (n : ℕ) (s : List ℕ) → length s ≤ n → Runs Character s → IsUtf8 s
runs_from n [] small h = ([], (refl, refl))
runs_from zero (x ∷ s) small h = absurd (omega arith)
runs_from (suc n) (x ∷ s) small h = at (nat_lt x 0x80) refl (λ r k i. runs_from n r k i)
  where
    high : ((r : List ℕ) → length r ≤ n → Runs Character r → IsUtf8 r) → nat_lt x 0x80 ≡ false → nat_le 0xC2 x ≡ true → nat_le x 0xF4 ≡ true → IsUtf8 (x ∷ s)
    high so e lo hi =
        let d = lead_of x (grind (arith, nat_tests)) (grind (arith, nat_tests)) in
        let r = tail_split s d.0 (subst (λ (k : Due). Runs k s) d.2 h.1) in
        let c = char_from d.1 r.2 in
        let k : s ≡ r.0 ++ r.1 = r.3 in
        let fewer = r.5 in
        one_char c.0 (x ∷ s) r.1 c.1 (ap (λ u. x ∷ u) k ∙ ap (λ u. u ++ r.1) (sym c.3)) (so r.1 (omega arith) r.4)

    at : (t : Bool) → nat_lt x 0x80 ≡ t → ((r : List ℕ) → length r ≤ n → Runs Character r → IsUtf8 r) → IsUtf8 (x ∷ s)
    at true e so =
        let low : x < 128 = grind (arith, nat_tests) in
        let next : behind_first x ≡ Character = rw e refl in
        one_char x (x ∷ s) s (scalar_low x (omega arith)) (ap (λ u. u ++ s) (sym (encode_one x low))) (so s (omega arith) (subst (λ (d : Due). Runs d s) next h.1))
    at false e so =
        let f : (nat_le 0xC2 x && nat_le x 0xF4) ≡ true = subst (λ t. (t || (nat_le 0xC2 x && nat_le x 0xF4)) ≡ true) e h.0 in
        let g = and_true (nat_le 0xC2 x) (nat_le x 0xF4) f in
        high so e g.0 g.1

pub runs_utf8 : (s : List ℕ) → Runs Character s → IsUtf8 s
runs_utf8 s h = runs_from (length s) s (omega arith) h
