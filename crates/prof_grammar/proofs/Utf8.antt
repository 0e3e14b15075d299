-- The bytes of a character, by its first byte and the rest of it (Unicode, table 3-7).
use Rattle.std.proofs.Common.{◌≡◌, ℕ, ◌+◌, ◌-◌, ◌*◌, ◌/◌, ◌%◌, ◌<◌, ◌≤◌, Bool, true, false, List, [], ◌∷◌, refl, sym, subst, ap, ◌∙◌, arith, inl, inr}
use Rattle.std.specs.Prelude.{nat_lt, nat_le, ◌⊎◌, ◌==◌, Some}
use Rattle.std.specs.Char.{IsScalar, encode_utf8}
use Rattle.std.proofs.lemmas.Bool.Decides.{nat_tests}
use Rattle.prof_grammar.specs.Machine.{Tail, text_byte, in_tail, tail_low, tail_high, tail_next}
use Rattle.prof_grammar.specs.Machine as m
use lib.Utf8.{scalar_cases}
use Rattle.prof_grammar.proofs.Language.{IsTail, TextFits, last, more, eqb_is}
use Rattle.prof_grammar.proofs.Language as l

pub encode_one : (c : ℕ) → c < 128 → encode_utf8 c ≡ c ∷ []
unfolding encode_utf8
encode_one c h = let e : nat_lt c 128 ≡ true = grind (arith, nat_tests) in rw e

encode_two : (c : ℕ) → 128 ≤ c → c < 2048 → encode_utf8 c ≡ (192 + c / 64) ∷ (128 + c % 64) ∷ []
unfolding encode_utf8
encode_two c l h =
    let e : nat_lt c 128 ≡ false = grind (arith, nat_tests) in
    let f : nat_lt c 2048 ≡ true = grind (arith, nat_tests) in rw (e, f)

encode_three : (c : ℕ) → 2048 ≤ c → c < 65536 → encode_utf8 c ≡ (224 + c / 4096) ∷ (128 + (c / 64) % 64) ∷ (128 + c % 64) ∷ []
unfolding encode_utf8
encode_three c l h =
    let e : nat_lt c 128 ≡ false = grind (arith, nat_tests) in
    let f : nat_lt c 2048 ≡ false = grind (arith, nat_tests) in
    let k : nat_lt c 65536 ≡ true = grind (arith, nat_tests) in rw (e, f, k)

encode_four : (c : ℕ) → 65536 ≤ c → encode_utf8 c ≡ (240 + c / 262144) ∷ (128 + (c / 4096) % 64) ∷ (128 + (c / 64) % 64) ∷ (128 + c % 64) ∷ []
unfolding encode_utf8
encode_four c l =
    let e : nat_lt c 128 ≡ false = grind (arith, nat_tests) in
    let f : nat_lt c 2048 ≡ false = grind (arith, nat_tests) in
    let k : nat_lt c 65536 ≡ false = grind (arith, nat_tests) in rw (e, f, k)

pub scalar_low : (c : ℕ) → c < 55296 → IsScalar c
scalar_low c h = let e : nat_lt c 55296 ≡ true = grind (arith, nat_tests) in rw e

pub scalar_high : (c : ℕ) → 57344 ≤ c → c < 1114112 → IsScalar c
scalar_high c l h =
    let e : nat_lt c 55296 ≡ false = grind (arith, nat_tests) in
    let f : nat_le 57344 c ≡ true = grind (arith, nat_tests) in
    let k : nat_lt c 1114112 ≡ true = grind (arith, nat_tests) in rw (e, f, k)

-- a byte within the bounds of a tail, both ways
tail_in : (t : Tail) (b : ℕ) → tail_low t ≤ b → b ≤ tail_high t → in_tail t b ≡ true
tail_in t b lo hi = grind (arith, nat_tests)

tail_lower : (t : Tail) (b : ℕ) → in_tail t b ≡ true → tail_low t ≤ b
tail_lower t b h = grind (arith, nat_tests)

tail_upper : (t : Tail) (b : ℕ) → in_tail t b ≡ true → b ≤ tail_high t
tail_upper t b h = grind (arith, nat_tests)

two_from : (x y : ℕ) → 194 ≤ x → x ≤ 223 → 128 ≤ y → y ≤ 191 → (c : ℕ) × IsScalar c × (128 ≤ c) × (encode_utf8 c ≡ x ∷ y ∷ [])
two_from x y l h tl th =
    let c : ℕ = (x - 192) * 64 + (y - 128) in
    let q : (x - 192) * 64 + (y - 128) ≡ c = refl in
    let d : 192 + c / 64 ≡ x = omega arith in
    let m : 128 + c % 64 ≡ y = omega arith in
    (c, scalar_low c (omega arith), omega arith, encode_two c (omega arith) (omega arith) ∙ ap (λ a. a ∷ (128 + c % 64) ∷ []) d ∙ ap (λ a. x ∷ a ∷ []) m)

three_from : (x y z : ℕ) → 224 ≤ x → x ≤ 239 → 128 ≤ y → y ≤ 191 → 128 ≤ z → z ≤ 191 → (x ≡ 224 → 160 ≤ y) → (x ≡ 237 → y ≤ 159) → (c : ℕ) × IsScalar c × (128 ≤ c) × (encode_utf8 c ≡ x ∷ y ∷ z ∷ [])
three_from x y z l h tl th ul uh a b =
    let c : ℕ = (x - 224) * 4096 + (y - 128) * 64 + (z - 128) in
    let q : (x - 224) * 4096 + (y - 128) * 64 + (z - 128) ≡ c = refl in
    let d : 224 + c / 4096 ≡ x = omega arith in
    let m : 128 + (c / 64) % 64 ≡ y = omega arith in
    let k : 128 + c % 64 ≡ z = omega arith in
    let big : 2048 ≤ c = grind arith in
    let apart : (c < 55296) ⊎ (57344 ≤ c) = beside (x == 237) refl in
    (c, is_scalar c (omega arith) apart, omega arith, encode_three c big (omega arith) ∙ ap (λ v. v ∷ (128 + (c / 64) % 64) ∷ (128 + c % 64) ∷ []) d ∙ ap (λ v. x ∷ v ∷ (128 + c % 64) ∷ []) m ∙ ap (λ v. x ∷ y ∷ v ∷ []) k)
  where
    is_scalar : (c : ℕ) → c < 65536 → (c < 55296) ⊎ (57344 ≤ c) → IsScalar c
    is_scalar c r (inl s) = scalar_low c s
    is_scalar c r (inr s) = scalar_high c s (omega arith)

    around : (57344 ≤ (x - 224) * 4096 + (y - 128) * 64 + (z - 128)) ⊎ ((x - 224) * 4096 + (y - 128) * 64 + (z - 128) < 57344) → (x ≡ 237 → ⊥) → ((x - 224) * 4096 + (y - 128) * 64 + (z - 128) < 55296) ⊎ (57344 ≤ (x - 224) * 4096 + (y - 128) * 64 + (z - 128))
    around (inl s) n = inr s
    around (inr s) n = inl (grind (arith, n))

    cut : (t : Bool) → nat_le 57344 ((x - 224) * 4096 + (y - 128) * 64 + (z - 128)) ≡ t → (57344 ≤ (x - 224) * 4096 + (y - 128) * 64 + (z - 128)) ⊎ ((x - 224) * 4096 + (y - 128) * 64 + (z - 128) < 57344)
    cut true e = inl (grind (arith, nat_tests))
    cut false e = inr (grind (arith, nat_tests))

    beside : (t : Bool) → (x == 237) ≡ t → ((x - 224) * 4096 + (y - 128) * 64 + (z - 128) < 55296) ⊎ (57344 ≤ (x - 224) * 4096 + (y - 128) * 64 + (z - 128))
    beside true e = let f : x ≡ 237 = eqb_is x 237 e in let g = b f in inl (omega arith)
    beside false e = around (cut _ refl) (λ f. let g : (x == 237) ≡ true = rw f in cc)

four_from : (x y z w : ℕ) → 240 ≤ x → x ≤ 244 → 128 ≤ y → y ≤ 191 → 128 ≤ z → z ≤ 191 → 128 ≤ w → w ≤ 191 → (x ≡ 240 → 144 ≤ y) → (x ≡ 244 → y ≤ 143) → (c : ℕ) × IsScalar c × (128 ≤ c) × (encode_utf8 c ≡ x ∷ y ∷ z ∷ w ∷ [])
four_from x y z w l h tl th ul uh vl vh a b =
    let c : ℕ = (x - 240) * 262144 + (y - 128) * 4096 + (z - 128) * 64 + (w - 128) in
    let q : (x - 240) * 262144 + (y - 128) * 4096 + (z - 128) * 64 + (w - 128) ≡ c = refl in
    let d : 240 + c / 262144 ≡ x = omega arith in
    let m : 128 + (c / 4096) % 64 ≡ y = omega arith in
    let k : 128 + (c / 64) % 64 ≡ z = omega arith in
    let j : 128 + c % 64 ≡ w = omega arith in
    let big : 65536 ≤ c = grind arith in
    let small : c < 1114112 = grind arith in
    (c, scalar_high c (omega arith) small, omega arith, encode_four c big ∙ ap (λ v. v ∷ (128 + (c / 4096) % 64) ∷ (128 + (c / 64) % 64) ∷ (128 + c % 64) ∷ []) d ∙ ap (λ v. x ∷ v ∷ (128 + (c / 64) % 64) ∷ (128 + c % 64) ∷ []) m ∙ ap (λ v. x ∷ y ∷ v ∷ (128 + c % 64) ∷ []) k ∙ ap (λ v. x ∷ y ∷ z ∷ v ∷ []) j)

-- ---- from the bytes to the character

one_of : {q : List ℕ} → IsTail m.one_more q → (y : ℕ) × (128 ≤ y) × (y ≤ 191) × (q ≡ y ∷ [])
one_of (last {b = y} i n) = (y, tail_lower m.one_more y i, tail_upper m.one_more y i, refl)
one_of (more i n h) = absurd cc

next_of : {t t' : Tail} {q : List ℕ} → tail_next t ≡ Some t' → IsTail t q → (y : ℕ) × (r : List ℕ) × (tail_low t ≤ y) × (y ≤ tail_high t) × IsTail t' r × (q ≡ y ∷ r)
next_of e (last i n) = absurd cc
next_of {t = t} {t' = t'} e (more {t' = t2} {b = y} {bs = r} i n h) = let same : t2 ≡ t' = cc in (y, r, tail_lower t y i, tail_upper t y i, subst (λ k. IsTail k r) same h, refl)

abbrev pub ACharacter : List ℕ → Type 0
ACharacter bytes = (c : ℕ) × IsScalar c × (128 ≤ c) × (encode_utf8 c ≡ bytes)

char_two : (x : ℕ) {q : List ℕ} → 194 ≤ x → x ≤ 223 → IsTail m.one_more q → ACharacter (x ∷ q)
char_two x lo hi h =
    let i = one_of h in
    let c = two_from x i.0 lo hi i.1 i.2 in
    (c.0, c.1, c.2, c.3 ∙ ap (λ r. x ∷ r) (sym i.3))

char_three : (x : ℕ) (t : Tail) {q : List ℕ} → tail_next t ≡ Some m.one_more → 224 ≤ x → x ≤ 239 → 128 ≤ tail_low t → tail_high t ≤ 191 → (x ≡ 224 → 160 ≤ tail_low t) → (x ≡ 237 → tail_high t ≤ 159) → IsTail t q → ACharacter (x ∷ q)
char_three x t e lo hi tl th a b h =
    let i = next_of e h in
    let j = one_of i.4 in
    let low = i.2 in
    let high = i.3 in
    let c = three_from x i.0 j.0 lo hi (omega arith) (omega arith) j.1 j.2 (λ k. let f = a k in omega arith) (λ k. let f = b k in omega arith) in
    (c.0, c.1, c.2, c.3 ∙ ap (λ r. x ∷ i.0 ∷ r) (sym j.3) ∙ ap (λ r. x ∷ r) (sym i.5))

char_four : (x : ℕ) (t : Tail) {q : List ℕ} → tail_next t ≡ Some m.two_more → 240 ≤ x → x ≤ 244 → 128 ≤ tail_low t → tail_high t ≤ 191 → (x ≡ 240 → 144 ≤ tail_low t) → (x ≡ 244 → tail_high t ≤ 143) → IsTail t q → ACharacter (x ∷ q)
char_four x t e lo hi tl th a b h =
    let i = next_of e h in
    let k = next_of {t = m.two_more} {t' = m.one_more} refl i.4 in
    let j = one_of k.4 in
    let low = i.2 in
    let high = i.3 in
    let c = four_from x i.0 k.0 j.0 lo hi (omega arith) (omega arith) k.2 k.3 j.1 j.2 (λ g. let f = a g in omega arith) (λ g. let f = b g in omega arith) in
    (c.0, c.1, c.2, c.3 ∙ ap (λ r. x ∷ i.0 ∷ k.0 ∷ r) (sym j.3) ∙ ap (λ r. x ∷ i.0 ∷ r) (sym k.5) ∙ ap (λ r. x ∷ r) (sym i.5))

-- a first byte and such a rest are a character's
pub char_from : {x : ℕ} {t : Tail} {q : List ℕ} → TextFits x (m.leads t) → IsTail t q → ACharacter (x ∷ q)
char_from {x = x} (l.leads_two lo hi) h = char_two x lo hi h
char_from l.leads_e0 h = char_three 224 m.behind_e0 refl (omega arith) (omega arith) (omega arith) (omega arith) (λ e. omega arith) (λ e. omega arith) h
char_from l.leads_ed h = char_three 237 m.behind_ed refl (omega arith) (omega arith) (omega arith) (omega arith) (λ e. omega arith) (λ e. omega arith) h
char_from {x = x} (l.leads_three lo hi not_ed) h = char_three x m.two_more refl (omega arith) hi (omega arith) (omega arith) (λ e. omega arith) (λ e. absurd (not_ed e)) h
char_from l.leads_f0 h = char_four 240 m.behind_f0 refl (omega arith) (omega arith) (omega arith) (omega arith) (λ e. omega arith) (λ e. omega arith) h
char_from {x = x} (l.leads_four lo hi) h = char_four x m.three_more refl (omega arith) (omega arith) (omega arith) (omega arith) (λ e. omega arith) (λ e. omega arith) h
char_from l.leads_f4 h = char_four 244 m.behind_f4 refl (omega arith) (omega arith) (omega arith) (omega arith) (λ e. omega arith) (λ e. omega arith) h

-- ---- from the character to the bytes

pub data Led : List ℕ → Type 0 where
  led : {x : ℕ} {q : List ℕ} {t : Tail} → text_byte x ≡ m.leads t → IsTail t q → Led (x ∷ q)

above : (x : ℕ) → 194 ≤ x → (nat_lt x 32 ≡ false) × ((x == 34) ≡ false) × ((x == 92) ≡ false) × (nat_lt x 0x80 ≡ false) × (nat_lt x 0xC2 ≡ false)
above x h = (grind (arith, nat_tests), grind (arith, nat_tests), grind (arith, nat_tests), grind (arith, nat_tests), grind (arith, nat_tests))

lead_two : (x : ℕ) → 194 ≤ x → x ≤ 223 → text_byte x ≡ m.leads m.one_more
lead_two x lo hi =
    let a = above x lo in
    let f : nat_lt x 0xE0 ≡ true = grind (arith, nat_tests) in
    rw (a.0, a.1, a.2, a.3, a.4, f)

lead_three : (x : ℕ) → 225 ≤ x → x ≤ 239 → (x == 237) ≡ false → text_byte x ≡ m.leads m.two_more
lead_three x lo hi not_ed =
    let a = above x (omega arith) in
    let f : nat_lt x 0xE0 ≡ false = grind (arith, nat_tests) in
    let g : (x == 0xE0) ≡ false = grind (arith, nat_tests) in
    let h : nat_lt x 0xF0 ≡ true = grind (arith, nat_tests) in
    rw (a.0, a.1, a.2, a.3, a.4, f, g, not_ed, h)

lead_four : (x : ℕ) → 241 ≤ x → x ≤ 243 → text_byte x ≡ m.leads m.three_more
lead_four x lo hi =
    let a = above x (omega arith) in
    let f : nat_lt x 0xE0 ≡ false = grind (arith, nat_tests) in
    let g : (x == 0xE0) ≡ false = grind (arith, nat_tests) in
    let g2 : (x == 0xED) ≡ false = grind (arith, nat_tests) in
    let h : nat_lt x 0xF0 ≡ false = grind (arith, nat_tests) in
    let i : (x == 0xF0) ≡ false = grind (arith, nat_tests) in
    let j : nat_lt x 0xF4 ≡ true = grind (arith, nat_tests) in
    rw (a.0, a.1, a.2, a.3, a.4, f, g, g2, h, i, j)

one_tail : (z : ℕ) → 128 ≤ z → z ≤ 191 → IsTail m.one_more (z ∷ [])
one_tail z lo hi = last (tail_in m.one_more z lo hi) refl

next_tail : (t t' : Tail) (y : ℕ) {q : List ℕ} → tail_next t ≡ Some t' → tail_low t ≤ y → y ≤ tail_high t → IsTail t' q → IsTail t (y ∷ q)
next_tail t t' y e lo hi h = more (tail_in t y lo hi) e h

led_three : (x y z : ℕ) → 224 ≤ x → x ≤ 239 → 128 ≤ y → y ≤ 191 → 128 ≤ z → z ≤ 191 → (x ≡ 224 → 160 ≤ y) → (x ≡ 237 → y ≤ 159) → Led (x ∷ y ∷ z ∷ [])
led_three x y z lo hi yl yh zl zh a b = first (x == 224) refl
  where
    second : (u : Bool) → (x == 237) ≡ u → (x == 224) ≡ false → Led (x ∷ y ∷ z ∷ [])
    second true e n = let f : x ≡ 237 = eqb_is x 237 e in subst (λ k. Led (k ∷ y ∷ z ∷ [])) (sym f) (led {t = m.behind_ed} refl (next_tail m.behind_ed m.one_more y refl yl (b f) (one_tail z zl zh)))
    second false e n = led (lead_three x (grind (arith, nat_tests)) hi e) (next_tail m.two_more m.one_more y refl yl yh (one_tail z zl zh))

    first : (u : Bool) → (x == 224) ≡ u → Led (x ∷ y ∷ z ∷ [])
    first true e = let f : x ≡ 224 = eqb_is x 224 e in subst (λ k. Led (k ∷ y ∷ z ∷ [])) (sym f) (led {t = m.behind_e0} refl (next_tail m.behind_e0 m.one_more y refl (a f) yh (one_tail z zl zh)))
    first false e = second (x == 237) refl e

two_tail : (z w : ℕ) → 128 ≤ z → z ≤ 191 → 128 ≤ w → w ≤ 191 → IsTail m.two_more (z ∷ w ∷ [])
two_tail z w zl zh wl wh = next_tail m.two_more m.one_more z refl zl zh (one_tail w wl wh)

led_four : (x y z w : ℕ) → 240 ≤ x → x ≤ 244 → 128 ≤ y → y ≤ 191 → 128 ≤ z → z ≤ 191 → 128 ≤ w → w ≤ 191 → (x ≡ 240 → 144 ≤ y) → (x ≡ 244 → y ≤ 143) → Led (x ∷ y ∷ z ∷ w ∷ [])
led_four x y z w lo hi yl yh zl zh wl wh a b = first (x == 240) refl
  where
    second : (u : Bool) → (x == 244) ≡ u → (x == 240) ≡ false → Led (x ∷ y ∷ z ∷ w ∷ [])
    second true e n = let f : x ≡ 244 = eqb_is x 244 e in subst (λ k. Led (k ∷ y ∷ z ∷ w ∷ [])) (sym f) (led {t = m.behind_f4} refl (next_tail m.behind_f4 m.two_more y refl yl (b f) (two_tail z w zl zh wl wh)))
    second false e n = led (lead_four x (grind (arith, nat_tests)) (grind (arith, nat_tests))) (next_tail m.three_more m.two_more y refl yl yh (two_tail z w zl zh wl wh))

    first : (u : Bool) → (x == 240) ≡ u → Led (x ∷ y ∷ z ∷ w ∷ [])
    first true e = let f : x ≡ 240 = eqb_is x 240 e in subst (λ k. Led (k ∷ y ∷ z ∷ w ∷ [])) (sym f) (led {t = m.behind_f0} refl (next_tail m.behind_f0 m.two_more y refl (a f) yh (two_tail z w zl zh wl wh)))
    first false e = second (x == 244) refl e

rows_two : (c : ℕ) → 128 ≤ c → c < 2048 → Led (encode_utf8 c)
rows_two c lo hi = rw (encode_two c lo hi) (led (lead_two (192 + c / 64) (omega arith) (omega arith)) (one_tail (128 + c % 64) (omega arith) (omega arith)))

rows_three : (c : ℕ) → 2048 ≤ c → c < 65536 → ((c < 55296) ⊎ (57344 ≤ c)) → Led (encode_utf8 c)
rows_three c lo hi s = rw (encode_three c lo hi) (led_three (224 + c / 4096) (128 + (c / 64) % 64) (128 + c % 64) (omega arith) (omega arith) (omega arith) (omega arith) (omega arith) (omega arith) (λ e. omega arith) (λ e. omega arith))

rows_four : (c : ℕ) → 65536 ≤ c → c < 1114112 → Led (encode_utf8 c)
rows_four c lo hi = rw (encode_four c lo) (led_four (240 + c / 262144) (128 + (c / 4096) % 64) (128 + (c / 64) % 64) (128 + c % 64) (omega arith) (omega arith) (omega arith) (omega arith) (omega arith) (omega arith) (omega arith) (omega arith) (λ e. omega arith) (λ e. omega arith))

-- a character beyond ASCII is a first byte and such a rest
pub char_to : (c : ℕ) → IsScalar c → 128 ≤ c → Led (encode_utf8 c)
char_to c s lo = two (nat_lt c 2048) refl
  where
    apart : (c < 55296) ⊎ ((57344 ≤ c) × (c < 1114112)) → (c < 55296) ⊎ (57344 ≤ c)
    apart (inl h) = inl h
    apart (inr h) = inr h.0

    small : (c < 55296) ⊎ ((57344 ≤ c) × (c < 1114112)) → c < 1114112
    small (inl h) = omega arith
    small (inr h) = h.1

    three : (t : Bool) → nat_lt c 65536 ≡ t → nat_lt c 2048 ≡ false → Led (encode_utf8 c)
    three true e f = rows_three c (grind (arith, nat_tests)) (grind (arith, nat_tests)) (apart (scalar_cases c s))
    three false e f = rows_four c (grind (arith, nat_tests)) (small (scalar_cases c s))

    two : (t : Bool) → nat_lt c 2048 ≡ t → Led (encode_utf8 c)
    two true e = rows_two c lo (grind (arith, nat_tests))
    two false e = three (nat_lt c 65536) refl e
