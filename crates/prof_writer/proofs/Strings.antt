-- A string that is escaped run by run.
use Rattle.std.proofs.Common.{◌≡◌, ℕ, suc, ◌+◌, ◌-◌, ◌<◌, ◌≤◌, Bool, true, false, cond, eqb, ltb, ◌||◌, List, [], ◌∷◌, ◌++◌, Option, Ok, length, take, drop, get_or, refl, sym, ap, ◌∙◌, arith, take-append-drop, append_assoc, append-nil}
use Rattle.std.specs.Prelude.{◌&&◌}
use Rattle.std.specs.List.{flat_map, list_all, prefix_len}
use Rattle.std.proofs.lemmas.Bool.{false≢true}
use Rattle.std.proofs.lemmas.Bool.Decides.{nat_tests}
use Rattle.std.proofs.lemmas.List.{drop_more, drop_all, take_rest}
use Rattle.std.proofs.lemmas.List.Sums.{prefix_len_stops}
use Rattle.std.proofs.lemmas.List.Concat.{flat_map-append}
use Rattle.prof_io.specs.Outside.{Seen}
use Rattle.prof_io.specs.Sinks.{Wrote}
use Rattle.prof_writer.specs.Writing.{escape, is_escaped, is_plain}
use Rattle.prof_writer.proofs.Outputs.{writes_then, writes_as, writes_ok}

not_or : (a b : Bool) → (a || b) ≡ false → (a ≡ false) × (b ≡ false)
not_or false b h = (refl, h)
not_or true b h = absurd (false≢true (sym h))

and_true : (a b : Bool) → (a && b) ≡ true → (a ≡ true) × (b ≡ true)
and_true true b h = (refl, h)
and_true false b h = absurd (false≢true h)

plain_is : (b : ℕ) → is_plain b ≡ true → is_escaped b ≡ false
plain_is b h = from (is_escaped b) h where
  from : (e : Bool) → cond e false true ≡ true → e ≡ false
  from true h = absurd (false≢true h)
  from false h = refl

escape_plain : (b : ℕ) → is_plain b ≡ true → escape b ≡ b ∷ []
escape_plain b h =
    let one = not_or (ltb b 32 || eqb b 34) (eqb b 92) (plain_is b h) in
    let two = not_or (ltb b 32) (eqb b 34) one.0 in
    let low : ltb b 32 ≡ false = two.0 in
    let a8 : eqb b 8 ≡ false = grind (arith, nat_tests) in
    let a9 : eqb b 9 ≡ false = grind (arith, nat_tests) in
    let a10 : eqb b 10 ≡ false = grind (arith, nat_tests) in
    let a12 : eqb b 12 ≡ false = grind (arith, nat_tests) in
    let a13 : eqb b 13 ≡ false = grind (arith, nat_tests) in
    rw (two.1, one.1, a8, a9, a10, a12, a13, low) refl

-- a text without such bytes stands for itself
pub escape_none : (text : List ℕ) → list_all is_plain text ≡ true → flat_map escape text ≡ text
escape_none [] h = refl
escape_none (b ∷ bs) h =
    let both = and_true (is_plain b) (list_all is_plain bs) h in
    ap (λ x. x ++ flat_map escape bs) (escape_plain b both.0) ∙ ap (λ xs. b ∷ xs) (escape_none bs both.1)

-- the front that needs no escape stands for itself
pub escape_front : (text : List ℕ) → flat_map escape (take (prefix_len is_plain text) text) ≡ take (prefix_len is_plain text) text
escape_front [] = refl
escape_front (b ∷ bs) = by (is_plain b) (escape_front bs) refl where
  by : (p : Bool) → flat_map escape (take (prefix_len is_plain bs) bs) ≡ take (prefix_len is_plain bs) bs → is_plain b ≡ p → flat_map escape (take (cond p (1 + prefix_len is_plain bs) 0) (b ∷ bs)) ≡ take (cond p (1 + prefix_len is_plain bs) 0) (b ∷ bs)
  by true rest h =
      let more : 1 + prefix_len is_plain bs ≡ suc (prefix_len is_plain bs) = omega arith in
      rw more (ap (λ x. x ++ flat_map escape (take (prefix_len is_plain bs) bs)) (escape_plain b h) ∙ ap (λ xs. b ∷ xs) rest)
  by false rest h = refl

-- so much of the text was written, and the rest is to come
pub record IsEscaping (old now : Seen) (text rest : List ℕ) : Type 0 where
  pub done : List ℕ
  pub is : text ≡ done ++ rest
  pub writes : Wrote {T = Unit {0}} {E = Unit {0}} old now (Ok tt) (flat_map escape done)

-- the front that needs no escape, and the rest behind it
pub front_split : (text done rest : List ℕ) (len : ℕ) → text ≡ done ++ rest → len ≡ prefix_len is_plain rest → (flat_map escape done ++ take len rest) ++ flat_map escape (drop len rest) ≡ flat_map escape text
front_split text done rest len e n =
    let plain : flat_map escape (take len rest) ≡ take len rest = rw n (escape_front rest) in
    let parts : flat_map escape rest ≡ take len rest ++ flat_map escape (drop len rest) =
    ap (flat_map escape) (sym (take-append-drop len rest)) ∙ flat_map-append escape (take len rest) (drop len rest) ∙ ap (λ x. x ++ flat_map escape (drop len rest)) plain in
    append_assoc (flat_map escape done) (take len rest) (flat_map escape (drop len rest)) ∙ ap (λ x. flat_map escape done ++ x) (sym parts) ∙ sym (flat_map-append escape done rest) ∙ ap (flat_map escape) (sym e)

-- nothing is left behind the front
pub front_all : (text done rest : List ℕ) (len : ℕ) → text ≡ done ++ rest → len ≡ prefix_len is_plain rest → length rest ≤ len → flat_map escape done ++ take len rest ≡ flat_map escape text
front_all text done rest len e n all =
    let none : flat_map escape (drop len rest) ≡ [] = ap (flat_map escape) (drop_all len rest all) in
    sym (append-nil (flat_map escape done ++ take len rest)) ∙ ap (λ x. (flat_map escape done ++ take len rest) ++ x) (sym none) ∙ front_split text done rest len e n

-- a byte behind the front, and the rest behind it
pub byte_split : (text done rest tail : List ℕ) (len byte : ℕ) → text ≡ done ++ rest → len ≡ prefix_len is_plain rest → drop len rest ≡ byte ∷ tail → ((flat_map escape done ++ take len rest) ++ escape byte) ++ flat_map escape tail ≡ flat_map escape text
byte_split text done rest tail len byte e n next =
    append_assoc (flat_map escape done ++ take len rest) (escape byte) (flat_map escape tail)
    ∙ ap (λ xs. (flat_map escape done ++ take len rest) ++ flat_map escape xs) (sym next) ∙ front_split text done rest len e n

-- what lies behind the front
pub next_byte : (rest : List ℕ) (len : ℕ) → len < length rest → drop len rest ≡ get_or rest len 0 ∷ take (length rest - (len + 1)) (drop (len + 1) rest)
next_byte rest len lt = drop_more rest len 0 lt ∙ ap (λ xs. get_or rest len 0 ∷ xs) (sym (take_rest rest (len + 1)))

pub stop_is_escaped : (rest : List ℕ) (len : ℕ) → len ≡ prefix_len is_plain rest → len < length rest → is_escaped (get_or rest len 0) ≡ true
stop_is_escaped rest len n lt =
    let below : prefix_len is_plain rest < length rest = omega arith in
    let stops : is_plain (get_or rest len 0) ≡ false = ap (λ k. is_plain (get_or rest k 0)) n ∙ prefix_len_stops is_plain rest 0 below in
    from (is_escaped (get_or rest len 0)) stops where
      from : (e : Bool) → cond e false true ≡ false → e ≡ true
      from true h = refl
      from false h = absurd (false≢true (sym h))

-- one more run and one more escape
pub escaping_more : {T E U F : Type 0} {old a b c : Seen} {x : T} {y : U} (text rest tail : List ℕ) (len byte : ℕ) →
    IsEscaping old a text rest → len ≡ prefix_len is_plain rest → drop len rest ≡ byte ∷ tail →
    Wrote {T = T} {E = E} a b (Ok x) (take len rest) → Wrote {T = U} {E = F} b c (Ok y) (escape byte) →
    IsEscaping old c text tail
escaping_more text rest tail len byte i n next run escaped =
    let front = take len rest in
    let plain : flat_map escape front ≡ front = rw n (escape_front rest) in
    let whole : text ≡ (i.done ++ (front ++ byte ∷ [])) ++ tail =
    i.is ∙ ap (λ x. i.done ++ x) (sym (take-append-drop len rest) ∙ ap (λ x. front ++ x) next ∙ sym (append_assoc front (byte ∷ []) tail)) ∙ sym (append_assoc i.done (front ++ byte ∷ []) tail) in
    let text_is : (flat_map escape i.done ++ front) ++ escape byte ≡ flat_map escape (i.done ++ (front ++ byte ∷ [])) =
    append_assoc (flat_map escape i.done) front (escape byte)
    ∙ ap (λ x. flat_map escape i.done ++ x) (ap (λ x. x ++ escape byte) (sym plain) ∙ ap (λ x. flat_map escape front ++ x) (sym (append-nil (escape byte))) ∙ sym (flat_map-append escape front (byte ∷ [])))
    ∙ sym (flat_map-append escape i.done (front ++ byte ∷ [])) in
    let all = writes_then (writes_then i.writes run) escaped in
    record { done = i.done ++ (front ++ byte ∷ []); is = whole; writes = writes_ok (writes_as text_is all) }
