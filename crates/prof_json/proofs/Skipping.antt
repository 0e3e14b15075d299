-- Values that are read over, an event at a time.
use Rattle.std.proofs.Common.{◌≡◌, ◌≢◌, ℕ, ◌+◌, ◌<◌, ◌≤◌, List, [], ◌∷◌, ◌++◌, length, take, refl, sym, ap, ◌∙◌, arith}
use Rattle.std.specs.Prelude.{Some, ⊤}
use Rattle.std.specs.Option.{option_to_list}
use Rattle.std.proofs.lemmas.List.{append_assoc, append-nil, length-append, take-append-le, take_all}
use Rattle.prof_grammar.specs.Event as t
use Rattle.prof_grammar.specs.Event.{Event}
use Rattle.prof_grammar.specs.Value as v
use Rattle.prof_grammar.specs.Value.{Value, Values, Members, flatten, flatten_values, flatten_members}
use Rattle.prof_json.specs.Nest as nest
use Rattle.prof_json.specs.Nest.{Nest, Leads, TakesValue, IsWithin}
use Rattle.prof_json.specs.Position.{last_of}
use Rattle.prof_json.specs.Skip.{IsRest, IsAround}
use Rattle.prof_json.specs.declared.nesting.Bracket.{Bracket}
use Rattle.prof_json.specs.declared.nesting.Bracket.TheVariants.{Array, Object}
use Rattle.prof_json.specs.declared.nesting.Phase.{Phase}
use Rattle.prof_json.specs.declared.nesting.Phase.TheVariants.{Start, FirstItem, FirstMember, AfterName, AfterValue}
use Rattle.prof_json.specs.declared.answer.Event as r

-- ---- values that have begun

-- an array or an object around a value that is to come, with what it has so far
pub data Outer : Type 0 where
  in_array : Values → Outer
  in_object : Members → List ℕ → Outer

-- How far a value has come: behind an item of an array, behind a member of an object, before a value, or it is over.
pub data Progress : Type 0 where
  at_item : Values → List Outer → Progress
  at_member : Members → List Outer → Progress
  at_value : List Outer → Progress
  done : Value → Progress

abbrev add_value : Values → Value → Values
add_value v.no_values x = v.value x v.no_values
add_value (v.value y vs) x = v.value y (add_value vs x)

abbrev add_member : Members → List ℕ → Value → Members
add_member v.no_members n x = v.member n x v.no_members
add_member (v.member m y ms) n x = v.member m y (add_member ms n x)

flatten_add_value : (vs : Values) (x : Value) → flatten_values (add_value vs x) ≡ flatten_values vs ++ flatten x
flatten_add_value v.no_values x = append-nil (flatten x)
flatten_add_value (v.value y vs) x = ap (λ es. flatten y ++ es) (flatten_add_value vs x) ∙ sym (append_assoc (flatten y) (flatten_values vs) (flatten x))

flatten_add_member : (ms : Members) (n : List ℕ) (x : Value) → flatten_members (add_member ms n x) ≡ flatten_members ms ++ (t.name n ∷ flatten x)
flatten_add_member v.no_members n x = ap (λ es. t.name n ∷ es) (append-nil (flatten x))
flatten_add_member (v.member m y ms) n x =
    ap (λ es. t.name m ∷ (flatten y ++ es)) (flatten_add_member ms n x) ∙ ap (λ es. t.name m ∷ es) (sym (append_assoc (flatten y) (flatten_members ms) (t.name n ∷ flatten x)))

-- ---- their events, and the brackets that are open

abbrev pub told_before : List Outer → List Event
told_before [] = []
told_before (in_array vs ∷ os) = told_before os ++ (t.array_start ∷ flatten_values vs)
told_before (in_object ms n ∷ os) = told_before os ++ (t.object_start ∷ (flatten_members ms ++ t.name n ∷ []))

abbrev pub told : Progress → List Event
told (at_item vs os) = told_before os ++ (t.array_start ∷ flatten_values vs)
told (at_member ms os) = told_before os ++ (t.object_start ∷ flatten_members ms)
told (at_value os) = told_before os
told (done x) = flatten x

abbrev pub open_before : List Bracket → List Outer → List Bracket
open_before zs [] = zs
open_before zs (in_array vs ∷ os) = open_before zs os ++ Array ∷ []
open_before zs (in_object ms n ∷ os) = open_before zs os ++ Object ∷ []

abbrev pub open_in : List Bracket → Progress → List Bracket
open_in zs (at_item vs os) = open_before zs os ++ Array ∷ []
open_in zs (at_member ms os) = open_before zs os ++ Object ∷ []
open_in zs (at_value os) = open_before zs os
open_in zs (done x) = zs

abbrev pub IsAt : Phase → Progress → Type 0
IsAt FirstItem (at_item vs os) = ⊤
IsAt AfterValue (at_item vs os) = ⊤
IsAt FirstMember (at_member ms os) = ⊤
IsAt AfterValue (at_member ms os) = ⊤
IsAt AfterName (at_value os) = ⊤
IsAt AfterValue (done x) = ⊤
IsAt phase p = ⊥

abbrev pub GoesOn : Progress → Type 0
GoesOn (done x) = ⊥
GoesOn p = ⊤

-- the events so far, the brackets that are open, and what may come
pub record Has (zs : List Bracket) (es : List Event) (xs : List Bracket) (phase : Phase) (p : Progress) : Type 0 where
  pub told : told p ≡ es
  pub open_ : xs ≡ open_in zs p
  pub at : IsAt phase p

-- ---- a value within what has begun

abbrev put : Value → List Outer → Progress
put x [] = done x
put x (in_array vs ∷ os) = at_item (add_value vs x) os
put x (in_object ms n ∷ os) = at_member (add_member ms n x) os

told_put : (x : Value) (os : List Outer) → told (put x os) ≡ told_before os ++ flatten x
told_put x [] = refl
told_put x (in_array vs ∷ os) =
    ap (λ es. told_before os ++ (t.array_start ∷ es)) (flatten_add_value vs x) ∙ sym (append_assoc (told_before os) (t.array_start ∷ flatten_values vs) (flatten x))
told_put x (in_object ms n ∷ os) =
    ap (λ es. told_before os ++ (t.object_start ∷ es)) (flatten_add_member ms n x ∙ sym (append_assoc (flatten_members ms) (t.name n ∷ []) (flatten x)))
    ∙ sym (append_assoc (told_before os) (t.object_start ∷ (flatten_members ms ++ t.name n ∷ [])) (flatten x))

open_put : (zs : List Bracket) (x : Value) (os : List Outer) → open_in zs (put x os) ≡ open_before zs os
open_put zs x [] = refl
open_put zs x (in_array vs ∷ os) = refl
open_put zs x (in_object ms n ∷ os) = refl

at_put : (x : Value) (os : List Outer) → IsAt AfterValue (put x os)
at_put x [] = tt
at_put x (in_array vs ∷ os) = tt
at_put x (in_object ms n ∷ os) = tt

has_value : {zs xs : List Bracket} {es : List Event} (os : List Outer) (x : Value) → told_before os ≡ es → xs ≡ open_before zs os → (q : Progress) × Has zs (es ++ flatten x) xs AfterValue q
has_value {zs} {xs} {es} os x h e = (put x os, record { told = told_put x os ∙ ap (λ fs. fs ++ flatten x) h; open_ = e ∙ sym (open_put zs x os); at = at_put x os })

-- ---- the innermost bracket

no_snoc : (ys : List Bracket) (b : Bracket) → [] ≡ ys ++ b ∷ [] → ⊥
no_snoc ys b e = omega (arith, ap length e, length-append ys (b ∷ []))

snoc_is : (xs ys : List Bracket) (a b : Bracket) → xs ++ a ∷ [] ≡ ys ++ b ∷ [] → (xs ≡ ys) × (a ≡ b)
snoc_is [] [] a b e = let p : a ≡ b = cc in (refl, p)
snoc_is [] (y ∷ ys) a b e = absurd (no_snoc ys b (ap (λ (zs : List Bracket). take_tail zs) e))
  where
    take_tail : List Bracket → List Bracket
    take_tail [] = []
    take_tail (z ∷ zs) = zs
snoc_is (x ∷ xs) [] a b e = absurd (no_snoc xs a (sym (ap (λ (zs : List Bracket). take_tail zs) e)))
  where
    take_tail : List Bracket → List Bracket
    take_tail [] = []
    take_tail (z ∷ zs) = zs
snoc_is (x ∷ xs) (y ∷ ys) a b e =
    let head : x ≡ y = cc in
    let r = snoc_is xs ys a b (ap (λ (zs : List Bracket). take_tail zs) e) in
    (ap (λ z. z ∷ xs) head ∙ ap (λ zs. y ∷ zs) r.0, r.1)
  where
    take_tail : List Bracket → List Bracket
    take_tail [] = []
    take_tail (z ∷ zs) = zs

not_both : Array ≡ Object → ⊥
not_both e = cc

-- ---- an event

-- where a value is to come
hole : {n : Nest} → TakesValue n → (zs : List Bracket) (p : Progress) (es : List Event) → GoesOn p → Has zs es n.open_ n.phase p → (os : List Outer) × (told_before os ≡ es) × (n.open_ ≡ open_before zs os)
hole nest.top zs (at_item vs os) es g h = absurd h.at
hole nest.top zs (at_member ms os) es g h = absurd h.at
hole nest.top zs (at_value os) es g h = absurd h.at
hole nest.top zs (done x) es g h = absurd g
hole nest.named zs (at_value os) es g h = (os, h.told, h.open_)
hole nest.named zs (at_item vs os) es g h = absurd h.at
hole nest.named zs (at_member ms os) es g h = absurd h.at
hole nest.named zs (done x) es g h = absurd g
hole nest.first zs (at_item vs os) es g h = (in_array vs ∷ os, h.told, h.open_)
hole nest.first zs (at_member ms os) es g h = absurd h.at
hole nest.first zs (at_value os) es g h = absurd h.at
hole nest.first zs (done x) es g h = absurd g
hole (nest.item xs) zs (at_item vs os) es g h = (in_array vs ∷ os, h.told, h.open_)
hole (nest.item xs) zs (at_member ms os) es g h = absurd (not_both (snoc_is xs (open_before zs os) Array Object h.open_).1)
hole (nest.item xs) zs (at_value os) es g h = absurd h.at
hole (nest.item xs) zs (done x) es g h = absurd g

closes_array : (zs xs : List Bracket) (phase : Phase) (p : Progress) (es : List Event) → GoesOn p → Has zs es (xs ++ Array ∷ []) phase p → phase ≢ AfterName → (q : Progress) × Has zs (es ++ t.array_end ∷ []) xs AfterValue q
closes_array zs xs phase (at_item vs os) es g h n =
    let x : Value = v.array vs in
    let e : told_before os ++ flatten x ≡ es ++ t.array_end ∷ [] = sym (append_assoc (told_before os) (t.array_start ∷ flatten_values vs) (t.array_end ∷ [])) ∙ ap (λ fs. fs ++ t.array_end ∷ []) h.told in
    (put x os, record { told = told_put x os ∙ e; open_ = (snoc_is xs (open_before zs os) Array Array h.open_).0 ∙ sym (open_put zs x os); at = at_put x os })
closes_array zs xs phase (at_member ms os) es g h n = absurd (not_both (snoc_is xs (open_before zs os) Array Object h.open_).1)
closes_array zs xs phase (at_value os) es g h n = absurd (n (named phase h.at))
  where
    named : (phase : Phase) → IsAt phase (at_value os) → phase ≡ AfterName
    named AfterName a = refl
    named Start a = absurd a
    named FirstItem a = absurd a
    named FirstMember a = absurd a
    named AfterValue a = absurd a
closes_array zs xs phase (done x) es g h n = absurd g

closes_object : (zs xs : List Bracket) (phase : Phase) (p : Progress) (es : List Event) → GoesOn p → Has zs es (xs ++ Object ∷ []) phase p → phase ≢ AfterName → (q : Progress) × Has zs (es ++ t.object_end ∷ []) xs AfterValue q
closes_object zs xs phase (at_member ms os) es g h n =
    let x : Value = v.object ms in
    let e : told_before os ++ flatten x ≡ es ++ t.object_end ∷ [] = sym (append_assoc (told_before os) (t.object_start ∷ flatten_members ms) (t.object_end ∷ [])) ∙ ap (λ fs. fs ++ t.object_end ∷ []) h.told in
    (put x os, record { told = told_put x os ∙ e; open_ = (snoc_is xs (open_before zs os) Object Object h.open_).0 ∙ sym (open_put zs x os); at = at_put x os })
closes_object zs xs phase (at_item vs os) es g h n = absurd (not_both (sym (snoc_is xs (open_before zs os) Object Array h.open_).1))
closes_object zs xs phase (at_value os) es g h n = absurd (n (named phase h.at))
  where
    named : (phase : Phase) → IsAt phase (at_value os) → phase ≡ AfterName
    named AfterName a = refl
    named Start a = absurd a
    named FirstItem a = absurd a
    named FirstMember a = absurd a
    named AfterValue a = absurd a
closes_object zs xs phase (done x) es g h n = absurd g

names : (zs xs : List Bracket) (phase : Phase) (p : Progress) (es : List Event) (text : List ℕ) → GoesOn p → Has zs es (xs ++ Object ∷ []) phase p → phase ≢ AfterName → (q : Progress) × Has zs (es ++ t.name text ∷ []) (xs ++ Object ∷ []) AfterName q
names zs xs phase (at_member ms os) es text g h n =
    let e = sym (append_assoc (told_before os) (t.object_start ∷ flatten_members ms) (t.name text ∷ [])) ∙ ap (λ fs. fs ++ t.name text ∷ []) h.told in
    (at_value (in_object ms text ∷ os), record { told = e; open_ = h.open_; at = tt })
names zs xs phase (at_item vs os) es text g h n = absurd (not_both (sym (snoc_is xs (open_before zs os) Object Array h.open_).1))
names zs xs phase (at_value os) es text g h n = absurd (n (named phase h.at))
  where
    named : (phase : Phase) → IsAt phase (at_value os) → phase ≡ AfterName
    named AfterName a = refl
    named Start a = absurd a
    named FirstItem a = absurd a
    named FirstMember a = absurd a
    named AfterValue a = absurd a
names zs xs phase (done x) es text g h n = absurd g

not_first_item : FirstItem ≢ AfterName
not_first_item e = cc

not_first_member : FirstMember ≢ AfterName
not_first_member e = cc

not_after_value : AfterValue ≢ AfterName
not_after_value e = cc

-- the event leads on
pub event_has : {n m : Nest} {event : r.Event} (zs : List Bracket) → Leads n event m → (p : Progress) (es : List Event) (text : List ℕ) → GoesOn p → Has zs es n.open_ n.phase p → (q : Progress) × Has zs (es ++ option_to_list (last_of (Some event) text)) m.open_ m.phase q
event_has zs (nest.array_start u) p es text g h =
    let o = hole u zs p es g h in
    (at_item v.no_values o.0, record { told = ap (λ fs. fs ++ t.array_start ∷ []) o.1; open_ = ap (λ xs. xs ++ Array ∷ []) o.2; at = tt })
event_has zs (nest.object_start u) p es text g h =
    let o = hole u zs p es g h in
    (at_member v.no_members o.0, record { told = ap (λ fs. fs ++ t.object_start ∷ []) o.1; open_ = ap (λ xs. xs ++ Object ∷ []) o.2; at = tt })
event_has zs (nest.str u) p es text g h = let o = hole u zs p es g h in has_value o.0 (v.string text) o.1 o.2
event_has zs (nest.number u) p es text g h = let o = hole u zs p es g h in has_value o.0 (v.number text) o.1 o.2
event_has zs (nest.yes_ u) p es text g h = let o = hole u zs p es g h in has_value o.0 (v.boolean _) o.1 o.2
event_has zs (nest.no_ u) p es text g h = let o = hole u zs p es g h in has_value o.0 (v.boolean _) o.1 o.2
event_has zs (nest.null u) p es text g h = let o = hole u zs p es g h in has_value o.0 v.null o.1 o.2
event_has zs (nest.no_items xs) p es text g h = closes_array zs xs FirstItem p es g h not_first_item
event_has zs (nest.last_item xs) p es text g h = closes_array zs xs AfterValue p es g h not_after_value
event_has zs (nest.first_name xs) p es text g h = names zs xs FirstMember p es text g h not_first_member
event_has zs (nest.next_name xs) p es text g h = names zs xs AfterValue p es text g h not_after_value
event_has zs (nest.no_members xs) p es text g h = closes_object zs xs FirstMember p es g h not_first_member
event_has zs (nest.last_member xs) p es text g h = closes_object zs xs AfterValue p es g h not_after_value
event_has zs nest.end (at_item vs os) es text g h = absurd (no_snoc (open_before zs os) Array h.open_)
event_has zs nest.end (at_member ms os) es text g h = absurd (no_snoc (open_before zs os) Object h.open_)
event_has zs nest.end (at_value os) es text g h = absurd h.at
event_has zs nest.end (done x) es text g h = absurd g

-- ---- the beginning and the end

-- the event before the first one that is read over, where a value has begun
abbrev pub first_of : Phase → List Event
first_of FirstItem = t.array_start ∷ []
first_of FirstMember = t.object_start ∷ []
first_of phase = []

before_len : (zs : List Bracket) (os : List Outer) → length zs ≤ length (open_before zs os)
before_len zs [] = omega arith
before_len zs (in_array vs ∷ os) = let h = before_len zs os in omega (arith, length-append (open_before zs os) (Array ∷ []))
before_len zs (in_object ms n ∷ os) = let h = before_len zs os in omega (arith, length-append (open_before zs os) (Object ∷ []))

pub still_on : {zs xs : List Bracket} {es : List Event} {phase : Phase} (p : Progress) → Has zs es xs phase p → length zs < length xs → GoesOn p
still_on (at_item vs os) h l = tt
still_on (at_member ms os) h l = tt
still_on (at_value os) h l = tt
still_on {zs} {xs} (done x) h l = absurd (let e = ap length h.open_ in omega arith)

pub is_over : {zs xs : List Bracket} {es : List Event} (p : Progress) → Has zs es xs AfterValue p → length xs ≤ length zs → (x : Value) × (flatten x ≡ es)
is_over {zs} {xs} (at_item vs os) h l = absurd (let e = ap length h.open_ in let b = before_len zs os in omega (arith, length-append (open_before zs os) (Array ∷ [])))
is_over {zs} {xs} (at_member ms os) h l = absurd (let e = ap length h.open_ in let b = before_len zs os in omega (arith, length-append (open_before zs os) (Object ∷ [])))
is_over (at_value os) h l = absurd h.at
is_over (done x) h l = (x, h.told)

front_is : (b : Bracket) (xs : List Bracket) (opened : ℕ) (w : IsWithin b xs) → opened + 1 ≡ length xs → xs ≡ take opened xs ++ b ∷ []
front_is b xs opened w e =
    let len : opened ≡ length w.outer = omega (arith, length-append w.outer (b ∷ []), ap length w.is) in
    let same : take opened xs ≡ w.outer = rw (len, w.is) (take-append-le (length w.outer) w.outer (b ∷ []) (omega arith) ∙ take_all (length w.outer) w.outer (omega arith)) in
    w.is ∙ ap (λ (ys : List Bracket). ys ++ b ∷ []) (sym same)

pub begun_has : (phase : Phase) (opened : ℕ) (xs : List Bracket) → IsAround phase opened xs → nest.Occurs phase xs → (p : Progress) × GoesOn p × Has (take opened xs) (first_of phase ++ []) xs phase p
begun_has FirstItem opened xs a o = (at_item v.no_values [], tt, record { told = refl; open_ = front_is Array xs opened o a; at = tt })
begun_has FirstMember opened xs a o = (at_member v.no_members [], tt, record { told = refl; open_ = front_is Object xs opened o a; at = tt })
begun_has AfterName opened xs a o = (at_value [], tt, record { told = refl; open_ = sym (take_all opened xs (omega arith)); at = tt })
begun_has Start opened xs a o = absurd a
begun_has AfterValue opened xs a o = absurd a

abbrev tail : List Event → List Event
tail [] = []
tail (e ∷ es) = es

pub rest_is : (phase : Phase) (opened : ℕ) (xs : List Bracket) (es : List Event) (x : Value) → IsAround phase opened xs → flatten x ≡ first_of phase ++ es → IsRest phase es
rest_is AfterName opened xs es x a e = (x, sym e)
rest_is FirstItem opened xs es (v.array vs) a e = (vs, sym (ap tail e))
rest_is FirstItem opened xs es v.null a e = absurd (let p : ⊥ = cc in p)
rest_is FirstItem opened xs es (v.boolean b) a e = absurd (let p : ⊥ = cc in p)
rest_is FirstItem opened xs es (v.number n) a e = absurd (let p : ⊥ = cc in p)
rest_is FirstItem opened xs es (v.string s) a e = absurd (let p : ⊥ = cc in p)
rest_is FirstItem opened xs es (v.object ms) a e = absurd (let p : ⊥ = cc in p)
rest_is FirstMember opened xs es (v.object ms) a e = (ms, sym (ap tail e))
rest_is FirstMember opened xs es v.null a e = absurd (let p : ⊥ = cc in p)
rest_is FirstMember opened xs es (v.boolean b) a e = absurd (let p : ⊥ = cc in p)
rest_is FirstMember opened xs es (v.number n) a e = absurd (let p : ⊥ = cc in p)
rest_is FirstMember opened xs es (v.string s) a e = absurd (let p : ⊥ = cc in p)
rest_is FirstMember opened xs es (v.array vs) a e = absurd (let p : ⊥ = cc in p)
rest_is Start opened xs es x a e = absurd a
rest_is AfterValue opened xs es x a e = absurd a
