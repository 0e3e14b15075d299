-- Where a reader stands.
use Rattle.std.proofs.Common.{sym, ◌≡◌, ◌≢◌, ℕ, ◌-◌, ◌<◌, ◌≤◌, List, [], ◌∷◌, length, take, refl, subst, ap, ◌∙◌, arith, inl, inr}
use Rattle.std.specs.Prelude.{Option, Some, None, ◌⊎◌}
use Rattle.std.proofs.lemmas.List.{length-append, take_all, take-append-le}
use Rattle.prof_grammar.specs.Event as t
use Rattle.prof_token.specs.Numbers.{IsNumeral}
use Rattle.prof_json.specs.Nest.{IsWithin, Occurs}
use Rattle.prof_json.specs.Position as p
use Rattle.prof_json.specs.Position.{Position, fresh, last_of, IsReady, IsSound, IsLast}
use Rattle.prof_json.specs.Skip as s
use Rattle.prof_json.specs.Skip.{IsText, IsSkippable, IsSkipped, IsRest, IsBegun, Closes, outside_of}
use Rattle.prof_json.specs.declared.nesting.Bracket.{Bracket}
use Rattle.prof_json.specs.declared.nesting.Bracket.TheVariants.{Array, Object}
use Rattle.prof_json.specs.declared.nesting.Phase.{Phase}
use Rattle.prof_json.specs.declared.nesting.Phase.TheVariants.{Start, AfterName, AfterValue}
use Rattle.prof_token.specs.declared.fault.JsonFault.{JsonFault}
use Rattle.prof_json.specs.declared.answer.Event.{Event}
use Rattle.prof_json.specs.declared.answer.Event.TheVariants.{ObjectStart, ObjectEnd, ArrayStart, ArrayEnd, Name, Str, Number, True, False, Null, End}

pub fresh_is : (bytes : List ℕ) (place limit most : ℕ) (xs : List Bracket) → bytes ≡ [] → place ≡ 0 → limit ≡ most → xs ≡ [] →
    let q : Position = record { ahead = bytes; place = place; limit = limit; nest = record { open_ = xs; phase = Start }; last = None; fault = None } in q ≡ fresh most
fresh_is bytes place limit most xs e f g h = rw (e, f, g, h)

-- ---- the last event

pub text_is : (last : Option Event) (bytes x : List ℕ) → IsText (last_of last bytes) x → IsText (last_of last bytes) bytes
text_is (Some Name) bytes x h = s.name
text_is (Some Str) bytes x h = s.str
text_is None bytes x h = elim h [ ]
text_is (Some ObjectStart) bytes x h = elim h [ ]
text_is (Some ObjectEnd) bytes x h = elim h [ ]
text_is (Some ArrayStart) bytes x h = elim h [ ]
text_is (Some ArrayEnd) bytes x h = elim h [ ]
text_is (Some Number) bytes x h = elim h [ ]
text_is (Some True) bytes x h = elim h [ ]
text_is (Some False) bytes x h = elim h [ ]
text_is (Some Null) bytes x h = elim h [ ]
text_is (Some End) bytes x h = elim h [ ]

pub number_is : (last : Option Event) (bytes text : List ℕ) → last_of last bytes ≡ Some (t.number text) → IsSound last bytes → (last_of last bytes ≡ Some (t.number bytes)) × IsNumeral bytes
number_is (Some Number) bytes text h k = (refl, k)
number_is None bytes text h k = absurd (let q : ⊥ = cc in q)
number_is (Some ObjectStart) bytes text h k = absurd (let q : ⊥ = cc in q)
number_is (Some ObjectEnd) bytes text h k = absurd (let q : ⊥ = cc in q)
number_is (Some ArrayStart) bytes text h k = absurd (let q : ⊥ = cc in q)
number_is (Some ArrayEnd) bytes text h k = absurd (let q : ⊥ = cc in q)
number_is (Some Name) bytes text h k = absurd (let q : ⊥ = cc in q)
number_is (Some Str) bytes text h k = absurd (let q : ⊥ = cc in q)
number_is (Some True) bytes text h k = absurd (let q : ⊥ = cc in q)
number_is (Some False) bytes text h k = absurd (let q : ⊥ = cc in q)
number_is (Some Null) bytes text h k = absurd (let q : ⊥ = cc in q)
number_is (Some End) bytes text h k = absurd (let q : ⊥ = cc in q)

pub last_is : (event : Event) (bytes : List ℕ) → IsLast event (last_of (Some event) bytes)
last_is ObjectStart bytes = p.shown p.object_start
last_is ObjectEnd bytes = p.shown p.object_end
last_is ArrayStart bytes = p.shown p.array_start
last_is ArrayEnd bytes = p.shown p.array_end
last_is Name bytes = p.shown p.name
last_is Str bytes = p.shown p.str
last_is Number bytes = p.shown p.number
last_is True bytes = p.shown p.yes_
last_is False bytes = p.shown p.no_
last_is Null bytes = p.shown p.null
last_is End bytes = p.ended

-- ---- values that are read over

pub begun_is : (last : Option Event) (bytes : List ℕ) (xs : List Bracket) (phase : Phase) → IsSkippable (last_of last bytes) → IsReady xs phase last → IsBegun last xs
begun_is (Some Name) bytes xs phase h k = tt
begun_is (Some ArrayStart) bytes xs phase h k = subst (λ (q : Phase). Occurs q xs) k.behind k.occurs
begun_is (Some ObjectStart) bytes xs phase h k = subst (λ (q : Phase). Occurs q xs) k.behind k.occurs
begun_is None bytes xs phase h k = elim h [ ]
begun_is (Some ObjectEnd) bytes xs phase h k = elim h [ ]
begun_is (Some ArrayEnd) bytes xs phase h k = elim h [ ]
begun_is (Some Str) bytes xs phase h k = elim h [ ]
begun_is (Some Number) bytes xs phase h k = elim h [ ]
begun_is (Some True) bytes xs phase h k = elim h [ ]
begun_is (Some False) bytes xs phase h k = elim h [ ]
begun_is (Some Null) bytes xs phase h k = elim h [ ]
begun_is (Some End) bytes xs phase h k = elim h [ ]

within_len : (bracket : Bracket) (xs : List Bracket) → IsWithin bracket xs → 1 ≤ length xs
within_len bracket xs w = omega (arith, length-append w.outer (bracket ∷ []), ap length w.is)

pub inside_is : (last : Option Event) (xs : List Bracket) (phase : Phase) → IsBegun last xs → IsReady xs phase last → (outside_of last xs < length xs) ⊎ (phase ≡ AfterName)
inside_is (Some Name) xs phase h k = inr k.behind
inside_is (Some ArrayStart) xs phase h k = let q = within_len Array xs h in inl (omega arith)
inside_is (Some ObjectStart) xs phase h k = let q = within_len Object xs h in inl (omega arith)
inside_is None xs phase h k = absurd h
inside_is (Some ObjectEnd) xs phase h k = absurd h
inside_is (Some ArrayEnd) xs phase h k = absurd h
inside_is (Some Str) xs phase h k = absurd h
inside_is (Some Number) xs phase h k = absurd h
inside_is (Some True) xs phase h k = absurd h
inside_is (Some False) xs phase h k = absurd h
inside_is (Some Null) xs phase h k = absurd h
inside_is (Some End) xs phase h k = absurd h

pub outside_within : (last : Option Event) (xs : List Bracket) → outside_of last xs ≤ length xs
outside_within (Some Name) xs = omega arith
outside_within None xs = omega arith
outside_within (Some ObjectStart) xs = omega arith
outside_within (Some ObjectEnd) xs = omega arith
outside_within (Some ArrayStart) xs = omega arith
outside_within (Some ArrayEnd) xs = omega arith
outside_within (Some Str) xs = omega arith
outside_within (Some Number) xs = omega arith
outside_within (Some True) xs = omega arith
outside_within (Some False) xs = omega arith
outside_within (Some Null) xs = omega arith
outside_within (Some End) xs = omega arith

pub begun_len : (last : Option Event) (xs : List Bracket) → IsBegun last xs → (last ≢ Some Name) → 1 ≤ length xs
begun_len (Some Name) xs h f = absurd (f refl)
begun_len (Some ArrayStart) xs h f = within_len Array xs h
begun_len (Some ObjectStart) xs h f = within_len Object xs h
begun_len None xs h f = absurd h
begun_len (Some ObjectEnd) xs h f = absurd h
begun_len (Some ArrayEnd) xs h f = absurd h
begun_len (Some Str) xs h f = absurd h
begun_len (Some Number) xs h f = absurd h
begun_len (Some True) xs h f = absurd h
begun_len (Some False) xs h f = absurd h
begun_len (Some Null) xs h f = absurd h
begun_len (Some End) xs h f = absurd h

front_of : (bracket : Bracket) (xs ys : List Bracket) (w : IsWithin bracket xs) → ys ≡ take (length xs - 1) xs → ys ≡ w.outer
front_of bracket xs ys w e =
    let len : length xs - 1 ≡ length w.outer = omega (arith, length-append w.outer (bracket ∷ []), ap length w.is) in
    rw (e, len, w.is) (take-append-le (length w.outer) w.outer (bracket ∷ []) (omega arith) ∙ take_all (length w.outer) w.outer (omega arith))

pub closes_is : (last : Option Event) (bytes : List ℕ) (xs ys : List Bracket) (phase : Phase) → IsBegun last xs → ys ≡ take (outside_of last xs) xs →
    Closes (last_of last bytes) (record { open_ = xs; phase = phase }) (record { open_ = ys; phase = AfterValue })
closes_is (Some Name) bytes xs ys phase h e = let q : ys ≡ xs = e ∙ take_all (length xs) xs (omega arith) in rw q s.member_value
closes_is (Some ArrayStart) bytes xs ys phase h e = rw (front_of Array xs ys h e) (rw h.is (s.all_items h.outer))
closes_is (Some ObjectStart) bytes xs ys phase h e = rw (front_of Object xs ys h e) (rw h.is (s.all_members h.outer))
closes_is None bytes xs ys phase h e = absurd h
closes_is (Some ObjectEnd) bytes xs ys phase h e = absurd h
closes_is (Some ArrayEnd) bytes xs ys phase h e = absurd h
closes_is (Some Str) bytes xs ys phase h e = absurd h
closes_is (Some Number) bytes xs ys phase h e = absurd h
closes_is (Some True) bytes xs ys phase h e = absurd h
closes_is (Some False) bytes xs ys phase h e = absurd h
closes_is (Some Null) bytes xs ys phase h e = absurd h
closes_is (Some End) bytes xs ys phase h e = absurd h

pub skippable_of : {A : Type 0} (fault : Option JsonFault) → fault ≡ None → ((fault ≢ None) ⊎ A) → A
skippable_of fault e (inl f) = absurd (f e)
skippable_of fault e (inr a) = a

pub skipped_is : (last : Option Event) (bytes : List ℕ) (xs : List Bracket) (phase : Phase) (es : List t.Event) → IsSkippable (last_of last bytes) → IsReady xs phase last → IsRest phase es → IsSkipped (last_of last bytes) es
skipped_is (Some Name) bytes xs phase es h k r =
    let v = subst (λ (q : Phase). IsRest q es) k.behind r in subst (λ (fs : List t.Event). IsSkipped (last_of (Some Name) bytes) fs) (sym v.1) (s.member_value v.0)
skipped_is (Some ArrayStart) bytes xs phase es h k r =
    let v = subst (λ (q : Phase). IsRest q es) k.behind r in subst (λ (fs : List t.Event). IsSkipped (last_of (Some ArrayStart) bytes) fs) (sym v.1) (s.all_items v.0)
skipped_is (Some ObjectStart) bytes xs phase es h k r =
    let v = subst (λ (q : Phase). IsRest q es) k.behind r in subst (λ (fs : List t.Event). IsSkipped (last_of (Some ObjectStart) bytes) fs) (sym v.1) (s.all_members v.0)
skipped_is None bytes xs phase es h k r = elim h [ ]
skipped_is (Some ObjectEnd) bytes xs phase es h k r = elim h [ ]
skipped_is (Some ArrayEnd) bytes xs phase es h k r = elim h [ ]
skipped_is (Some Str) bytes xs phase es h k r = elim h [ ]
skipped_is (Some Number) bytes xs phase es h k r = elim h [ ]
skipped_is (Some True) bytes xs phase es h k r = elim h [ ]
skipped_is (Some False) bytes xs phase es h k r = elim h [ ]
skipped_is (Some Null) bytes xs phase es h k r = elim h [ ]
skipped_is (Some End) bytes xs phase es h k r = elim h [ ]

-- ---- the last event of a call that gave this one

pub last_name : {last : Option t.Event} {event : Event} → IsLast event last → event ≡ Name → (x : List ℕ) × IsText last x
last_name {last} h e = go last (rw e at h)
  where
    go : (last : Option t.Event) → IsLast Name last → (x : List ℕ) × IsText last x
    go last (p.shown (p.name {s = x})) = (x, s.name)

pub last_str : {last : Option t.Event} {event : Event} → IsLast event last → event ≡ Str → (x : List ℕ) × IsText last x
last_str {last} h e = go last (rw e at h)
  where
    go : (last : Option t.Event) → IsLast Str last → (x : List ℕ) × IsText last x
    go last (p.shown (p.str {s = x})) = (x, s.str)

pub last_number : {last : Option t.Event} {event : Event} → IsLast event last → event ≡ Number → (x : List ℕ) × (last ≡ Some (t.number x))
last_number {last} h e = go last (rw e at h)
  where
    go : (last : Option t.Event) → IsLast Number last → (x : List ℕ) × (last ≡ Some (t.number x))
    go last (p.shown (p.number {t = x})) = (x, refl)

pub last_begins_name : {last : Option t.Event} → IsLast Name last → IsSkippable last
last_begins_name (p.shown p.name) = s.member_value

pub last_begins_array : {last : Option t.Event} → IsLast ArrayStart last → IsSkippable last
last_begins_array (p.shown p.array_start) = s.all_items

pub last_begins_object : {last : Option t.Event} → IsLast ObjectStart last → IsSkippable last
last_begins_object (p.shown p.object_start) = s.all_members
