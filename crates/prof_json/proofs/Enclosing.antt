-- Events among brackets.
use Rattle.std.proofs.Common.{◌≡◌, ◌≢◌, ℕ, suc, ◌+◌, ◌-◌, ◌<◌, ◌≤◌, true, List, [], ◌∷◌, ◌++◌, length, take, refl, sym, ap, ◌∙◌, arith}
use Rattle.std.specs.Prelude.{Some, None, Result, Ok, Err, IfOk, slice_get, ◌⊎◌}
use Rattle.std.proofs.Common.{inl, inr}
use Rattle.std.proofs.lemmas.List.{length-append, take-append-le, take_all}
use Rattle.prof_token.specs.Ahead.{Ahead, Passes}
use Rattle.prof_token.specs.Kept.{Kept, Adds, with}
use Rattle.prof_token.specs.Numbers.{IsNumeral}
use Rattle.prof_json.specs.Nest as nest
use Rattle.prof_json.specs.Nest.{Nest, Leads, TakesValue, IsWithin, phase_after}
use Rattle.prof_json.specs.Step as s
use Rattle.prof_json.specs.Step.{Begins, BeginsValue, IsStep, Keeps}
use Rattle.prof_json.specs.declared.nesting.Bracket.{Bracket}
use Rattle.prof_json.specs.declared.nesting.Bracket.TheVariants.{Array, Object}
use Rattle.prof_json.specs.declared.nesting.Phase.{Phase}
use Rattle.prof_json.specs.declared.nesting.Phase.TheVariants.{FirstItem, FirstMember, AfterName, AfterValue}
use Rattle.prof_token.specs.declared.fault.JsonFault.{JsonFault}
use Rattle.prof_json.specs.declared.answer.Event.{Event}
use Rattle.prof_json.specs.declared.answer.Event.TheVariants as e

-- ---- values

pub begins_array : {xs ys : List Bracket} {a b : Ahead} {k m : Kept} → ys ≡ xs ++ Array ∷ [] → length ys ≤ 256 → Passes 1 a b → BeginsValue xs e.ArrayStart ys a b k m
begins_array {xs} {a = a} h few p = record { begins = rw h s.array_start; few = few; further = let q = p.place in omega arith; keeps = λ _ _. tt }

pub begins_object : {xs ys : List Bracket} {a b : Ahead} {k m : Kept} → ys ≡ xs ++ Object ∷ [] → length ys ≤ 256 → Passes 1 a b → BeginsValue xs e.ObjectStart ys a b k m
begins_object {xs} {a = a} h few p = record { begins = rw h s.object_start; few = few; further = let q = p.place in omega arith; keeps = λ _ _. tt }

pub begins_str : {xs : List Bracket} {a b : Ahead} {k m : Kept} → length xs ≤ 256 → a.place < b.place → BeginsValue xs e.Str xs a b k m
begins_str few p = record { begins = s.str; few = few; further = p; keeps = λ _ _. tt }

kept_number : (k m : Kept) → Adds IsNumeral k m → k.bytes ≡ [] → k.keeping ≡ true → IsNumeral m.bytes
unfolding with
kept_number k m h none keeps =
    let bytes : m.bytes ≡ h.piece = ap (λ (x : Kept). x.bytes) h.text.is ∙ (let q : (with k h.piece).bytes ≡ h.piece = rw (keeps, none) in q) in
    rw bytes h.is

pub begins_number : {xs : List Bracket} {a b : Ahead} {k m : Kept} → length xs ≤ 256 → a.place < b.place → Adds IsNumeral k m → BeginsValue xs e.Number xs a b k m
begins_number {k = k} {m = m} few p h = record { begins = s.number; few = few; further = p; keeps = kept_number k m h }

pub begins_true : {xs : List Bracket} {a b : Ahead} {k m : Kept} → length xs ≤ 256 → a.place < b.place → BeginsValue xs e.True xs a b k m
begins_true few p = record { begins = s.yes_; few = few; further = p; keeps = λ _ _. tt }

pub begins_false : {xs : List Bracket} {a b : Ahead} {k m : Kept} → length xs ≤ 256 → a.place < b.place → BeginsValue xs e.False xs a b k m
begins_false few p = record { begins = s.no_; few = few; further = p; keeps = λ _ _. tt }

pub begins_null : {xs : List Bracket} {a b : Ahead} {k m : Kept} → length xs ≤ 256 → a.place < b.place → BeginsValue xs e.Null xs a b k m
begins_null few p = record { begins = s.null; few = few; further = p; keeps = λ _ _. tt }

-- behind bytes that were passed
pub begins_behind : {xs ys : List Bracket} {event : Event} {a b c : Ahead} {k m : Kept} → a.place ≤ b.place → BeginsValue xs event ys b c k m → BeginsValue xs event ys a c k m
begins_behind p h = let q = h.further in record { begins = h.begins; few = h.few; further = omega arith; keeps = h.keeps }

leads_value : (xs : List Bracket) (phase : Phase) (event : Event) (ys : List Bracket) → TakesValue (record { open_ = xs; phase = phase }) → Begins xs event ys → Leads (record { open_ = xs; phase = phase }) event (record { open_ = ys; phase = phase_after event })
leads_value xs phase event ys t s.array_start = nest.array_start t
leads_value xs phase event ys t s.object_start = nest.object_start t
leads_value xs phase event ys t s.str = nest.str t
leads_value xs phase event ys t s.number = nest.number t
leads_value xs phase event ys t s.yes_ = nest.yes_ t
leads_value xs phase event ys t s.no_ = nest.no_ t
leads_value xs phase event ys t s.null = nest.null t

pub steps_value : {xs ys : List Bracket} {phase : Phase} {event : Event} {a b c : Ahead} {k m : Kept} → TakesValue (record { open_ = xs; phase = phase }) → a.place ≤ b.place →
    BeginsValue xs event ys b c k m → IsStep (record { open_ = xs; phase = phase }) event ys a c k m
steps_value {xs} {ys} {phase} {event} t p h = let q = h.further in record { leads = leads_value xs phase event ys t h.begins; few = h.few; further = λ _. omega arith; keeps = h.keeps }

-- ---- names and closing brackets

pub takes_item : {xs : List Bracket} → IsWithin Array xs → TakesValue (record { open_ = xs; phase = AfterValue })
takes_item w = rw w.is (nest.item w.outer)

pub steps_first_name : {xs : List Bracket} {a b : Ahead} {k m : Kept} → IsWithin Object xs → length xs ≤ 256 → a.place < b.place → IsStep (record { open_ = xs; phase = FirstMember }) e.Name xs a b k m
steps_first_name w few p = record { leads = rw w.is (nest.first_name w.outer); few = few; further = λ _. p; keeps = λ _ _. tt }

pub steps_next_name : {xs : List Bracket} {a b : Ahead} {k m : Kept} → IsWithin Object xs → length xs ≤ 256 → a.place < b.place → IsStep (record { open_ = xs; phase = AfterValue }) e.Name xs a b k m
steps_next_name w few p = record { leads = rw w.is (nest.next_name w.outer); few = few; further = λ _. p; keeps = λ _ _. tt }

fewer : (bracket : Bracket) (xs outer : List Bracket) → xs ≡ outer ++ bracket ∷ [] → length xs ≤ 256 → length outer ≤ 256
fewer bracket xs outer e h = omega (arith, length-append outer (bracket ∷ []), ap length e)

pub Closes : Bracket → List Bracket → List Bracket → Type 0
Closes bracket xs ys = (outer : List Bracket) → xs ≡ outer ++ bracket ∷ [] → ys ≡ outer

pub steps_no_items : {xs ys : List Bracket} {a b : Ahead} {k m : Kept} (w : IsWithin Array xs) → length xs ≤ 256 → a.place < b.place → ys ≡ w.outer → IsStep (record { open_ = xs; phase = FirstItem }) e.ArrayEnd ys a b k m
steps_no_items {xs} w few p c = rw c (record { leads = rw w.is (nest.no_items w.outer); few = fewer Array xs w.outer w.is few; further = λ _. p; keeps = λ _ _. tt })

pub steps_last_item : {xs ys : List Bracket} {a b : Ahead} {k m : Kept} (w : IsWithin Array xs) → length xs ≤ 256 → a.place < b.place → ys ≡ w.outer → IsStep (record { open_ = xs; phase = AfterValue }) e.ArrayEnd ys a b k m
steps_last_item {xs} w few p c = rw c (record { leads = rw w.is (nest.last_item w.outer); few = fewer Array xs w.outer w.is few; further = λ _. p; keeps = λ _ _. tt })

pub steps_no_members : {xs ys : List Bracket} {a b : Ahead} {k m : Kept} (w : IsWithin Object xs) → length xs ≤ 256 → a.place < b.place → ys ≡ w.outer → IsStep (record { open_ = xs; phase = FirstMember }) e.ObjectEnd ys a b k m
steps_no_members {xs} w few p c = rw c (record { leads = rw w.is (nest.no_members w.outer); few = fewer Object xs w.outer w.is few; further = λ _. p; keeps = λ _ _. tt })

pub steps_last_member : {xs ys : List Bracket} {a b : Ahead} {k m : Kept} (w : IsWithin Object xs) → length xs ≤ 256 → a.place < b.place → ys ≡ w.outer → IsStep (record { open_ = xs; phase = AfterValue }) e.ObjectEnd ys a b k m
steps_last_member {xs} w few p c = rw c (record { leads = rw w.is (nest.last_member w.outer); few = fewer Object xs w.outer w.is few; further = λ _. p; keeps = λ _ _. tt })

-- ---- the innermost bracket

pub within_last : {bracket : Bracket} (xs : List Bracket) → slice_get xs (length xs - 1) ≡ Some bracket → IsWithin bracket xs
within_last {bracket} [] h = absurd (let p : ⊥ = cc in p)
within_last {bracket} (x ∷ []) h = record { outer = []; is = let q : x ≡ bracket = cc in ap (λ y. y ∷ []) q }
within_last {bracket} (x ∷ y ∷ ys) h =
    let less : suc (suc (length ys)) - 1 ≡ suc (length ys) = omega arith in
    let less2 : suc (length ys) - 1 ≡ length ys = omega arith in
    let w = within_last {bracket = bracket} (y ∷ ys) (rw less2 (rw less at h)) in
    record { outer = x ∷ w.outer; is = ap (λ z. x ∷ z) w.is }

pub none_last : (xs : List Bracket) → slice_get xs (length xs - 1) ≡ None → xs ≡ []
none_last [] h = refl
none_last (x ∷ []) h = cc
none_last (x ∷ y ∷ ys) h =
    let less : suc (suc (length ys)) - 1 ≡ suc (length ys) = omega arith in
    let less2 : suc (length ys) - 1 ≡ length ys = omega arith in
    let e = none_last (y ∷ ys) (rw less2 (rw less at h)) in cc

pub steps_end : {xs : List Bracket} {a b : Ahead} {k m : Kept} → xs ≡ [] → IsStep (record { open_ = xs; phase = AfterValue }) e.End xs a b k m
steps_end h = rw h (record { leads = nest.end; few = omega arith; further = λ f. absurd (f refl); keeps = λ _ _. tt })

pub front_is : (xs ys outer : List Bracket) (bracket : Bracket) (len : ℕ) → xs ≡ outer ++ bracket ∷ [] → len ≡ length xs → ys ≡ take (len - 1) xs → ys ≡ outer
front_is xs ys outer bracket len e f t =
    let same : len - 1 ≡ length outer = omega (arith, length-append outer (bracket ∷ []), ap length e) in
    rw (t, same, e) (take_front outer)
  where
    take_front : (us : List Bracket) → take (length us) (us ++ bracket ∷ []) ≡ us
    take_front [] = refl
    take_front (u ∷ us) = ap (λ r. u ∷ r) (take_front us)

-- ---- events that are read over

keeps_front : (k : ℕ) (xs : List Bracket) (bracket : Bracket) → k ≤ length xs → take k (xs ++ bracket ∷ []) ≡ take k xs
keeps_front k xs bracket h = take-append-le k xs (bracket ∷ []) h

shorter : (k : ℕ) (xs : List Bracket) (bracket : Bracket) → k < length (xs ++ bracket ∷ []) → k ≤ length xs
shorter k xs bracket h = omega (arith, length-append xs (bracket ∷ []))

longer : (k : ℕ) (xs : List Bracket) (bracket : Bracket) → k ≤ length xs → k ≤ length (xs ++ bracket ∷ [])
longer k xs bracket h = omega (arith, length-append xs (bracket ∷ []))

-- an event leaves the brackets that were open outside
pub outside_stays : {n m : Nest} {event : Event} → Leads n event m → (k : ℕ) → k ≤ length n.open_ → ((k < length n.open_) ⊎ (n.phase ≡ AfterName)) → (take k m.open_ ≡ take k n.open_) × (k ≤ length m.open_)
outside_stays (nest.array_start {n} t) k h d = (keeps_front k n.open_ Array h, longer k n.open_ Array h)
outside_stays (nest.object_start {n} t) k h d = (keeps_front k n.open_ Object h, longer k n.open_ Object h)
outside_stays (nest.str t) k h d = (refl, h)
outside_stays (nest.number t) k h d = (refl, h)
outside_stays (nest.yes_ t) k h d = (refl, h)
outside_stays (nest.no_ t) k h d = (refl, h)
outside_stays (nest.null t) k h d = (refl, h)
outside_stays (nest.no_items xs) k h (inl d) = (sym (keeps_front k xs Array (shorter k xs Array d)), shorter k xs Array d)
outside_stays (nest.no_items xs) k h (inr d) = absurd (let p : ⊥ = cc in p)
outside_stays (nest.last_item xs) k h (inl d) = (sym (keeps_front k xs Array (shorter k xs Array d)), shorter k xs Array d)
outside_stays (nest.last_item xs) k h (inr d) = absurd (let p : ⊥ = cc in p)
outside_stays (nest.first_name xs) k h d = (refl, h)
outside_stays (nest.next_name xs) k h d = (refl, h)
outside_stays (nest.no_members xs) k h (inl d) = (sym (keeps_front k xs Object (shorter k xs Object d)), shorter k xs Object d)
outside_stays (nest.no_members xs) k h (inr d) = absurd (let p : ⊥ = cc in p)
outside_stays (nest.last_member xs) k h (inl d) = (sym (keeps_front k xs Object (shorter k xs Object d)), shorter k xs Object d)
outside_stays (nest.last_member xs) k h (inr d) = absurd (let p : ⊥ = cc in p)
outside_stays nest.end k h d = (refl, h)

-- the nest behind an event occurs
pub occurs_behind : {n m : Nest} {event : Event} → Leads n event m → nest.Occurs m.phase m.open_
occurs_behind (nest.array_start {n} t) = record { outer = n.open_; is = refl }
occurs_behind (nest.object_start {n} t) = record { outer = n.open_; is = refl }
occurs_behind (nest.str t) = tt
occurs_behind (nest.number t) = tt
occurs_behind (nest.yes_ t) = tt
occurs_behind (nest.no_ t) = tt
occurs_behind (nest.null t) = tt
occurs_behind (nest.no_items xs) = tt
occurs_behind (nest.last_item xs) = tt
occurs_behind (nest.first_name xs) = record { outer = xs; is = refl }
occurs_behind (nest.next_name xs) = record { outer = xs; is = refl }
occurs_behind (nest.no_members xs) = tt
occurs_behind (nest.last_member xs) = tt
occurs_behind nest.end = tt

-- where no more brackets are open than outside, a value is over
pub value_over : {n m : Nest} {event : Event} → Leads n event m → (k : ℕ) → k ≤ length n.open_ → ((k < length n.open_) ⊎ (n.phase ≡ AfterName)) → length m.open_ ≤ k → m.phase ≡ AfterValue
value_over (nest.array_start {n} t) k h d few = absurd (omega (arith, length-append n.open_ (Array ∷ [])))
value_over (nest.object_start {n} t) k h d few = absurd (omega (arith, length-append n.open_ (Object ∷ [])))
value_over (nest.str t) k h d few = refl
value_over (nest.number t) k h d few = refl
value_over (nest.yes_ t) k h d few = refl
value_over (nest.no_ t) k h d few = refl
value_over (nest.null t) k h d few = refl
value_over (nest.no_items xs) k h d few = refl
value_over (nest.last_item xs) k h d few = refl
value_over (nest.first_name xs) k h (inl d) few = absurd (omega arith)
value_over (nest.first_name xs) k h (inr d) few = absurd (let p : ⊥ = cc in p)
value_over (nest.next_name xs) k h (inl d) few = absurd (omega arith)
value_over (nest.next_name xs) k h (inr d) few = absurd (let p : ⊥ = cc in p)
value_over (nest.no_members xs) k h d few = refl
value_over (nest.last_member xs) k h d few = refl
value_over nest.end k h d few = refl

-- within brackets the text doesn't end
pub no_end : {n m : Nest} {event : Event} → Leads n event m → (k : ℕ) → ((k < length n.open_) ⊎ (n.phase ≡ AfterName)) → event ≢ e.End
no_end nest.end k (inl d) f = omega arith
no_end nest.end k (inr d) f = let p : ⊥ = cc in p
no_end (nest.array_start t) k d f = let p : ⊥ = cc in p
no_end (nest.object_start t) k d f = let p : ⊥ = cc in p
no_end (nest.str t) k d f = let p : ⊥ = cc in p
no_end (nest.number t) k d f = let p : ⊥ = cc in p
no_end (nest.yes_ t) k d f = let p : ⊥ = cc in p
no_end (nest.no_ t) k d f = let p : ⊥ = cc in p
no_end (nest.null t) k d f = let p : ⊥ = cc in p
no_end (nest.no_items xs) k d f = let p : ⊥ = cc in p
no_end (nest.last_item xs) k d f = let p : ⊥ = cc in p
no_end (nest.first_name xs) k d f = let p : ⊥ = cc in p
no_end (nest.next_name xs) k d f = let p : ⊥ = cc in p
no_end (nest.no_members xs) k d f = let p : ⊥ = cc in p
no_end (nest.last_member xs) k d f = let p : ⊥ = cc in p

pub all_front : (k : ℕ) (xs : List Bracket) → length xs ≤ k → take k xs ≡ xs
all_front k xs h = take_all k xs h

-- ---- answers that are handed on

pub value_steps : (xs ys : List Bracket) (phase : Phase) (a b c : Ahead) (k m : Kept) (r : Result Event JsonFault) → TakesValue (record { open_ = xs; phase = phase }) → a.place ≤ b.place →
    IfOk r (λ event. BeginsValue xs event ys b c k m) → IfOk r (λ event. IsStep (record { open_ = xs; phase = phase }) event ys a c k m)
value_steps xs ys phase a b c k m (Ok event) t p h = steps_value {b = b} t p h
value_steps xs ys phase a b c k m (Err fault) t p h = tt

pub first_names : (xs : List Bracket) (a b c : Ahead) (k m : Kept) (r : Result Event JsonFault) → IsWithin Object xs → length xs ≤ 256 → a.place ≤ b.place →
    IfOk r (λ event. (event ≡ e.Name) × (b.place < c.place)) → IfOk r (λ event. IsStep (record { open_ = xs; phase = FirstMember }) event xs a c k m)
first_names xs a b c k m (Ok event) w few p h = let q = h.1 in rw h.0 (steps_first_name w few (omega arith))
first_names xs a b c k m (Err fault) w few p h = tt

pub next_names : (xs : List Bracket) (a b c : Ahead) (k m : Kept) (r : Result Event JsonFault) → IsWithin Object xs → length xs ≤ 256 → a.place ≤ b.place →
    IfOk r (λ event. (event ≡ e.Name) × (b.place < c.place)) → IfOk r (λ event. IsStep (record { open_ = xs; phase = AfterValue }) event xs a c k m)
next_names xs a b c k m (Ok event) w few p h = let q = h.1 in rw h.0 (steps_next_name w few (omega arith))
next_names xs a b c k m (Err fault) w few p h = tt

pub ends : (xs : List Bracket) (a b : Ahead) (k m : Kept) (r : Result Event JsonFault) → xs ≡ [] → IfOk r (λ event. event ≡ e.End) → IfOk r (λ event. IsStep (record { open_ = xs; phase = AfterValue }) event xs a b k m)
ends xs a b k m (Ok event) none h = rw h (steps_end none)
ends xs a b k m (Err fault) none h = tt

pub ahead_by : (x y n : ℕ) → 0 < n → x + n ≡ y → x < y
ahead_by x y n some e = omega arith
