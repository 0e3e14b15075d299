-- Items of an array that have begun: their values, by their first events.
use Rattle.std.proofs.Common.{◌≡◌, ℕ, List, [], ◌∷◌, ◌++◌, Some, true, false, refl, sym, ◌∙◌, ap}
use Rattle.prof_grammar.specs.Event as told
use Rattle.prof_grammar.specs.Value.{Value, null, boolean, number, string, array, object, Members, flatten, flatten_members, flatten_values}
use Rattle.prof_layout.specs.Lists.{is_object}
use Rattle.prof_layout.specs.Markers.{data_texts}
use Rattle.prof_json.specs.declared.answer.Event.{Event}
use Rattle.prof_json.specs.declared.answer.Event.TheVariants as event
use Rattle.prof_gather.specs.Feeding.{Told, IsBegun}
use Rattle.prof_gather.specs.Taking.{Begins, ReadsOn, ReadsMembers}
use Rattle.prof_schema.specs.RowCells.{cell_kept}
use Rattle.prof_schema.specs.declared.cells.RowCell.TheVariants as cell

-- an object's members were read behind its beginning
pub reads_object : (old new : Told) (ms : Members) → old.last ≡ Some told.object_start → ReadsMembers old new ms → ReadsOn old new (object ms)
reads_object old new ms l r = record {
  begins = record { first = told.object_start; others = flatten_members ms ++ told.object_end ∷ []; last = l; is = refl };
  told = r.told;
}

-- the kind of an event
event_of : told.Event → Event
event_of told.array_start = event.ArrayStart
event_of told.array_end = event.ArrayEnd
event_of told.object_start = event.ObjectStart
event_of told.object_end = event.ObjectEnd
event_of (told.name n) = event.Name
event_of (told.str text) = event.Str
event_of (told.number text) = event.Number
event_of (told.truth true) = event.True
event_of (told.truth false) = event.False
event_of told.null = event.Null

-- the first event of a value
first_told : Value → told.Event
first_told null = told.null
first_told (boolean b) = told.truth b
first_told (number text) = told.number text
first_told (string text) = told.str text
first_told (array vs) = told.array_start
first_told (object ms) = told.object_start

starts : (e : told.Event) (es : List told.Event) (f : told.Event) (fs : List told.Event) → e ∷ es ≡ f ∷ fs → f ≡ e
starts e es f fs h = cc

first-is : (v : Value) (s : told.Event) (es : List told.Event) → flatten v ≡ s ∷ es → s ≡ first_told v
unfolding first_told
first-is null s es h = starts told.null [] s es h
first-is (boolean b) s es h = starts (told.truth b) [] s es h
first-is (number text) s es h = starts (told.number text) [] s es h
first-is (string text) s es h = starts (told.str text) [] s es h
first-is (array vs) s es h = starts told.array_start (flatten_values vs ++ told.array_end ∷ []) s es h
first-is (object ms) s es h = starts told.object_start (flatten_members ms ++ told.object_end ∷ []) s es h

begun-told : (first : Event) (t : Told) → IsBegun first t → (e : told.Event) × (t.last ≡ Some e) × (event_of e ≡ first)
unfolding event_of
begun-told event.ObjectStart t b = (told.object_start, b.2, refl)
begun-told event.ArrayStart t b = (told.array_start, b.2, refl)
begun-told event.Str t b = (told.str b.0, b.1, refl)
begun-told event.Number t b = (told.number b.0, b.1, refl)
begun-told event.True t b = (told.truth true, b, refl)
begun-told event.False t b = (told.truth false, b, refl)
begun-told event.Null t b = (told.null, b, refl)
begun-told event.ObjectEnd t b = absurd b
begun-told event.ArrayEnd t b = absurd b
begun-told event.Name t b = absurd b
begun-told event.End t b = absurd b

-- the event that has begun a value is of the value's kind
kind-is : (first : Event) (t : Told) (v : Value) → IsBegun first t → Begins t v → first ≡ event_of (first_told v)
kind-is first t v b s =
    let e = begun-told first t b in
    let same : Some e.0 ≡ Some s.first = sym e.1 ∙ s.last in
    let one : e.0 ≡ s.first = cc in
    sym e.2 ∙ ap event_of (one ∙ first-is v s.first s.others s.is)

-- a value that began otherwise is no object
pub not_object : (first : Event) (t : Told) (v : Value) → IsBegun first t → (first ≡ event.ObjectStart → ⊥) → Begins t v → is_object v ≡ false
unfolding event_of first_told
not_object first t null b n s = refl
not_object first t (boolean x) b n s = refl
not_object first t (number text) b n s = refl
not_object first t (string text) b n s = refl
not_object first t (array vs) b n s = refl
not_object first t (object ms) b n s = absurd (n (kind-is first t (object ms) b s))

-- and has no texts
pub no_texts : (v : Value) → is_object v ≡ false → data_texts v ≡ []
no_texts null h = refl
no_texts (boolean x) h = refl
no_texts (number text) h = refl
no_texts (string text) h = refl
no_texts (array vs) h = refl
no_texts (object ms) h = cc

-- what is kept of null, of `true`, and of a value that is neither, no number and no object
pub null_kept : (first : Event) (t : Told) (v : Value) (start : ℕ) → IsBegun first t → first ≡ event.Null → Begins t v → cell.Null ≡ cell_kept start v
unfolding event_of first_told
null_kept first t null start b e s = refl
null_kept first t (boolean true) start b e s = let k = kind-is first t (boolean true) b s in cc
null_kept first t (boolean false) start b e s = let k = kind-is first t (boolean false) b s in cc
null_kept first t (number text) start b e s = let k = kind-is first t (number text) b s in cc
null_kept first t (string text) start b e s = let k = kind-is first t (string text) b s in cc
null_kept first t (array vs) start b e s = let k = kind-is first t (array vs) b s in cc
null_kept first t (object ms) start b e s = let k = kind-is first t (object ms) b s in cc

pub true_kept : (first : Event) (t : Told) (v : Value) (start : ℕ) → IsBegun first t → first ≡ event.True → Begins t v → cell.True ≡ cell_kept start v
unfolding event_of first_told
true_kept first t null start b e s = let k = kind-is first t null b s in cc
true_kept first t (boolean true) start b e s = refl
true_kept first t (boolean false) start b e s = let k = kind-is first t (boolean false) b s in cc
true_kept first t (number text) start b e s = let k = kind-is first t (number text) b s in cc
true_kept first t (string text) start b e s = let k = kind-is first t (string text) b s in cc
true_kept first t (array vs) start b e s = let k = kind-is first t (array vs) b s in cc
true_kept first t (object ms) start b e s = let k = kind-is first t (object ms) b s in cc

pub other_kept : (first : Event) (t : Told) (v : Value) (start : ℕ) → IsBegun first t → (first ≡ event.Number → ⊥) → (first ≡ event.Null → ⊥) → (first ≡ event.True → ⊥) → Begins t v → is_object v ≡ false → cell.Other ≡ cell_kept start v
unfolding event_of first_told
other_kept first t null start b numbered none truth s h = absurd (none (kind-is first t null b s))
other_kept first t (boolean true) start b numbered none truth s h = absurd (truth (kind-is first t (boolean true) b s))
other_kept first t (boolean false) start b numbered none truth s h = refl
other_kept first t (number text) start b numbered none truth s h = absurd (numbered (kind-is first t (number text) b s))
other_kept first t (string text) start b numbered none truth s h = refl
other_kept first t (array vs) start b numbered none truth s h = refl
other_kept first t (object ms) start b numbered none truth s h = cc

-- a value that a number has begun is a number
pub number_begun : (t : Told) (v : Value) → IsBegun event.Number t → Begins t v → (text : List ℕ) × (v ≡ number text)
unfolding event_of first_told
number_begun t null b s = let k = kind-is event.Number t null b s in absurd (cc)
number_begun t (boolean true) b s = let k = kind-is event.Number t (boolean true) b s in absurd (cc)
number_begun t (boolean false) b s = let k = kind-is event.Number t (boolean false) b s in absurd (cc)
number_begun t (number text) b s = (text, refl)
number_begun t (string text) b s = let k = kind-is event.Number t (string text) b s in absurd (cc)
number_begun t (array vs) b s = let k = kind-is event.Number t (array vs) b s in absurd (cc)
number_begun t (object ms) b s = let k = kind-is event.Number t (object ms) b s in absurd (cc)
