-- Items of an array that have begun.
use Rattle.std.proofs.Common.{◌≡◌, ℕ, List, [], ◌∷◌, ◌++◌, Some, true, false, refl, sym, subst, ◌∙◌, Result, Ok, Err, OnOk}
use Rattle.prof_grammar.specs.Event as told
use Rattle.prof_grammar.specs.Value.{Value, null, boolean, number, string, array, object, Members, flatten_members}
use Rattle.prof_layout.specs.Lists.{is_object}
use Rattle.prof_layout.specs.Markers.{data_texts}
use Rattle.prof_layout.specs.Profile.{is_category, category_name, is_grey}
use Rattle.prof_json.specs.declared.answer.Event.{Event}
use Rattle.prof_json.specs.declared.answer.Event.TheVariants as event
use Rattle.prof_gather.specs.Reading.{Comes}
use Rattle.prof_gather.specs.Feeding.{Told, Tells, IsBegun}
use Rattle.prof_gather.specs.Taking.{Begins, Reads, ReadsOn, ReadsMembers, TakesItem}

-- an object's members were read behind its beginning
pub reads_object : (old new : Told) (ms : Members) → old.last ≡ Some told.object_start → ReadsMembers old new ms → ReadsOn old new (object ms)
reads_object old new ms l r = record {
  begins = record { first = told.object_start; others = flatten_members ms ++ told.object_end ∷ []; last = l; is = refl };
  told = r.told;
}

-- the event of a beginning that isn't an object's isn't the first of an object
not_start : (first : Event) (t : Told) → IsBegun first t → (first ≡ event.ObjectStart → ⊥) → t.last ≡ Some told.object_start → ⊥
not_start event.ObjectStart t b n l = n refl
not_start event.ArrayStart t b n l = let e : Some told.array_start ≡ Some told.object_start = sym b.2 ∙ l in cc
not_start event.Str t b n l = let e : Some (told.str b.0) ≡ Some told.object_start = sym b.1 ∙ l in cc
not_start event.Number t b n l = let e : Some (told.number b.0) ≡ Some told.object_start = sym b.1 ∙ l in cc
not_start event.True t b n l = let e : Some (told.truth true) ≡ Some told.object_start = sym b ∙ l in cc
not_start event.False t b n l = let e : Some (told.truth false) ≡ Some told.object_start = sym b ∙ l in cc
not_start event.Null t b n l = let e : Some told.null ≡ Some told.object_start = sym b ∙ l in cc
not_start event.ObjectEnd t b n l = absurd b
not_start event.ArrayEnd t b n l = absurd b
not_start event.Name t b n l = absurd b
not_start event.End t b n l = absurd b

starts : (e : told.Event) (es : List told.Event) (f : told.Event) (fs : List told.Event) → e ∷ es ≡ f ∷ fs → f ≡ e
starts e es f fs h = cc

-- a value that began otherwise is no object
pub not_object : (first : Event) (t : Told) (v : Value) → IsBegun first t → (first ≡ event.ObjectStart → ⊥) → Begins t v → is_object v ≡ false
not_object first t null b n s = refl
not_object first t (boolean x) b n s = refl
not_object first t (number text) b n s = refl
not_object first t (string text) b n s = refl
not_object first t (array vs) b n s = refl
not_object first t (object ms) b n s =
    let e : s.first ≡ told.object_start = starts told.object_start (flatten_members ms ++ told.object_end ∷ []) s.first s.others s.is in
    let l : t.last ≡ Some told.object_start = rw e at s.last in
    absurd (not_start first t b n l)

-- what is no object is no category: it has no name and no color
pub no_category : (v : Value) → is_object v ≡ false → (is_category v ≡ false) × (category_name v ≡ []) × (is_grey v ≡ false)
no_category null h = (refl, refl, refl)
no_category (boolean x) h = (refl, refl, refl)
no_category (number text) h = (refl, refl, refl)
no_category (string text) h = (refl, refl, refl)
no_category (array vs) h = (refl, refl, refl)
no_category (object ms) h = cc

-- and has no texts
pub no_texts : (v : Value) → is_object v ≡ false → data_texts v ≡ []
no_texts null h = refl
no_texts (boolean x) h = refl
no_texts (number text) h = refl
no_texts (string text) h = refl
no_texts (array vs) h = refl
no_texts (object ms) h = cc

-- a string was read
pub reads_string : (old new : Told) (s : List ℕ) → ((t : List ℕ) × Tells old (told.str t) new) → new.last ≡ Some (told.str s) → Reads old new (string s)
reads_string old new s t l =
    let e : Some (told.str t.0) ≡ Some (told.str s) = sym t.1.last ∙ l in
    let f : t.0 ≡ s = cc in
    record { told = subst (λ (x : List ℕ). Comes old.rest (told.str x ∷ []) new.rest) f t.1.rest }

-- the item that was read is taken
pub takes_item : {S : Type 0} (Is : S → List Value → S → Type 0) (old new : Told) (s t : S) (v : Value) → ReadsOn old new v →
    ((first : S) (vs : List Value) → Is first vs s → Is first (vs ++ v ∷ []) t) → TakesItem Is old new s t
takes_item Is old new s t v r k = record { value = v; reads = r; taken = k }

pub ok_more : {T E : Type 0} (P Q : Type 0) → (P → Q) → (r : Result T E) → OnOk r P → OnOk r Q
ok_more P Q f (Ok x) h = f h
ok_more P Q f (Err e) h = tt
