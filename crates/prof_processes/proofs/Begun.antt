-- Values of a list of processes, by the event that has begun them.
use Rattle.std.proofs.Common.{◌≡◌, ◌∷◌, ◌++◌, [], List, Some, true, false, refl, sym, ◌∙◌, ap, subst}
use Rattle.prof_grammar.specs.Event as told
use Rattle.prof_grammar.specs.Value.{Value, Values, array, flatten_values}
use Rattle.prof_json.specs.declared.answer.Event.{Event}
use Rattle.prof_json.specs.declared.answer.Event.TheVariants as event
use Rattle.prof_gather.specs.Feeding.{Told, IsBegun}
use Rattle.prof_gather.specs.Taking.{Begins}

-- the event of a beginning that isn't an array's isn't the first of an array
not_start : (first : Event) (t : Told) → IsBegun first t → (first ≡ event.ArrayStart → ⊥) → t.last ≡ Some told.array_start → ⊥
not_start event.ArrayStart t b n l = n refl
not_start event.ObjectStart t b n l = let e : Some told.object_start ≡ Some told.array_start = sym b.2 ∙ l in cc
not_start event.Str t b n l = let e : Some (told.str b.0) ≡ Some told.array_start = sym b.1 ∙ l in cc
not_start event.Number t b n l = let e : Some (told.number b.0) ≡ Some told.array_start = sym b.1 ∙ l in cc
not_start event.True t b n l = let e : Some (told.truth true) ≡ Some told.array_start = sym b ∙ l in cc
not_start event.False t b n l = let e : Some (told.truth false) ≡ Some told.array_start = sym b ∙ l in cc
not_start event.Null t b n l = let e : Some told.null ≡ Some told.array_start = sym b ∙ l in cc
not_start event.ObjectEnd t b n l = absurd b
not_start event.ArrayEnd t b n l = absurd b
not_start event.Name t b n l = absurd b
not_start event.End t b n l = absurd b

starts : (e : told.Event) (es : List told.Event) (f : told.Event) (fs : List told.Event) → e ∷ es ≡ f ∷ fs → f ≡ e
starts e es f fs h = cc

array_begins : (t : Told) (vs : Values) → Begins t (array vs) → t.last ≡ Some told.array_start
array_begins t vs s = s.last ∙ ap (λ (e : told.Event). Some e) (starts told.array_start (flatten_values vs ++ told.array_end ∷ []) s.first s.others s.is)

-- a value that began otherwise is no array
pub not_array : (first : Event) (t : Told) (v : Value) → IsBegun first t → (first ≡ event.ArrayStart → ⊥) → Begins t v → (vs : Values) → v ≡ array vs → ⊥
not_array first t v b n s vs e = not_start first t b n (array_begins t vs (subst (λ (w : Value). Begins t w) e s))
