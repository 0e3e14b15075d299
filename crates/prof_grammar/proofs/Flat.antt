-- The events of a JSON text are those of a value.
use Rattle.std.proofs.Common.{◌≡◌, ℕ, List, [], ◌∷◌, ◌++◌, ap, append_assoc, refl, sym, ◌∙◌}
use Rattle.prof_grammar.specs.Event.{Event, object_start, object_end, array_start, array_end, name}
use Rattle.prof_grammar.specs.Grammar.{Symbol, Is, IsJson, value, items, more_items, members, member, more_members}
use Rattle.prof_grammar.specs.Grammar as g
use Rattle.prof_grammar.specs.Value.{Value, Values, Members, flatten, flatten_values, flatten_members}

-- what the events of a symbol are
abbrev Told : Symbol → List Event → Type 0
Told value es = (v : Value) × (es ≡ flatten v)
Told items es = (vs : Values) × (es ≡ flatten_values vs ++ array_end ∷ [])
Told more_items es = (vs : Values) × (es ≡ flatten_values vs ++ array_end ∷ [])
Told members es = (ms : Members) × (es ≡ flatten_members ms ++ object_end ∷ [])
Told member es = (n : List ℕ) × (v : Value) × (es ≡ name n ∷ flatten v)
Told more_members es = (ms : Members) × (es ≡ flatten_members ms ++ object_end ∷ [])

an_item : {es fs : List Event} → Told value es → Told more_items fs → Told items (es ++ fs)
an_item {es = es} v vs = (Values.value v.0 vs.0, ap (λ x. es ++ x) vs.1 ∙ ap (λ x. x ++ (flatten_values vs.0 ++ array_end ∷ [])) v.1 ∙ sym (append_assoc (flatten v.0) (flatten_values vs.0) (array_end ∷ [])))

a_member : {es fs : List Event} → Told member es → Told more_members fs → Told members (es ++ fs)
a_member {es = es} {fs = fs} m ms = (
  Members.member m.0 m.1 ms.0,
  ap (λ x. es ++ x) ms.1 ∙ ap (λ x. x ++ (flatten_members ms.0 ++ object_end ∷ [])) m.2 ∙ ap (λ x. name m.0 ∷ x) (sym (append_assoc (flatten m.1) (flatten_members ms.0) (object_end ∷ []))),
)

flat : {s : Symbol} {t : List ℕ} {es : List Event} → Is s t es → Told s es
flat g.true_word = (Value.boolean _, refl)
flat g.false_word = (Value.boolean _, refl)
flat g.null_word = (Value.null, refl)
flat (g.numeral {t = t} n) = (Value.number t, refl)
flat (g.string {s = s} i) = (Value.string s, refl)
flat (g.array b i) = let x = flat i in (Value.array x.0, ap (λ es. array_start ∷ es) x.1)
flat g.no_items = (Values.no_values, refl)
flat (g.some_items v b i) = an_item (flat v) (flat i)
flat g.last_item = (Values.no_values, refl)
flat (g.next_item a v b i) = an_item (flat v) (flat i)
flat (g.object b i) = let x = flat i in (Value.object x.0, ap (λ es. object_start ∷ es) x.1)
flat g.no_members = (Members.no_members, refl)
flat (g.some_members m i) = a_member (flat m) (flat i)
flat g.last_member = (Members.no_members, refl)
flat (g.next_member a m i) = a_member (flat m) (flat i)
flat (g.one_member {s = s} k a b v c) = let x = flat v in (s, x.0, ap (λ es. name s ∷ es) x.1)

pub is_value : {t : List ℕ} {es : List Event} → IsJson t es → (v : Value) × (es ≡ flatten v)
is_value (g.json m a v b) = flat v
