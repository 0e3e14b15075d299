-- What was read over.
use Rattle.std.proofs.Common.{◌≡◌, ℕ, List, [], ◌∷◌, ◌++◌, refl, sym, ap, subst, ◌∙◌}
use Rattle.std.specs.Prelude.{Option, Some, None}
use Rattle.prof_grammar.specs.Event as told
use Rattle.prof_grammar.specs.Value.{Value, Values, Members, flatten, flatten_values, flatten_members}
use Rattle.prof_json.specs.Position.{Position}
use Rattle.prof_json.specs.Skip.{IsSkipped, member_value, all_items, all_members}
use Rattle.prof_json.specs.Tells.{Tells}
use Rattle.prof_gather.specs.Feeding.{told_of}
use Rattle.prof_gather.specs.Reading.{rest_of, Comes}
use Rattle.prof_gather.specs.Taking.{Reads, ReadsItems, ReadsMembers}
use Rattle.prof_gather.proofs.Comings.{comes_as}
use Rattle.prof_gather.proofs.SoFar.{comes_of}

value_of : (l : Option told.Event) (n : List ℕ) (es : List told.Event) → IsSkipped l es → l ≡ Some (told.name n) → (v : Value) × (es ≡ flatten v)
value_of l n es (member_value {s} v) e = (v, refl)
value_of l n es (all_items vs) e = absurd (cc)
value_of l n es (all_members ms) e = absurd (cc)

values_of : (l : Option told.Event) (es : List told.Event) → IsSkipped l es → l ≡ Some told.array_start → (vs : Values) × (es ≡ flatten_values vs ++ told.array_end ∷ [])
values_of l es (member_value {s} v) e = absurd (cc)
values_of l es (all_items vs) e = (vs, refl)
values_of l es (all_members ms) e = absurd (cc)

members_of : (l : Option told.Event) (es : List told.Event) → IsSkipped l es → l ≡ Some told.object_start → (ms : Members) × (es ≡ flatten_members ms ++ told.object_end ∷ [])
members_of l es (member_value {s} v) e = absurd (cc)
members_of l es (all_items vs) e = absurd (cc)
members_of l es (all_members ms) e = (ms, refl)

pub reads_value : (p q : Position) (left left' : Option (List ℕ)) (n : List ℕ) (es : List told.Event) → p.last ≡ Some (told.name n) → IsSkipped p.last es → Tells p left es q left' → (v : Value) × Reads (told_of p left) (told_of q left') v
reads_value p q left left' n es l s t =
    let v = value_of p.last n es s l in
    (v.0, record { told = comes_as (rest_of p left) (rest_of q left') es (flatten v.0) v.1 (comes_of p q left left' es t) })

pub reads_items : (p q : Position) (left left' : Option (List ℕ)) (es : List told.Event) → p.last ≡ Some told.array_start → IsSkipped p.last es → Tells p left es q left' → (vs : Values) × ReadsItems (told_of p left) (told_of q left') vs
reads_items p q left left' es l s t =
    let vs = values_of p.last es s l in
    (vs.0, record { told = comes_as (rest_of p left) (rest_of q left') es (flatten_values vs.0 ++ told.array_end ∷ []) vs.1 (comes_of p q left left' es t) })

pub reads_members : (p q : Position) (left left' : Option (List ℕ)) (es : List told.Event) → p.last ≡ Some told.object_start → IsSkipped p.last es → Tells p left es q left' → (ms : Members) × ReadsMembers (told_of p left) (told_of q left') ms
reads_members p q left left' es l s t =
    let ms = members_of p.last es s l in
    (ms.0, record { told = comes_as (rest_of p left) (rest_of q left') es (flatten_members ms.0 ++ told.object_end ∷ []) ms.1 (comes_of p q left left' es t) })
