-- What the last event allows.
use Rattle.std.specs.Prelude.{◌≡◌, ◌+◌, ◌-◌, List, [], ◌∷◌, ◌++◌, Option, Some, ℕ, length, ⊤}
use Rattle.prof_grammar.specs.Event as e
use Rattle.prof_grammar.specs.Value.{Value, Values, Members, flatten, flatten_values, flatten_members}
use Rattle.prof_json.specs.Nest.{Nest, IsWithin}
use Rattle.prof_json.specs.declared.answer.Event.{Event}
use Rattle.prof_json.specs.declared.answer.Event.TheVariants.{Name, ArrayStart, ObjectStart}
use Rattle.prof_json.specs.declared.nesting.Bracket.{Bracket}
use Rattle.prof_json.specs.declared.nesting.Bracket.TheVariants.{Array, Object}
use Rattle.prof_json.specs.declared.nesting.Phase.{Phase}
use Rattle.prof_json.specs.declared.nesting.Phase.TheVariants.{Start, FirstItem, FirstMember, AfterName, AfterValue}

-- the last event was a name or a string, with this text
pub data IsText : Option e.Event → List ℕ → Type 0 where
  name : {s : List ℕ} → IsText (Some (e.name s)) s
  str : {s : List ℕ} → IsText (Some (e.str s)) s

-- behind this event a value, or what is left of one, can be read over
pub data IsSkippable : Option e.Event → Type 0 where
  member_value : {s : List ℕ} → IsSkippable (Some (e.name s))
  all_items : IsSkippable (Some e.array_start)
  all_members : IsSkippable (Some e.object_start)

-- behind the event, from the first nest, the second is reached when the value is over
pub data Closes : Option e.Event → Nest → Nest → Type 0 where
  member_value : {s : List ℕ} {n : Nest} → Closes (Some (e.name s)) n (record { open_ = n.open_; phase = AfterValue })
  all_items : {phase : Phase} (xs : List Bracket) → Closes (Some e.array_start) (record { open_ = xs ++ Array ∷ []; phase = phase }) (record { open_ = xs; phase = AfterValue })
  all_members : {phase : Phase} (xs : List Bracket) → Closes (Some e.object_start) (record { open_ = xs ++ Object ∷ []; phase = phase }) (record { open_ = xs; phase = AfterValue })

-- a value has begun, or is to begin, behind the event
abbrev pub IsBegun : Option Event → List Bracket → Type 0
IsBegun (Some Name) xs = ⊤
IsBegun (Some ArrayStart) xs = IsWithin Array xs
IsBegun (Some ObjectStart) xs = IsWithin Object xs
IsBegun event xs = ⊥

-- how many brackets are open around it
abbrev pub outside_of : Option Event → List Bracket → ℕ
outside_of (Some Name) xs = length xs
outside_of event xs = length xs - 1

-- these events are a value, or what is left of one behind the event
pub data IsSkipped : Option e.Event → List e.Event → Type 0 where
  member_value : {s : List ℕ} (v : Value) → IsSkipped (Some (e.name s)) (flatten v)
  all_items : (vs : Values) → IsSkipped (Some e.array_start) (flatten_values vs ++ e.array_end ∷ [])
  all_members : (ms : Members) → IsSkipped (Some e.object_start) (flatten_members ms ++ e.object_end ∷ [])

-- the same, by what may come
abbrev pub IsRest : Phase → List e.Event → Type 0
IsRest AfterName es = (v : Value) × (es ≡ flatten v)
IsRest FirstItem es = (vs : Values) × (es ≡ flatten_values vs ++ e.array_end ∷ [])
IsRest FirstMember es = (ms : Members) × (es ≡ flatten_members ms ++ e.object_end ∷ [])
IsRest Start es = ⊥
IsRest AfterValue es = ⊥

-- so many of these brackets are open outside the value that may come, or has begun
abbrev pub IsAround : Phase → ℕ → List Bracket → Type 0
IsAround AfterName opened xs = opened ≡ length xs
IsAround FirstItem opened xs = opened + 1 ≡ length xs
IsAround FirstMember opened xs = opened + 1 ≡ length xs
IsAround Start opened xs = ⊥
IsAround AfterValue opened xs = ⊥
