-- Values that were read, and what was taken of them.
use Rattle.std.specs.Prelude.{◌≡◌, ℕ, List, [], ◌∷◌, ◌++◌, Option, Some, None, ⊤}
use Rattle.prof_grammar.specs.Event as told
use Rattle.prof_grammar.specs.Value.{Value, Values, Members, snoc, items, flatten, flatten_values, flatten_members}
use Rattle.prof_gather.specs.Feeding.{Told}
use Rattle.prof_gather.specs.Reading.{Comes}
use Rattle.prof_gather.specs.declared.objects.Found.{Found}
use Rattle.prof_gather.specs.declared.objects.Found.TheVariants as found
use Rattle.prof_gather.specs.declared.objects.Kind.{Kind}
use Rattle.prof_gather.specs.declared.objects.Kind.TheVariants as kind

-- a whole value was read
pub record Reads (old new : Told) (v : Value) : Type 0 where
  pub told : Comes old.rest (flatten v) new.rest

-- the last event is the first of the value's
pub record Begins (t : Told) (v : Value) : Type 0 where
  pub first : told.Event
  pub others : List told.Event
  pub last : t.last ≡ Some first
  pub is : flatten v ≡ first ∷ others

-- the rest of the value was read that the last event has begun
pub record ReadsOn (old new : Told) (v : Value) : Type 0 where
  pub begins : Begins old v
  pub told : Comes old.rest begins.others new.rest

-- the items of an array were read, and its end
pub record ReadsItems (old new : Told) (vs : Values) : Type 0 where
  pub told : Comes old.rest (flatten_values vs ++ told.array_end ∷ []) new.rest

-- the members of an object were read, and its end
pub record ReadsMembers (old new : Told) (ms : Members) : Type 0 where
  pub told : Comes old.rest (flatten_members ms ++ told.object_end ∷ []) new.rest

-- the member whose value is due was read, and what was gathered of the members before is now that of these and this one
pub record TakesMember {S : Type 0} (Is : Members → S → Type 0) (old new : Told) (s t : S) : Type 0 where
  pub name : List ℕ
  pub last : old.last ≡ Some (told.name name)
  pub value : Value
  pub reads : Reads old new value
  pub taken : (ms : Members) → Is ms s → Is (snoc ms name value) t

-- the item that has begun was read, and what was gathered of the items before is now that of these and this one
pub record TakesItem {S : Type 0} (Is : S → List Value → S → Type 0) (old new : Told) (s t : S) : Type 0 where
  pub value : Value
  pub reads : ReadsOn old new value
  pub taken : (first : S) (vs : List Value) → Is first vs s → Is first (vs ++ value ∷ []) t

-- what is found of a value where an object is looked for
abbrev pub IsFound : {T : Type 0} → (Members → T → Type 0) → Value → Found T → Type 0
IsFound Is (Value.object ms) (found.Object t) = Is ms t
IsFound Is (Value.object ms) found.Absent = ⊥
IsFound Is (Value.object ms) found.Null = ⊥
IsFound Is (Value.object ms) found.Other = ⊥
IsFound Is Value.null f = f ≡ found.Null
IsFound Is (Value.boolean b) f = f ≡ found.Other
IsFound Is (Value.number text) f = f ≡ found.Other
IsFound Is (Value.string text) f = f ≡ found.Other
IsFound Is (Value.array vs) f = f ≡ found.Other

-- what is gathered of a value where an array is looked for
abbrev pub IsTaken : {S : Type 0} → (S → List Value → S → Type 0) → Value → S → Kind → S → Type 0
IsTaken Is (Value.array vs) first k s = (k ≡ kind.Array) × Is first (items vs) s
IsTaken Is Value.null first k s = (k ≡ kind.Null) × (s ≡ first)
IsTaken Is (Value.boolean b) first k s = (k ≡ kind.Other) × (s ≡ first)
IsTaken Is (Value.number text) first k s = (k ≡ kind.Other) × (s ≡ first)
IsTaken Is (Value.string text) first k s = (k ≡ kind.Other) × (s ≡ first)
IsTaken Is (Value.object ms) first k s = (k ≡ kind.Other) × (s ≡ first)

-- what is found of a member where an object is looked for, which may be absent
abbrev pub IsFoundIn : {T : Type 0} → (Members → T → Type 0) → Option Value → Found T → Type 0
IsFoundIn Is None f = f ≡ found.Absent
IsFoundIn Is (Some v) f = IsFound Is v f
