-- Which event may come, and what is open behind it.
use Rattle.std.specs.Prelude.{◌≡◌, List, [], ◌∷◌, ◌++◌, ⊤}
use Rattle.prof_json.specs.declared.nesting.Bracket.{Bracket}
use Rattle.prof_json.specs.declared.nesting.Bracket.TheVariants.{Array, Object}
use Rattle.prof_json.specs.declared.nesting.Phase.{Phase}
use Rattle.prof_json.specs.declared.nesting.Phase.TheVariants.{Start, FirstItem, FirstMember, AfterName, AfterValue}
use Rattle.prof_json.specs.declared.answer.Event.{Event}
use Rattle.prof_json.specs.declared.answer.Event.TheVariants as e

-- the brackets that are open, the innermost last, and what may come
pub record Nest : Type 0 where
  pub open_ : List Bracket
  pub phase : Phase

-- a value may begin
pub data TakesValue : Nest → Type 0 where
  top : {xs : List Bracket} → TakesValue (record { open_ = xs; phase = Start })
  named : {xs : List Bracket} → TakesValue (record { open_ = xs; phase = AfterName })
  first : {xs : List Bracket} → TakesValue (record { open_ = xs; phase = FirstItem })
  item : (xs : List Bracket) → TakesValue (record { open_ = xs ++ Array ∷ []; phase = AfterValue })

-- From the first nest the event leads to the second.
pub data Leads : Nest → Event → Nest → Type 0 where
  array_start : {n : Nest} → TakesValue n → Leads n e.ArrayStart (record { open_ = n.open_ ++ Array ∷ []; phase = FirstItem })
  object_start : {n : Nest} → TakesValue n → Leads n e.ObjectStart (record { open_ = n.open_ ++ Object ∷ []; phase = FirstMember })
  str : {n : Nest} → TakesValue n → Leads n e.Str (record { open_ = n.open_; phase = AfterValue })
  number : {n : Nest} → TakesValue n → Leads n e.Number (record { open_ = n.open_; phase = AfterValue })
  yes_ : {n : Nest} → TakesValue n → Leads n e.True (record { open_ = n.open_; phase = AfterValue })
  no_ : {n : Nest} → TakesValue n → Leads n e.False (record { open_ = n.open_; phase = AfterValue })
  null : {n : Nest} → TakesValue n → Leads n e.Null (record { open_ = n.open_; phase = AfterValue })
  no_items : (xs : List Bracket) → Leads (record { open_ = xs ++ Array ∷ []; phase = FirstItem }) e.ArrayEnd (record { open_ = xs; phase = AfterValue })
  last_item : (xs : List Bracket) → Leads (record { open_ = xs ++ Array ∷ []; phase = AfterValue }) e.ArrayEnd (record { open_ = xs; phase = AfterValue })
  first_name : (xs : List Bracket) → Leads (record { open_ = xs ++ Object ∷ []; phase = FirstMember }) e.Name (record { open_ = xs ++ Object ∷ []; phase = AfterName })
  next_name : (xs : List Bracket) → Leads (record { open_ = xs ++ Object ∷ []; phase = AfterValue }) e.Name (record { open_ = xs ++ Object ∷ []; phase = AfterName })
  no_members : (xs : List Bracket) → Leads (record { open_ = xs ++ Object ∷ []; phase = FirstMember }) e.ObjectEnd (record { open_ = xs; phase = AfterValue })
  last_member : (xs : List Bracket) → Leads (record { open_ = xs ++ Object ∷ []; phase = AfterValue }) e.ObjectEnd (record { open_ = xs; phase = AfterValue })
  end : Leads (record { open_ = []; phase = AfterValue }) e.End (record { open_ = []; phase = AfterValue })

-- what may come behind an event
abbrev pub phase_after : Event → Phase
phase_after e.ArrayStart = FirstItem
phase_after e.ObjectStart = FirstMember
phase_after e.Name = AfterName
phase_after e.ObjectEnd = AfterValue
phase_after e.ArrayEnd = AfterValue
phase_after e.Str = AfterValue
phase_after e.Number = AfterValue
phase_after e.True = AfterValue
phase_after e.False = AfterValue
phase_after e.Null = AfterValue
phase_after e.End = AfterValue

-- these brackets are open, and this one within them
pub record IsWithin (bracket : Bracket) (brackets : List Bracket) : Type 0 where
  pub outer : List Bracket
  pub is : brackets ≡ outer ++ bracket ∷ []

-- such a nest occurs
abbrev pub Occurs : Phase → List Bracket → Type 0
Occurs Start xs = xs ≡ []
Occurs FirstItem xs = IsWithin Array xs
Occurs FirstMember xs = IsWithin Object xs
Occurs AfterName xs = IsWithin Object xs
Occurs AfterValue xs = ⊤
