-- Where a reader stands.
use Rattle.std.specs.Prelude.{◌≡◌, ℕ, ◌≤◌, List, [], length, Option, Some, None, IfSome, true, false, ⊤}
use Rattle.prof_grammar.specs.Event as e
use Rattle.prof_token.specs.Numbers.{IsNumeral}
use Rattle.prof_json.specs.Nest.{Nest, Occurs, phase_after}
use Rattle.prof_json.specs.declared.nesting.Bracket.{Bracket}
use Rattle.prof_json.specs.declared.nesting.Phase.{Phase}
use Rattle.prof_json.specs.declared.nesting.Phase.TheVariants.{Start}
use Rattle.prof_token.specs.declared.fault.JsonFault.{JsonFault}
use Rattle.prof_token.specs.declared.fault.JsonFault.TheVariants.{NotJson, TooDeep, TooLong, ReadFault, NoMemory}
use Rattle.prof_json.specs.declared.answer.Event.{Event}
use Rattle.prof_json.specs.declared.answer.Event.TheVariants.{ObjectStart, ObjectEnd, ArrayStart, ArrayEnd, Name, Str, Number, True, False, Null, End}

-- The bytes that were taken and not yet read, the place of the next one, the limit, the nest, the last event, and
-- the fault that was met.
pub record Position : Type 0 where
  pub ahead : List ℕ
  pub place : ℕ
  pub limit : ℕ
  pub nest : Nest
  pub last : Option e.Event
  pub fault : Option JsonFault

-- the last event, with its text
abbrev pub last_of : Option Event → List ℕ → Option e.Event
last_of None text = None
last_of (Some ObjectStart) text = Some e.object_start
last_of (Some ObjectEnd) text = Some e.object_end
last_of (Some ArrayStart) text = Some e.array_start
last_of (Some ArrayEnd) text = Some e.array_end
last_of (Some Name) text = Some (e.name text)
last_of (Some Str) text = Some (e.str text)
last_of (Some Number) text = Some (e.number text)
last_of (Some True) text = Some (e.truth true)
last_of (Some False) text = Some (e.truth false)
last_of (Some Null) text = Some e.null
last_of (Some End) text = None

-- where it is a number, its text is one
abbrev pub IsSound : Option Event → List ℕ → Type 0
IsSound (Some Number) text = IsNumeral text
IsSound event text = ⊤

-- nothing was read yet
abbrev pub fresh : ℕ → Position
fresh limit = record { ahead = []; place = 0; limit = limit; nest = record { open_ = []; phase = Start }; last = None; fault = None }

-- what a reader that has met no fault keeps
pub record IsReady (brackets : List Bracket) (phase : Phase) (last : Option Event) : Type 0 where
  pub few : length brackets ≤ 256
  pub occurs : Occurs phase brackets
  pub behind : IfSome last (λ event. phase ≡ phase_after event)

-- the reader stands at the place of the fault, where it has one
abbrev pub StandsAt : JsonFault → Position → Type 0
StandsAt (NotJson at) p = at ≡ p.place
StandsAt (TooDeep at) p = at ≡ p.place
StandsAt TooLong p = p.place ≡ p.limit
StandsAt ReadFault p = ⊤
StandsAt NoMemory p = ⊤

-- the event of the reader shows this event of the text
pub data Shows : Event → e.Event → Type 0 where
  object_start : Shows ObjectStart e.object_start
  object_end : Shows ObjectEnd e.object_end
  array_start : Shows ArrayStart e.array_start
  array_end : Shows ArrayEnd e.array_end
  name : {s : List ℕ} → Shows Name (e.name s)
  str : {s : List ℕ} → Shows Str (e.str s)
  number : {t : List ℕ} → Shows Number (e.number t)
  yes_ : Shows True (e.truth true)
  no_ : Shows False (e.truth false)
  null : Shows Null e.null

-- it is the last one; the end is none
pub data IsLast : Event → Option e.Event → Type 0 where
  shown : {event : Event} {told : e.Event} → Shows event told → IsLast event (Some told)
  ended : IsLast End None
