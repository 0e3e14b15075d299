-- Where a text that is read event by event stands, and what its events do to that.
use Rattle.std.specs.Prelude.{◌≡◌, ℕ, ◌<◌, ◌≤◌, ◌-◌, List, [], ◌∷◌, true, false, Option, Some, None, fold, ⊤}
use Rattle.std.specs.Io.KnownBytes.{IsAtEnd}
use Rattle.prof_grammar.specs.Event as told
use Rattle.prof_grammar.specs.Told.{Reading}
use Rattle.prof_json.specs.Position.{Position}
use Rattle.prof_json.specs.declared.answer.Event.{Event}
use Rattle.prof_json.specs.declared.answer.Event.TheVariants as event
use Rattle.prof_token.specs.declared.fault.JsonFault.{JsonFault}
use Rattle.prof_token.specs.declared.fault.JsonFault.TheVariants as fault
use Rattle.prof_gather.specs.Reading.{rest_of, Comes, Ends}
use Rattle.prof_gather.specs.declared.refusal.GatherRefusal.{GatherRefusal}
use Rattle.prof_gather.specs.declared.refusal.GatherRefusal.TheVariants as refusal
use Rattle.prof_json.specs.declared.nesting.Bracket.{Bracket}
use Rattle.prof_json.specs.declared.nesting.Bracket.TheVariants as bracket
use Rattle.prof_json.specs.declared.nesting.Phase.{Phase}
use Rattle.prof_json.specs.declared.nesting.Phase.TheVariants as phase

-- what is open: an array, an object, a member whose value is due, or the text whose value is due
pub data Frame : Type 0 where
  in_array : Frame
  in_object : Frame
  in_member : Frame
  in_text : Frame

-- the frames, the innermost first; the last event; how many bytes may still come; the fault that was met; and, where
-- the source tells them, the bytes that it has left, and what is still to be read
pub record Told : Type 0 where
  pub frames : List Frame
  pub last : Option told.Event
  pub room : ℕ
  pub fault : Option JsonFault
  pub left : Option (List ℕ)
  pub rest : Option Reading

abbrev pub frame : Bracket → Frame
frame bracket.Array = in_array
frame bracket.Object = in_object

-- the frames of these brackets, of which the innermost stands last
abbrev pub opened : List Bracket → List Frame
opened brackets = fold (λ frames b. frame b ∷ frames) [] brackets

-- with the value that is due
abbrev pub due : Phase → List Frame → List Frame
due phase.Start frames = in_text ∷ frames
due phase.AfterName frames = in_member ∷ frames
due phase.FirstItem frames = frames
due phase.FirstMember frames = frames
due phase.AfterValue frames = frames

abbrev pub told_of : Position → Option (List ℕ) → Told
told_of p left = record { frames = due p.nest.phase (opened p.nest.open_); last = p.last; room = p.limit - p.place; fault = p.fault; left = left; rest = rest_of p left }

-- where a value may stand, and what is open behind it
abbrev pub after_value : List Frame → Option (List Frame)
after_value [] = None
after_value (in_text ∷ frames) = Some frames
after_value (in_array ∷ frames) = Some (in_array ∷ frames)
after_value (in_member ∷ frames) = Some frames
after_value (in_object ∷ frames) = None

abbrev pub opening : Frame → Option (List Frame) → Option (List Frame)
opening f None = None
opening f (Some frames) = Some (f ∷ frames)

abbrev pub array_closed : List Frame → Option (List Frame)
array_closed [] = None
array_closed (in_array ∷ frames) = Some frames
array_closed (in_object ∷ frames) = None
array_closed (in_member ∷ frames) = None
array_closed (in_text ∷ frames) = None

abbrev pub object_closed : List Frame → Option (List Frame)
object_closed [] = None
object_closed (in_object ∷ frames) = Some frames
object_closed (in_array ∷ frames) = None
object_closed (in_member ∷ frames) = None
object_closed (in_text ∷ frames) = None

abbrev pub name_given : List Frame → Option (List Frame)
name_given [] = None
name_given (in_object ∷ frames) = Some (in_member ∷ in_object ∷ frames)
name_given (in_array ∷ frames) = None
name_given (in_member ∷ frames) = None
name_given (in_text ∷ frames) = None

-- what is open behind an event, and None where it may not come
abbrev pub step : List Frame → told.Event → Option (List Frame)
step frames told.array_start = opening in_array (after_value frames)
step frames told.object_start = opening in_object (after_value frames)
step frames told.array_end = array_closed frames
step frames told.object_end = object_closed frames
step frames (told.name n) = name_given frames
step frames (told.str t) = after_value frames
step frames (told.number t) = after_value frames
step frames (told.truth b) = after_value frames
step frames told.null = after_value frames

-- one more event was told
pub record Tells (old : Told) (e : told.Event) (new : Told) : Type 0 where
  pub frames : step old.frames e ≡ Some new.frames
  pub last : new.last ≡ Some e
  pub room : new.room < old.room
  pub rest : Comes old.rest (e ∷ []) new.rest

-- the text is over
pub record IsOver (old new : Told) : Type 0 where
  pub due : old.frames ≡ []
  pub frames : new.frames ≡ []
  pub end : IsAtEnd new.left
  pub sound : new.fault ≡ None
  pub whole : Ends old.rest

-- this event came
abbrev pub Gives : Told → Event → Told → Type 0
Gives old event.ObjectStart new = Tells old told.object_start new
Gives old event.ObjectEnd new = Tells old told.object_end new
Gives old event.ArrayStart new = Tells old told.array_start new
Gives old event.ArrayEnd new = Tells old told.array_end new
Gives old event.Name new = (n : List ℕ) × Tells old (told.name n) new
Gives old event.Str new = (t : List ℕ) × Tells old (told.str t) new
Gives old event.Number new = (t : List ℕ) × Tells old (told.number t) new
Gives old event.True new = Tells old (told.truth true) new
Gives old event.False new = Tells old (told.truth false) new
Gives old event.Null new = Tells old told.null new
Gives old event.End new = IsOver old new

-- an array, an object or a member was read to its end: behind it the innermost frame is gone
pub record Passes (old new : Told) : Type 0 where
  pub frames : (f : Frame) (frames : List Frame) → old.frames ≡ f ∷ frames → new.frames ≡ frames
  pub room : new.room < old.room

-- the innermost frame is this one
pub record IsWithin (f : Frame) (t : Told) : Type 0 where
  pub outer : List Frame
  pub frames : t.frames ≡ f ∷ outer

-- a member was named, and its value is due
pub record IsNamed (t : Told) : Type 0 where
  pub outer : List Frame
  pub frames : t.frames ≡ in_member ∷ outer
  pub name : List ℕ
  pub last : t.last ≡ Some (told.name name)

-- the event has begun a value
abbrev pub IsBegun : Event → Told → Type 0
IsBegun event.ObjectStart t = (outer : List Frame) × (t.frames ≡ in_object ∷ outer) × (t.last ≡ Some told.object_start)
IsBegun event.ArrayStart t = (outer : List Frame) × (t.frames ≡ in_array ∷ outer) × (t.last ≡ Some told.array_start)
IsBegun event.Str t = (text : List ℕ) × (t.last ≡ Some (told.str text))
IsBegun event.Number t = (text : List ℕ) × (t.last ≡ Some (told.number text))
IsBegun event.True t = t.last ≡ Some (told.truth true)
IsBegun event.False t = t.last ≡ Some (told.truth false)
IsBegun event.Null t = t.last ≡ Some told.null
IsBegun event.ObjectEnd t = ⊥
IsBegun event.ArrayEnd t = ⊥
IsBegun event.Name t = ⊥
IsBegun event.End t = ⊥

abbrev pub but_first : List Frame → List Frame
but_first [] = []
but_first (f ∷ frames) = frames

-- what is open behind the value that this event has begun
abbrev pub outside : Event → List Frame → List Frame
outside event.ObjectStart frames = but_first frames
outside event.ArrayStart frames = but_first frames
outside event.Str frames = frames
outside event.Number frames = frames
outside event.True frames = frames
outside event.False frames = frames
outside event.Null frames = frames
outside event.ObjectEnd frames = frames
outside event.ArrayEnd frames = frames
outside event.Name frames = frames
outside event.End frames = frames

-- the value that this event has begun was read to its end
pub record Finishes (first : Event) (old new : Told) : Type 0 where
  pub frames : new.frames ≡ outside first old.frames
  pub room : new.room ≤ old.room

-- a fault of the text itself
abbrev pub IsOfText : JsonFault → Type 0
IsOfText (fault.NotJson at) = ⊤
IsOfText (fault.TooDeep at) = ⊤
IsOfText fault.TooLong = ⊤
IsOfText fault.ReadFault = ⊥
IsOfText fault.NoMemory = ⊥

-- a refusal while the text is read: the fault that was met, or want of memory
abbrev pub Refuses : GatherRefusal → Told → Type 0
Refuses (refusal.Json f) t = (t.fault ≡ Some f) × IsOfText f
Refuses refusal.ReadFault t = t.fault ≡ Some fault.ReadFault
Refuses refusal.NoMemory t = ⊤

-- nothing was read yet
abbrev pub IsFresh : Told → Type 0
IsFresh t = t.frames ≡ in_text ∷ []
