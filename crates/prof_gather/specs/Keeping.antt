-- What a text that is being read keeps of the source that it began with.
use Rattle.std.specs.Prelude.{◌≡◌, ℕ, ◌≤◌, List, Option, Some, None, ⊤}
use Rattle.prof_io.specs.Causes.{Rose}
use Rattle.prof_io.specs.Shelf.{Place}
use Rattle.prof_grammar.specs.Event as told
use Rattle.prof_grammar.specs.declared.TheConstants.{LONGEST}
use Rattle.prof_gather.specs.Reading.{IsOfReading}
use Rattle.prof_json.specs.Nest.{Occurs}
use Rattle.prof_json.specs.declared.nesting.Phase.{Phase}
use Rattle.prof_json.specs.declared.nesting.Phase.TheVariants as phase
use Rattle.prof_json.specs.Position.{Position}
use Rattle.prof_token.specs.declared.fault.JsonFault.{JsonFault}
use Rattle.prof_token.specs.declared.fault.JsonFault.TheVariants as fault

-- where the source has failed its count rose, and it wasn't sure; else the count is what it was
abbrev pub Blames : Option JsonFault → ℕ → ℕ → Type 0 → Type 0
Blames None before now unsure = now ≡ before
Blames (Some fault.ReadFault) before now unsure = Rose before now × unsure
Blames (Some fault.NoMemory) before now unsure = now ≡ before
Blames (Some (fault.NotJson at)) before now unsure = now ≡ before
Blames (Some (fault.TooDeep at)) before now unsure = now ≡ before
Blames (Some fault.TooLong) before now unsure = now ≡ before

-- what may come behind the last event, where that is an opening or a name
abbrev pub IsBehind : Option told.Event → Phase → Type 0
IsBehind None now = ⊤
IsBehind (Some (told.name n)) now = now ≡ phase.AfterName
IsBehind (Some told.array_start) now = now ≡ phase.FirstItem
IsBehind (Some told.object_start) now = now ≡ phase.FirstMember
IsBehind (Some told.array_end) now = ⊤
IsBehind (Some told.object_end) now = ⊤
IsBehind (Some (told.str t)) now = ⊤
IsBehind (Some (told.number t)) now = ⊤
IsBehind (Some (told.truth b)) now = ⊤
IsBehind (Some told.null) now = ⊤

-- What holds all the time: what the source told when the reading began, what it has left, the counts of faults before and
-- now, what the source tells besides, and where the reader stands.
pub record IsKept (p : Position) (text left : Option (List ℕ)) (wrote first_wrote : Option (List ℕ)) (stand first_stand : Place) (before now : ℕ) (surely unsure : Type 0) : Type 0 where
  pub nest : p.fault ≡ None → Occurs p.nest.phase p.nest.open_
  pub behind : p.fault ≡ None → IsBehind p.last p.nest.phase
  pub within : p.place ≤ p.limit
  pub most : p.limit ≡ LONGEST
  pub reads : IsOfReading p.fault text p left
  pub written : wrote ≡ first_wrote
  pub stays : stand ≡ first_stand
  pub later : before ≤ now
  pub steady : surely
  pub blames : Blames p.fault before now unsure
