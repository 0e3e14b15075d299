-- What is still to be read of a text, and what was read of it.
use Rattle.std.specs.Prelude.{◌≡◌, ℕ, List, ◌++◌, Option, Some, None, IfSome, ⊤}
use Rattle.prof_grammar.specs.Event.{Event}
use Rattle.prof_grammar.specs.Machine.{start}
use Rattle.prof_grammar.specs.Reading.{Ending, finished, not_json, too_deep, too_long}
use Rattle.prof_grammar.specs.Told.{Reading, reading, tell, stop}
use Rattle.prof_grammar.specs.declared.TheConstants.{LONGEST}
use Rattle.prof_token.specs.Ahead.{Knows}
use Rattle.prof_json.specs.Position.{Position}
use Rattle.prof_json.specs.Tells.{rest}
use Rattle.prof_token.specs.declared.fault.JsonFault.{JsonFault}
use Rattle.prof_token.specs.declared.fault.JsonFault.TheVariants.{NotJson, TooDeep, TooLong, ReadFault, NoMemory}

-- what is read from a reader's position on, where the source tells its bytes
abbrev pub rest_of : Position → Option (List ℕ) → Option Reading
rest_of p None = None
rest_of p (Some left) = Some (rest p left)

-- these events come next, where the source tells its bytes
abbrev pub Comes : Option Reading → List Event → Option Reading → Type 0
Comes None es new = ⊤
Comes (Some r) es None = ⊥
Comes (Some r) es (Some s) = r ≡ tell es s

-- the text is over, and whole
abbrev pub Ends : Option Reading → Type 0
Ends None = ⊤
Ends (Some r) = r ≡ stop finished

-- how the reading of a text ends by a fault of the text
abbrev pub IsEnding : JsonFault → Ending → Type 0
IsEnding (NotJson at) e = e ≡ not_json at
IsEnding (TooDeep at) e = e ≡ too_deep at
IsEnding TooLong e = e ≡ too_long
IsEnding ReadFault e = ⊤
IsEnding NoMemory e = ⊤

-- what was read of the text so far comes before what is still to be read
abbrev pub IsSoFar : Option (List ℕ) → Position → Option (List ℕ) → Type 0
IsSoFar text p left = Knows (λ bytes others. (es : List Event) × (reading LONGEST 0 start bytes ≡ tell es (rest p others))) text left

-- the text's reading ends by the fault
abbrev pub EndsBy : JsonFault → Option (List ℕ) → Type 0
EndsBy f text = IfSome text (λ bytes. IsEnding f (reading LONGEST 0 start bytes).ending)

-- The position is one of this text: what was read comes before what is to be read, and a fault is the text's own.
abbrev pub IsOfReading : Option JsonFault → Option (List ℕ) → Position → Option (List ℕ) → Type 0
IsOfReading None text p left = IsSoFar text p left
IsOfReading (Some f) text p left = EndsBy f text
