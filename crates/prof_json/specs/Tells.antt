-- What a reader reads of its text.
use Rattle.std.specs.Prelude.{◌≡◌, ℕ, List, Option}
use Rattle.prof_grammar.specs.Event.{Event}
use Rattle.prof_grammar.specs.Reading.{Ending}
use Rattle.prof_grammar.specs.Told.{Reading, tell}
use Rattle.prof_token.specs.Ahead.{Ahead, Knows}
use Rattle.prof_token.specs.Goes.{rest_of, Stops, IsEndedBy, IsFaultOf}
use Rattle.prof_json.specs.Parts.{parts_of}
use Rattle.prof_json.specs.Position.{Position}
use Rattle.prof_token.specs.declared.fault.JsonFault.{JsonFault}

-- the bytes that were taken and not yet read
abbrev pub window : Position → Ahead
window p = record { bytes = p.ahead; place = p.place; limit = p.limit }

-- what is read from here on, where the source has these bytes left
abbrev pub rest : Position → List ℕ → Reading
rest p left = rest_of (window p) (parts_of p.nest) left

-- These events are told, and then what is read from the second position on, where the source tells its bytes.
abbrev pub Tells : Position → Option (List ℕ) → List Event → Position → Option (List ℕ) → Type 0
Tells p l es q m = Knows (λ left left'. rest p left ≡ tell es (rest q left')) l m

-- nothing more is told from here on, and the reading ends so
abbrev pub Ends : Ending → Position → Option (List ℕ) → Type 0
Ends ending p l = Stops ending (window p) l (parts_of p.nest)

-- nothing more is told from here on, and the reading ends by the fault
abbrev pub EndsBy : JsonFault → Position → Option (List ℕ) → Type 0
EndsBy fault p l = IsEndedBy fault (window p) l (parts_of p.nest)

-- the reading from here on ends by the fault, whatever is told before
abbrev pub FailsBy : JsonFault → Position → Option (List ℕ) → Type 0
FailsBy fault p l = IsFaultOf fault (window p) l (parts_of p.nest)
