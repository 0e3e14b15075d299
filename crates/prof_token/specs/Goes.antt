-- What is read from a window on, by the machine that reads JSON texts a byte at a time. A state is a window `a`, what
-- the source has left `l`, and the parts `ps` that are still to come.
use Rattle.std.specs.Prelude.{◌≡◌, ℕ, List, [], ◌∷◌, ◌++◌, Option, Some, None, ⊤}
use Rattle.prof_grammar.specs.Event.{Event}
use Rattle.prof_grammar.specs.Machine.{Part, Literal, word, meant}
use Rattle.prof_grammar.specs.Reading.{Ending, not_json, too_deep, too_long}
use Rattle.prof_grammar.specs.Told.{Reading, reading, tell, stop}
use Rattle.prof_token.specs.Ahead.{Ahead, Knows}
use Rattle.prof_token.specs.declared.fault.JsonFault.{JsonFault}
use Rattle.prof_token.specs.declared.fault.JsonFault.TheVariants.{NotJson, TooDeep, TooLong, ReadFault, NoMemory}

-- what is read, where these parts are still to come and the source has these bytes left
abbrev pub rest_of : Ahead → List Part → List ℕ → Reading
rest_of a ps left = reading a.limit a.place ps (a.bytes ++ left)

-- nothing more is told, and the reading ends so, where the source tells its bytes
abbrev pub Stops : Ending → Ahead → Option (List ℕ) → List Part → Type 0
Stops ending a None ps = ⊤
Stops ending a (Some left) ps = rest_of a ps left ≡ stop ending

-- nothing more is told, and the reading ends by the fault
abbrev pub IsEndedBy : JsonFault → Ahead → Option (List ℕ) → List Part → Type 0
IsEndedBy (NotJson at) a left ps = Stops (not_json at) a left ps
IsEndedBy (TooDeep at) a left ps = Stops (too_deep at) a left ps
IsEndedBy TooLong a left ps = Stops too_long a left ps
IsEndedBy ReadFault a left ps = ⊤
IsEndedBy NoMemory a left ps = ⊤

-- the reading ends so, whatever is told before, where the source tells its bytes
abbrev pub HasEnding : Ending → Ahead → Option (List ℕ) → List Part → Type 0
HasEnding ending a None ps = ⊤
HasEnding ending a (Some left) ps = (rest_of a ps left).ending ≡ ending

-- the reading ends by the fault, whatever is told before
abbrev pub IsFaultOf : JsonFault → Ahead → Option (List ℕ) → List Part → Type 0
IsFaultOf (NotJson at) a left ps = HasEnding (not_json at) a left ps
IsFaultOf (TooDeep at) a left ps = HasEnding (too_deep at) a left ps
IsFaultOf TooLong a left ps = HasEnding too_long a left ps
IsFaultOf ReadFault a left ps = ⊤
IsFaultOf NoMemory a left ps = ⊤

-- Without a fault these events are told from the first state on, and then what is read from the second. A fault ends
-- the reading of the first.
abbrev pub Answers : Option JsonFault → Ahead → Option (List ℕ) → List Part → List Event → Ahead → Option (List ℕ) → List Part → Type 0
Answers None a l ps es b m qs = Knows (λ left left'. rest_of a ps left ≡ tell es (rest_of b qs left')) l m
Answers (Some fault) a l ps es b m qs = IsEndedBy fault a l ps

pub record Goes (fault : Option JsonFault) (a : Ahead) (l : Option (List ℕ)) (ps : List Part) (es : List Event) (b : Ahead) (m : Option (List ℕ)) (qs : List Part) : Type 0 where
  pub is : Answers fault a l ps es b m qs

-- the parts, where these bytes of a word are still to come, and what they tell
abbrev pub behind_word : List ℕ → Literal → List Part → List Part
behind_word [] w ps = ps
behind_word (c ∷ cs) w ps = word (c ∷ cs) w ∷ ps

abbrev pub told_behind : List ℕ → Literal → List Event
told_behind [] w = []
told_behind (c ∷ cs) w = meant w
