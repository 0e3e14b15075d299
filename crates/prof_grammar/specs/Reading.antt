-- How a reading of a text goes and ends.
use Rattle.std.specs.Prelude.{◌≡◌, ◌≢◌, ℕ, ◌+◌, ◌-◌, ◌<◌, ◌≤◌, Bool, List, [], ◌∷◌, ◌++◌, length, ⊤, ◌⊎◌}
use Rattle.prof_grammar.specs.Event.{Event, object_start, object_end, array_start, array_end, name, str, number, truth, null}
use Rattle.prof_grammar.specs.Grammar.{IsJson, BeginsJson}

-- the end of the text, or the first fault with its place
pub data Ending : Type 0 where
  finished : Ending
  not_json : ℕ → Ending
  too_deep : ℕ → Ending
  too_long : Ending

-- never more than `most` brackets are open at once, where `opened` are open before the events
abbrev pub NestsWithin : ℕ → ℕ → List Event → Type 0
NestsWithin most opened [] = ⊤
NestsWithin most opened (array_start ∷ es) = (opened < most) × NestsWithin most (opened + 1) es
NestsWithin most opened (object_start ∷ es) = (opened < most) × NestsWithin most (opened + 1) es
NestsWithin most opened (array_end ∷ es) = NestsWithin most (opened - 1) es
NestsWithin most opened (object_end ∷ es) = NestsWithin most (opened - 1) es
NestsWithin most opened (name s ∷ es) = NestsWithin most opened es
NestsWithin most opened (str s ∷ es) = NestsWithin most opened es
NestsWithin most opened (number t ∷ es) = NestsWithin most opened es
NestsWithin most opened (truth b ∷ es) = NestsWithin most opened es
NestsWithin most opened (null ∷ es) = NestsWithin most opened es

-- how many brackets may be open at once
abbrev pub max_depth : ℕ
max_depth = 256

-- a JSON text in which no more brackets than that are open at once
pub record IsShallow (text : List ℕ) (es : List Event) : Type 0 where
  pub json : IsJson text es
  pub depth : NestsWithin max_depth 0 es

-- some such text begins with these bytes
abbrev pub BeginsShallow : List ℕ → Type 0
BeginsShallow bytes = (more : List ℕ) × (es : List Event) × IsShallow (bytes ++ more) es

-- each JSON text that begins with the bytes tells these events first
abbrev pub TellFirst : List ℕ → List Event → Type 0
TellFirst bytes es = (more : List ℕ) (all : List Event) → IsJson (bytes ++ more) all → (others : List Event) × (all ≡ es ++ others)

-- true, false or null
pub data IsWordEvent : Event → Type 0 where
  truth_word : {b : Bool} → IsWordEvent (truth b)
  null_word : IsWordEvent null

-- The bytes are within the limit and begin such a text. The events are those that the JSON texts that begin with them
-- tell first, as many as these texts have in common, but that a word is told with its last letter.
pub record IsSoundFront (limit : ℕ) (front : List ℕ) (es : List Event) : Type 0 where
  pub within : length front ≤ limit
  pub begins : BeginsShallow front
  pub told : TellFirst front es
  pub most : (fs : List Event) → TellFirst front fs → ((others : List Event) × (es ≡ fs ++ others)) ⊎ ((e : Event) × IsWordEvent e × (fs ≡ es ++ e ∷ []))

-- `IsReading limit text r`: r is what a reading of the text tells, and how it ends.
pub data IsReading (limit : ℕ) : List ℕ → List Event → Ending → Type 0 where
  -- the whole text is JSON
  whole : {text : List ℕ} {es : List Event} → IsShallow text es → length text ≤ limit → IsReading limit text es finished
  -- the text ends too early
  cut : {text : List ℕ} {es : List Event} → IsSoundFront limit text es → ((all : List Event) → IsJson text all → ⊥) → IsReading limit text es (not_json (length text))
  -- with this byte the bytes begin no JSON text, of any depth
  wrong : {front : List ℕ} {es : List Event} (byte : ℕ) (rest : List ℕ) → IsSoundFront limit front es → length front ≢ limit → (BeginsJson (front ++ byte ∷ []) → ⊥) →
      IsReading limit (front ++ byte ∷ rest) es (not_json (length front))
  -- with this byte the bytes begin JSON texts, and none of them is shallow
  deep : {front : List ℕ} {es : List Event} (byte : ℕ) (rest : List ℕ) → IsSoundFront limit front es → length front ≢ limit → BeginsJson (front ++ byte ∷ []) →
      (BeginsShallow (front ++ byte ∷ []) → ⊥) → IsReading limit (front ++ byte ∷ rest) es (too_deep (length front))
  -- a byte stands at the limit
  long : {front : List ℕ} {es : List Event} (byte : ℕ) (rest : List ℕ) → IsSoundFront limit front es → length front ≡ limit → IsReading limit (front ++ byte ∷ rest) es too_long
