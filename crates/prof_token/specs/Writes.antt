-- What is read from a window on, where a text grows.
use Rattle.std.specs.Prelude.{◌≡◌, ℕ, ◌+◌, List, [], ◌∷◌, ◌++◌, length, take, Option, None, Result, Ok, Err}
use Rattle.prof_grammar.specs.Event.{Event}
use Rattle.prof_grammar.specs.Machine.{Part}
use Rattle.prof_token.specs.Ahead.{Ahead, Passes}
use Rattle.prof_token.specs.Bytes.{Each, is_plain}
use Rattle.prof_token.specs.Goes.{Goes}
use Rattle.prof_token.specs.Kept.{Kept, Gains}
use Rattle.prof_token.specs.declared.fault.JsonFault.{JsonFault}

-- no event, whatever the text is
abbrev pub silent : List ℕ → List Event
silent text = []

-- From the first state on to the second, as `Goes`. The machine has come to this text, and what was kept since `begun`
-- is it.
pub record Writes (fault : Option JsonFault) (begun : Kept) (a : Ahead) (l : Option (List ℕ)) (ps : List Part) (es : List ℕ → List Event) (b : Ahead) (m : Option (List ℕ)) (k : Kept) (qs : List ℕ → List Part) : Type 0 where
  pub text : List ℕ
  pub kept : fault ≡ None → Gains begun text k
  pub goes : Goes fault a l ps (es text) b m (qs text)

-- what a call gave, where it met no fault
abbrev pub shown_of : Result (Option ℕ) JsonFault → Option ℕ
shown_of (Ok o) = o
shown_of (Err fault) = None

abbrev pub value_of : Result ℕ JsonFault → ℕ
value_of (Ok b) = b
value_of (Err fault) = 0

-- the text behind a unit, and the unit that waits for its partner
pub record IsUnit (begun : Kept) (to : List ℕ × Option ℕ) (k : Kept) (o : Option ℕ) : Type 0 where
  pub text : Gains begun to.0 k
  pub waits : o ≡ to.1

-- so many bytes, a plain text and the quote that closes it were passed
pub record ReadsString (before : ℕ) (old : Ahead) (k : Kept) (new : Ahead) (m : Kept) : Type 0 where
  pub text : List ℕ
  pub plain : Each is_plain text
  pub ahead : old.bytes ≡ take before old.bytes ++ (text ++ 34 ∷ new.bytes)
  pub passed : Passes (before + length text + 1) old new
  pub kept : Gains k text m
