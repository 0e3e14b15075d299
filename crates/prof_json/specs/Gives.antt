-- What an event gives, and what is to come behind it.
use Rattle.std.specs.Prelude.{◌≡◌, ◌≢◌, ℕ, List, [], ◌∷◌, Some, None, Result, Ok, Err}
use Rattle.std.specs.Option.{option_to_list}
use Rattle.prof_grammar.specs.Event.{Event}
use Rattle.prof_grammar.specs.Machine.{Part, chars, as_name, nothing, class, step}
use Rattle.prof_json.specs.Nest.{phase_after}
use Rattle.prof_json.specs.Parts.{parts_in, behind}
use Rattle.prof_json.specs.Position.{last_of}
use Rattle.prof_json.specs.declared.nesting.Bracket.{Bracket}
use Rattle.prof_json.specs.declared.nesting.Phase.TheVariants.{AfterName}
use Rattle.prof_json.specs.declared.answer.Event as e
use Rattle.prof_token.specs.declared.fault.JsonFault.{JsonFault}

-- the event of the text that the reader's event is, with its text; the end is none
abbrev pub told_by : Result e.Event JsonFault → List ℕ → List Event
told_by (Ok event) text = option_to_list (last_of (Some event) text)
told_by (Err fault) text = []

-- The byte that is shown begins the name of a member of these brackets, if it is a quote, and else it is wrong.
pub record TakesName (byte : ℕ) (ps : List Part) (xs : List Bracket) : Type 0 where
  pub quote : byte ≡ 34 → step ps (class byte) byte ≡ Some ([], chars as_name [] None nothing ∷ parts_in AfterName (behind xs))
  pub other : byte ≢ 34 → step ps (class byte) byte ≡ None

-- what is still to come behind the event, where these brackets are open
abbrev pub parts_behind : Result e.Event JsonFault → List Bracket → List Part
parts_behind (Ok event) xs = parts_in (phase_after event) (behind xs)
parts_behind (Err fault) xs = []
