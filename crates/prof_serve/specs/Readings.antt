-- How many stack rows messages may read, and how the layers stand behind them.
use Rattle.std.specs.Prelude.{◌≡◌, ℕ, ◌+◌, ◌≤◌, true, List, [], ◌∷◌, length, take, Option, Some, None, Ok, Err, ⊤}
use Rattle.prof_io.specs.Named.{value_at, with_own}
use Rattle.prof_layer.specs.Common.{IsCommon}
use Rattle.prof_request.specs.declared.request.Command.{Command}
use Rattle.prof_request.proofs.OutcomeLemmas.{line_of}
use Rattle.prof_machine.specs.Known.{Known}
use Rattle.prof_machine.specs.Session.{Session, present}
use Rattle.prof_machine.specs.Play.{Starved, Held, Line, held_after}
use Rattle.prof_session.specs.Seated.{is_tree}
use Rattle.prof_script.specs.Readings.{Laid, laid_after, line_readings}
use Rattle.prof_serve.specs.Errands.{asks, no_route, no_method}
use Rattle.prof_serve.specs.Answers.{Handled, held_behind}

-- a request that found no memory leaves its session's layers, or so many transforms of the present view are settled behind it
abbrev pub laid_towards : Option Session → Option Laid → Option ℕ → Option Laid
laid_towards (Some s) (Some l) (Some settled) = Some (record l { settled = take settled (present s).transforms })
laid_towards own laid settled = laid

-- These are a tree's, and no fewer than stood alike at the front of both before.
abbrev pub IsTowards : Command → Option Session → Option Laid → Option ℕ → Type 0
IsTowards command own laid None = ⊤
IsTowards command (Some s) (Some l) (Some settled) =
    (is_tree command ≡ true) × (settled ≤ length (present s).transforms) × ((k : ℕ) → IsCommon k l.settled (present s).transforms → k ≤ settled)
IsTowards command own laid (Some settled) = ⊥

-- the same of the session of a line
abbrev pub laid_short : Held → List (List ℕ × Laid) → Line → Option ℕ → List (List ℕ × Laid)
laid_short held laid (Err at) settled = laid
laid_short held laid (Ok request) settled =
    let name = request.session in
    with_own name (laid_towards (value_at held.sessions name) (value_at laid name) settled) laid

abbrev pub SettlesShort : Held → List (List ℕ × Laid) → Line → Option ℕ → Type 0
SettlesShort held laid (Err at) settled = settled ≡ None
SettlesShort held laid (Ok request) settled =
    let name = request.session in
    IsTowards request.command (value_at held.sessions name) (value_at laid name) settled

-- a message reads what the request of its line may
abbrev pub message_readings : Held → List (List ℕ × Laid) → Handled → ℕ
message_readings held laid (asked, asks line fate said settled) = line_readings held laid (line_of line)
message_readings held laid (asked, no_route) = 0
message_readings held laid (asked, no_method get) = 0

module _ (profiles : List (List ℕ × Known)) where
  -- how the layers stand behind a message
  abbrev pub laid_behind : Held → List (List ℕ × Laid) → Handled → List (List ℕ × Laid)
  laid_behind held laid (asked, asks line Starved said settled) = laid_short held laid (line_of line) settled
  laid_behind held laid (asked, asks line fate said settled) = laid_after profiles held (held_after profiles held (line_of line) fate) laid (line_of line)
  laid_behind held laid (asked, no_route) = laid
  laid_behind held laid (asked, no_method get) = laid

  -- how many transforms are settled is told of a request that found no memory alone
  abbrev pub IsSettled : Held → List (List ℕ × Laid) → Handled → Type 0
  IsSettled held laid (asked, asks line Starved said settled) = SettlesShort held laid (line_of line) settled
  IsSettled held laid (asked, asks line fate said settled) = settled ≡ None
  IsSettled held laid (asked, no_route) = ⊤
  IsSettled held laid (asked, no_method get) = ⊤

  -- messages one after another
  abbrev pub laid_behind_all : Held → List (List ℕ × Laid) → List Handled → List (List ℕ × Laid)
  laid_behind_all held laid [] = laid
  laid_behind_all held laid (one ∷ more) = laid_behind_all (held_behind profiles held one) (laid_behind held laid one) more

  abbrev pub AreSettled : Held → List (List ℕ × Laid) → List Handled → Type 0
  AreSettled held laid [] = ⊤
  AreSettled held laid (one ∷ more) = IsSettled held laid one × AreSettled (held_behind profiles held one) (laid_behind held laid one) more

  abbrev pub messages_readings : Held → List (List ℕ × Laid) → List Handled → ℕ
  messages_readings held laid [] = 0
  messages_readings held laid (one ∷ more) =
      message_readings held laid one + messages_readings (held_behind profiles held one) (laid_behind held laid one) more
