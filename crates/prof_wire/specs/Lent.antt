-- What `next_message` gives, lent from the buffers, and what it leaves.
use Rattle.std.specs.Prelude.{◌≡◌, ℕ, ◌+◌, List, min, MatchResult, Result}
use Rattle.std.specs.declared.option.Option.{Option}
use Rattle.std.specs.Borrow.{MutBor, Fml}
use Rattle.std.specs.Io.BufRead.{Rests}
use Rattle.prof_wire.specs.Waiting.{Waiting}
use Rattle.prof_wire.specs.Messages.{Asked}
use Rattle.prof_wire.specs.Taking.{unused, EndsSo, ComesOut}
use Rattle.prof_wire.specs.declared.messages.Message.{Message}
use Rattle.prof_wire.specs.declared.messages.WireEnd.{WireEnd}
use Rattle.prof_wire.specs.contracts.wire.Wire.{the_row}

-- the message that is lent
abbrev pub asked_of : Message → Asked
asked_of m = record { method = m.method; target = m.target.now; body = m.body.now; last = m.last }

-- the next message, or why there is none
abbrev pub GivesNext : Waiting → Option (List ℕ) → Result Message WireEnd → Waiting → Option (List ℕ) → Type 0
GivesNext old left result new left_new = MatchResult result
    (λ m. (new.given ≡ min 1000 (old.given + 1)) × ComesOut old.given (unused old left) (asked_of m) (unused new left_new))
    (λ end. EndsSo old.given (unused old left) end)

-- once the message isn't used any more, the wire is as `GivesNext` says
abbrev pub LeavesNext : MutBor Waiting → Option (List ℕ) → Result Message WireEnd → Option (List ℕ) → Fml
LeavesNext s left result left_new = Rests the_row s (λ new. GivesNext s.now left result new left_new)
