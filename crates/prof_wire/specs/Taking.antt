-- What a step of the wire gives and leaves.
use Rattle.std.specs.Prelude.{◌≡◌, ◌≢◌, ◌⊎◌, ℕ, ◌+◌, ◌<◌, ◌≤◌, Bool, List, [], ◌++◌, length, take, drop, min, MatchResult, IfSome, Some, None, Result, Ok, Err, ⊤}
use Rattle.std.specs.declared.option.Option.{Option}
use Rattle.std.specs.Io.KnownBytes.{prepend_known, Consumes}
use Rattle.httparse.specs.Spans.{IsWithin, span_bytes}
use Rattle.prof_wire.specs.Waiting.{Waiting}
use Rattle.prof_wire.specs.declared.wire.Taken.{Taken}
use Rattle.prof_wire.specs.Messages.{Asked, Next, message, ending, Comes}
use Rattle.prof_wire.specs.declared.messages.WireEnd.{WireEnd}
use Rattle.prof_wire.specs.declared.messages.WireEnd.TheVariants.{HallFault}
use Rattle.prof_wire.specs.declared.messages.Verb.{Verb}

-- the bytes of the connection that aren't used: those read ahead, and what the hall has left
abbrev pub unused : Waiting → Option (List ℕ) → Option (List ℕ)
unused wire left = prepend_known wire.ahead left

-- no message came, and that wasn't a fault of the hall
abbrev pub EndsSo : ℕ → Option (List ℕ) → WireEnd → Type 0
EndsSo given bytes end = end ≢ HallFault → IfSome bytes (λ all. Comes given all (ending end))

-- this message came, and these bytes aren't used now
abbrev pub ComesOut : ℕ → Option (List ℕ) → Asked → Option (List ℕ) → Type 0
ComesOut given bytes asked now = IfSome bytes (λ all. (rest : List ℕ) × (now ≡ Some rest) × Comes given all (message asked rest))

-- a step gave the next message, whose target and body the wire keeps, or said why there is none
abbrev pub Steps : Waiting → Option (List ℕ) → Result (Verb × Bool) WireEnd → Waiting → Option (List ℕ) → Type 0
Steps old left result new left_new = MatchResult result
    (λ got. (new.given ≡ min 1000 (old.given + 1))
    × ComesOut old.given (unused old left) (record { method = got.0; target = new.target; body = new.body; last = got.1 }) (unused new left_new))
    (λ end. EndsSo old.given (unused old left) end)

-- the parts lie in the page and the body
pub record IsTaken (t : Taken) : Type 0 where
  pub used : t.used ≤ t.end
  pub end : t.end ≤ 65536
  pub target : IsWithin t.end t.target
  pub size : t.size ≤ 65536

-- a message was taken out of these bytes, whose parts lie in the page and the body, or there was none
abbrev pub Takes : ℕ → List ℕ → Option (List ℕ) → Result Taken WireEnd → List ℕ → List ℕ → Option (List ℕ) → Type 0
Takes given ahead left result page body left_new = MatchResult result
    (λ t. IsTaken t
    × ComesOut given (prepend_known ahead left)
    (record { method = t.method; target = span_bytes (take t.end page) t.target; body = take t.size body; last = t.last })
    (prepend_known (drop t.used (take t.end page)) left_new))
    (λ end. EndsSo given (prepend_known ahead left) end)
