-- How the reading of a file, and an order, ended.
use Rattle.std.specs.Prelude.{◌≡◌, ◌≢◌, ◌≤◌, ◌+◌, ◌-◌, ◌^◌, min, ℕ, List, Option, None, Some, IfOk, IfErr, IfSome, OnOk, Result, Err, ⊤}
use Rattle.std.specs.Io.KnownBytes.{IsAtEnd}
use Rattle.prof_io.specs.Causes.{Rose}
use Rattle.prof_desk.specs.declared.outcome.Outcome.{Outcome}
use Rattle.prof_desk.specs.declared.outcome.Stop.{Stop}
use Rattle.prof_desk.specs.declared.outcome.Stop.TheVariants as stop
use Rattle.prof_desk.specs.declared.status.Status.{Status}
use Rattle.prof_desk.specs.declared.status.Status.TheVariants.{Broken, FileFault, NoMemory}
use Rattle.prof_desk.specs.Inputs.{Input, IsInput, IsBreak, IsThere, text_in}
use Rattle.prof_desk.specs.Orders.{Kind}
use Rattle.prof_io.specs.Outside.{Seen}

-- the end by the file behind so many, which isn't accepted
abbrev pub stopped_by : ℕ → Stop → Outcome
stopped_by accepted (stop.Broken b) = record { status = Broken; accepted = accepted; broken = Some b }
stopped_by accepted stop.FileFault = record { status = FileFault; accepted = accepted; broken = None }
stopped_by accepted stop.NoMemory = record { status = NoMemory; accepted = accepted; broken = None }

-- an end after so many files that isn't by a file
abbrev pub ended_by : ℕ → Status → Outcome
ended_by accepted status = record { status = status; accepted = accepted; broken = None }

-- how many files were begun, where memory didn't run out: the accepted ones, and the one that isn't
abbrev pub begun_by : Status → ℕ → ℕ
begun_by Broken accepted = accepted + 1
begun_by FileFault accepted = accepted + 1
begun_by status accepted = accepted

-- why this text isn't accepted
abbrev pub IsStopOf : Kind → Option (List ℕ) → Seen → Seen → Stop → Type 0
IsStopOf kind text old new (stop.Broken b) = IsBreak kind text b × (new.faults ≡ old.faults)
IsStopOf kind text old new stop.FileFault = Rose old.faults new.faults
IsStopOf kind text old new stop.NoMemory = ⊤

-- why the file of that name isn't accepted
abbrev pub IsStop : Kind → List ℕ → Seen → Seen → Stop → Type 0
IsStop kind name old new s = IsStopOf kind (text_in old.place name) old new s

-- The file of that name was begun and read: it is accepted, and is this input, or it isn't.
pub record Reads {T : Type 0} (input : T → Input) (kind : Kind) (name : List ℕ) (old new : Seen) (result : Result T Stop) : Type 0 where
  pub accepted : IfOk result (λ x. IfSome (text_in old.place name) (λ bytes. IsInput kind bytes (input x)))
  pub calm : OnOk result (new.faults ≡ old.faults)
  pub end : OnOk result (IsAtEnd new.left)
  pub refused : IfErr result (λ s. IsStop kind name old new s)
  pub begins : new.place.begins ≡ min (old.place.begins + 1) (2 ^ 64 - 1)
  pub begun_at : new.place.begun_at ≡ old.faults
  pub shelf : new.place.files ≡ old.place.files
  pub later : old.faults ≤ new.faults
  pub sure : old.sure → new.sure
  pub steady : old.sure → IsThere old.place.files name → result ≢ Err stop.FileFault
