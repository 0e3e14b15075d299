-- How the answering of an order ends.
use Rattle.std.specs.Prelude.{◌≡◌, ℕ, List, ◌++◌, Result, Ok, Err, ⊤}
use Rattle.prof_script.specs.declared.playing.PlayEnd.{PlayEnd}
use Rattle.prof_script.specs.declared.playing.PlayEnd.TheVariants as play_end
use Rattle.prof_desk.specs.declared.status.Status.{Status}
use Rattle.prof_desk.specs.declared.status.Status.TheVariants.{Done, OutFault, NoMemory}
use Rattle.prof_io.specs.Outside.{Seen}
use Rattle.prof_io.specs.Sinks.{Wrote}

-- the status by which answers end
abbrev pub status_of : Result ⊤ PlayEnd → Status
status_of (Ok x) = Done
status_of (Err play_end.OutFault) = OutFault
status_of (Err play_end.NoMemory) = NoMemory

-- What an order leaves in the output of a text: with Done it was written, with OutFault it wasn't since the output
-- failed, and with any other status a front of it was.
abbrev pub Leaves : Seen → Seen → Status → List ℕ → Type 0
Leaves old new Done text = Wrote {T = ⊤} {E = ⊤} old new (Ok tt) text
Leaves old new OutFault text = Wrote {T = ⊤} {E = ⊤} old new (Err tt) text
Leaves old new status text = (front : List ℕ) × (rest : List ℕ) × (text ≡ front ++ rest) × Wrote {T = ⊤} {E = ⊤} old new (Ok tt) front
