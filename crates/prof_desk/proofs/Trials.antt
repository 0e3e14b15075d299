-- What the demo puts into the output is what an order leaves there.
use Rattle.std.proofs.Common.{ℕ, List, Result, Ok, Err}
use Rattle.std.specs.Prelude.{⊤}
use Rattle.prof_io.specs.Outside.{Seen}
use Rattle.prof_script.specs.declared.playing.PlayEnd.{PlayEnd}
use Rattle.prof_script.specs.declared.playing.PlayEnd.TheVariants as play_end
use Rattle.prof_trial.specs.Trial.{Puts}
use Rattle.prof_desk.specs.Playing.{Leaves, status_of}

pub leaves_puts : (old new : Seen) (text : List ℕ) (r : Result ⊤ PlayEnd) → Puts old new r text → Leaves old new (status_of r) text
leaves_puts old new text (Ok x) put = put
leaves_puts old new text (Err play_end.OutFault) put = put
leaves_puts old new text (Err play_end.NoMemory) put = put
