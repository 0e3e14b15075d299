-- A text that is written to a sink.
use Rattle.std.specs.Prelude.{◌≡◌, ℕ, List, length, OnOk, Result}
use Rattle.std.specs.Io.KnownBytes.{Appends}
use Rattle.prof_io.specs.Bytes.{AppendsPart, FitsRoom}
use Rattle.prof_io.specs.Causes.{HasCause}
use Rattle.prof_io.specs.Outside.{Seen}

-- A text went into a sink: all of it, or a front of it where the count rose. What else the sink tells stays.
pub record Wrote {T E : Type 0} (old new : Seen) (result : Result T E) (text : List ℕ) : Type 0 where
  pub whole : OnOk result (Appends old.written new.written text)
  pub part : AppendsPart old.written new.written text
  pub left : new.left ≡ old.left
  pub place : new.place ≡ old.place
  pub fits : FitsRoom old.room new.room result (length text)
  pub sure : old.sure → new.sure
  pub cause : HasCause old.faults new.faults result
