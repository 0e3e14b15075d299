-- What a hall in memory holds.
use Rattle.std.specs.Prelude.{ℕ, ◌≤◌, ◌-◌, List, [], drop, take, None, Some, All}
use Rattle.std.specs.declared.option.Option.{Option}
use Rattle.prof_io.specs.Shelf.{Present, Served}
use Rattle.prof_memory.specs.declared.seats.Seat.{Seat}
use Rattle.prof_memory.specs.declared.seats.Ended.{Ended}

-- what is left to read on a connection, of which so many bytes were read
abbrev pub left_on : Option Seat → ℕ → List ℕ
left_on None at = []
left_on (Some seat) at = drop at seat.came.items

-- the connection that is read and written now
abbrev pub present_on : Option Seat → Option Present
present_on None = None
present_on (Some seat) = Some (record { came = seat.came.items; first = seat.first; second = seat.second })

-- a connection that was served before, whose answer is a range of all that was written
abbrev pub served_in : List ℕ → Ended → Served
served_in bytes ended = record {
  came = ended.came.items;
  answered = take (ended.end - ended.start) (drop ended.start bytes);
  first = ended.first;
  second = ended.second;
}

-- the answers are ranges of the first so many bytes
abbrev pub AreWithin : ℕ → List Ended → Type 0
AreWithin count = All (λ (ended : Ended). (ended.start ≤ ended.end) × (ended.end ≤ count))
