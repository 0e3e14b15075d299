use Rattle.prof_calls.proofs.Samples.{tie, tie_below, tenth_of_a_unit, with_plus}
use Rattle.prof_calls.proofs.numbers.rounds_to_the_nearest.Goals as goal

pub read_scaled-requires-clause-number : goal.read_scaled-requires-clause-number
read_scaled-requires-clause-number g c = tie

pub read_scaled-requires-2-clause-number : goal.read_scaled-requires-2-clause-number
read_scaled-requires-2-clause-number g c = tie_below

pub read_scaled-requires-3-clause-number : goal.read_scaled-requires-3-clause-number
read_scaled-requires-3-clause-number g c = tenth_of_a_unit

pub read_scaled-requires-4-clause-number : goal.read_scaled-requires-4-clause-number
read_scaled-requires-4-clause-number g c = with_plus
