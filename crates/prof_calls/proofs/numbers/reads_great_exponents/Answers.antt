use Rattle.prof_calls.proofs.Samples.{far_up, zero_far_up, far_down}
use Rattle.prof_calls.proofs.numbers.reads_great_exponents.Goals as goal

pub read_scaled-requires-clause-number : goal.read_scaled-requires-clause-number
read_scaled-requires-clause-number g c = far_up

pub read_scaled-requires-2-clause-number : goal.read_scaled-requires-2-clause-number
read_scaled-requires-2-clause-number g c = zero_far_up

pub read_scaled-requires-3-clause-number : goal.read_scaled-requires-3-clause-number
read_scaled-requires-3-clause-number g c = far_down
