use Rattle.prof_calls.proofs.Samples.{greatest, past_greatest}
use Rattle.prof_calls.proofs.numbers.ends_at_the_range.Goals as goal

pub read_scaled-requires-clause-number : goal.read_scaled-requires-clause-number
read_scaled-requires-clause-number g c = greatest

pub read_scaled-requires-2-clause-number : goal.read_scaled-requires-2-clause-number
read_scaled-requires-2-clause-number g c = past_greatest
