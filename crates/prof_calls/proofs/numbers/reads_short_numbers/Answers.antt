use Rattle.prof_calls.proofs.Samples.{nothing, least_unit, more_places, less_than_half, half_more, nineteen_digits, fourteen_nines, eighteen_nines, twelve}
use Rattle.prof_calls.proofs.numbers.reads_short_numbers.Goals as goal

pub read_scaled-requires-clause-number : goal.read_scaled-requires-clause-number
read_scaled-requires-clause-number g c = nothing

pub read_scaled-requires-2-clause-number : goal.read_scaled-requires-2-clause-number
read_scaled-requires-2-clause-number g c = least_unit

pub read_scaled-requires-3-clause-number : goal.read_scaled-requires-3-clause-number
read_scaled-requires-3-clause-number g c = more_places

pub read_scaled-requires-4-clause-number : goal.read_scaled-requires-4-clause-number
read_scaled-requires-4-clause-number g c = less_than_half

pub read_scaled-requires-5-clause-number : goal.read_scaled-requires-5-clause-number
read_scaled-requires-5-clause-number g c = half_more

pub read_scaled-requires-6-clause-number : goal.read_scaled-requires-6-clause-number
read_scaled-requires-6-clause-number g c = nineteen_digits

pub read_scaled-requires-7-clause-number : goal.read_scaled-requires-7-clause-number
read_scaled-requires-7-clause-number g c = fourteen_nines

pub read_exact-requires : goal.read_exact-requires
read_exact-requires g c = eighteen_nines

pub read_exact-requires-2 : goal.read_exact-requires-2
read_exact-requires-2 g c = twelve
