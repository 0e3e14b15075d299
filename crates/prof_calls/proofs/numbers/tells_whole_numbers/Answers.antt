use Rattle.prof_calls.proofs.Samples.{last_exact, past_exact, minus_twenty_five, one_and_a_half, great}
use Rattle.prof_calls.proofs.numbers.tells_whole_numbers.Goals as goal

pub read_exact-requires : goal.read_exact-requires
read_exact-requires g c = last_exact

pub read_exact-requires-2 : goal.read_exact-requires-2
read_exact-requires-2 g c = past_exact

pub read_exact-requires-3 : goal.read_exact-requires-3
read_exact-requires-3 g c = minus_twenty_five

pub read_exact-requires-4 : goal.read_exact-requires-4
read_exact-requires-4 g c = one_and_a_half

pub is_whole-requires : goal.is_whole-requires
is_whole-requires g c = great

pub is_whole-requires-2 : goal.is_whole-requires-2
is_whole-requires-2 g c = one_and_a_half
