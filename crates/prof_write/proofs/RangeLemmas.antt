-- Numbers within their range stay the same as numbers of 64 bits.
use Rattle.std.proofs.Common.{◌≡◌, ℤ, arith, to_z, of_z, w64}
use Rattle.std.proofs.lemmas.Int.{ints}
use Rattle.prof_tables.specs.Ties.{InRange}

pub same_number : (z : ℤ) → InRange z → to_z w64 (of_z w64 z) ≡ z
same_number z h = let low = h.0 in let high = h.1 in omega (arith, ints)
