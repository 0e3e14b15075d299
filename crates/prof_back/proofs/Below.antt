-- The numbers below a number.
use Rattle.std.proofs.Common.{◌≡◌, ℕ, ◌<◌, Some, length, arith}
use Rattle.std.specs.Prelude.{slice_get}
use Rattle.std.specs.List.{range_with_len}
use Rattle.std.proofs.lemmas.List.FromFn.{get_or-range_with_len, length-range_with_len}
use Rattle.std.proofs.lemmas.Option.{get_or_from_slice_get, slice_get_within}
use Rattle.prof_demo.specs.Generated.{below}

pub length_below : (n : ℕ) → length (below n) ≡ n
unfolding below
length_below n = length-range_with_len 0 n

pub at_below : (n i r : ℕ) → slice_get (below n) i ≡ Some r → (r ≡ i) × (i < n)
unfolding below
at_below n i r e =
    let many = length-range_with_len 0 n in
    let within : i < length (range_with_len 0 n) = slice_get_within (range_with_len 0 n) i r e in
    let small : i < n = omega arith in
    let at = get_or_from_slice_get (range_with_len 0 n) i r 0 e in
    let is = get_or-range_with_len 0 n i 0 small in
    (omega (arith, at, is), small)
