-- The parts so far are the numbers of threads that are there.
use Rattle.std.proofs.Common.{◌≡◌, List, ℕ, Bor, Some}
use Rattle.std.specs.Prelude.{map}
use Rattle.prof_words.specs.Numbers.{each, number_within}
use Rattle.prof_words.proofs.numbers.threads_of.Given as goal

abbrev pub invariant-loop-part : goal.invariant-loop-part
invariant-loop-part l = each (number_within 0 4294967295) (map (λ (b : Bor (List ℕ)). b.now) l.yielded) ≡ Some l.threads
