use Rattle.std.proofs.Common.{ℕ, List, ◌<◌}
use Rattle.std.specs.Prelude.{IsUtf8, slice_index_or}
use Rattle.prof_back.proofs.kept.strings_are_utf8.Given as goal

abbrev pub invariant-loop-place : goal.invariant-loop-place
invariant-loop-place l = (k : ℕ) → k < l.place → (d : List ℕ) → IsUtf8 (slice_index_or l.strings k d)
