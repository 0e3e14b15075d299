use Rattle.std.proofs.Common.{ℕ, List, ◌<◌}
use Rattle.std.specs.Prelude.{IsUtf8, slice_index_or}
use Rattle.prof_back.proofs.kept.are_utf8.Given as goal

abbrev pub invariant-loop-text : goal.invariant-loop-text
invariant-loop-text l = (k : ℕ) → k < l.text-index → (d : List ℕ) → IsUtf8 (slice_index_or l.texts k d)
