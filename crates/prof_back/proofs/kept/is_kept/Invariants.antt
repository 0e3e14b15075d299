use Rattle.std.proofs.Common.{ℕ, ◌<◌}
use Rattle.std.specs.Prelude.{slice_index_or}
use Rattle.prof_tables.specs.Threads.{ThreadTables}
use Rattle.prof_back.specs.Texts.{IsThread}
use Rattle.prof_back.proofs.kept.is_kept.Given as goal

abbrev pub invariant-loop-thread : goal.invariant-loop-thread
invariant-loop-thread l = (k : ℕ) → k < l.thread-index → (d : ThreadTables) → IsThread (slice_index_or l.profile.threads k d)
