use Rattle.std.proofs.Common.{ℕ, ◌<◌, ◌≤◌, length, ◌≤ℤ◌}
use Rattle.std.specs.Prelude.{slice_index_or}
use Rattle.prof_path.specs.declared.lists.Span.{Span}
use Rattle.prof_layer.specs.Periods.{AreByStart, HaveSameMoments}
use Rattle.prof_layer.proofs.periods.raise_ends.Given as goal

abbrev pub invariant-loop-i : goal.invariant-loop-i
invariant-loop-i l = record {
  starts : AreByStart l.spans;
  ends : (j k : ℕ) (d : Span) → j ≤ k → k < l.i → k < length l.spans → (slice_index_or l.spans j d).end ≤ℤ (slice_index_or l.spans k d).end;
  same : HaveSameMoments l.spans l.initial.spans;
}
