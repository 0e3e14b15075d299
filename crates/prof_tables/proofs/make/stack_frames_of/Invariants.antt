use Rattle.std.proofs.Common.{◌≡◌}
use Rattle.prof_tables.specs.Rows.{rows_of, stack_frame_at}
use Rattle.prof_tables.proofs.make.stack_frames_of.Given as goal

abbrev pub invariant-loop-i : goal.invariant-loop-i
invariant-loop-i l = l.numbers.items ≡ rows_of (stack_frame_at l.raw) l.i
