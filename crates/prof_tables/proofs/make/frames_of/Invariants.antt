use Rattle.std.proofs.Common.{◌≡◌, length}
use Rattle.std.specs.Prelude.{All}
use Rattle.prof_tables.specs.Rows.{rows_of, frame_at}
use Rattle.prof_tables.specs.Ties.{IsFrame}
use Rattle.prof_tables.proofs.make.frames_of.Given as goal

abbrev pub invariant-loop-j : goal.invariant-loop-j
invariant-loop-j l = record { rows : l.frames.items ≡ rows_of (frame_at l.raw) l.j; many : length l.frames.items ≡ l.j; tied : All (IsFrame (length l.raw.func_name.cells) l.categories) l.frames.items }
