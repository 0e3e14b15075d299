use Rattle.std.proofs.Common.{refl}
use Rattle.std.specs.Prelude.{map}
use Rattle.prof_write.specs.Columns.{frame_cell}
use Rattle.prof_write.proofs.frames.add_frame_column.Goals as goal

pub returns : goal.returns
returns g c = c.add_array.ensures (map (frame_cell c.args.column) c.args.thread.now.shared.frames) refl
