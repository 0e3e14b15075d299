use Rattle.std.proofs.Common.{refl}
use Rattle.std.specs.Prelude.{map}
use Rattle.prof_write.specs.Columns.{marker_cell}
use Rattle.prof_write.proofs.markers.add_marker_column.Goals as goal

pub returns : goal.returns
returns g c = c.add_array.ensures (map (marker_cell c.args.column) c.args.thread.now.markers.rows) refl
