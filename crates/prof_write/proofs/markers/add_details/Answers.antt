use Rattle.std.proofs.Common.{refl}
use Rattle.std.specs.Prelude.{map}
use Rattle.prof_write.specs.Columns.{data_cell}
use Rattle.prof_write.proofs.markers.add_details.Goals as goal

pub returns : goal.returns
returns g c = c.add_array.ensures (map (data_cell c.args.thread.now.markers.texts) c.args.thread.now.markers.rows) refl
