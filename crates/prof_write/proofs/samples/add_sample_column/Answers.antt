use Rattle.std.proofs.Common.{refl}
use Rattle.std.specs.Prelude.{map}
use Rattle.prof_write.specs.Columns.{sample_cell}
use Rattle.prof_write.proofs.samples.add_sample_column.Goals as goal

pub returns : goal.returns
returns g c = c.add_array.ensures (map (sample_cell c.args.thread.now.unit c.args.column) c.args.thread.now.samples) refl
