use Rattle.std.proofs.Common.{refl}
use Rattle.std.specs.Prelude.{map}
use Rattle.prof_write.specs.Columns.{func_cell}
use Rattle.prof_write.proofs.funcs.add_func_column.Goals as goal

pub returns : goal.returns
returns g c = c.add_array.ensures (map (func_cell c.args.column) c.args.thread.now.shared.funcs) refl
