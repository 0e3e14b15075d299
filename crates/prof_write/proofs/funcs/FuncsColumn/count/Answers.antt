use Rattle.std.proofs.Common.{◌∙◌, sym}
use Rattle.prof_write.specs.Columns.{func_cell}
use Rattle.prof_write.proofs.CellLemmas.{length-cells}
use Rattle.prof_write.proofs.funcs.FuncsColumn.count.Goals as goal

pub returns : goal.returns
returns c = c.func_count.ensures.count ∙ sym (length-cells (func_cell c.args.self.now.column) c.args.self.now.thread.now.shared.funcs)
