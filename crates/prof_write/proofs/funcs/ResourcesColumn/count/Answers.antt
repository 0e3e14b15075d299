use Rattle.std.proofs.Common.{◌∙◌, sym}
use Rattle.prof_write.specs.Cells.{index}
use Rattle.prof_write.proofs.CellLemmas.{length-cells}
use Rattle.prof_write.proofs.funcs.ResourcesColumn.count.Goals as goal

pub returns : goal.returns
returns c = c.resource_count.ensures.count ∙ sym (length-cells index c.args.self.now.thread.now.shared.resources)
