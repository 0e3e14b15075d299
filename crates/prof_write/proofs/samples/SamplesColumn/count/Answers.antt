use Rattle.std.proofs.Common.{◌∙◌, sym}
use Rattle.prof_write.specs.Columns.{sample_cell}
use Rattle.prof_write.proofs.CellLemmas.{length-cells}
use Rattle.prof_write.proofs.samples.SamplesColumn.count.Goals as goal

pub returns : goal.returns
returns c = c.sample_count.ensures.count ∙ sym (length-cells (sample_cell c.args.self.now.thread.now.unit c.args.self.now.column) c.args.self.now.thread.now.samples)
