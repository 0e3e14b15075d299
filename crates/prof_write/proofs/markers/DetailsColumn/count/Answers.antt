use Rattle.std.proofs.Common.{◌∙◌, ap, arith, length}
use Rattle.prof_tables.specs.Threads.{MarkerRows}
use Rattle.prof_write.specs.Columns.{data_cell}
use Rattle.prof_write.proofs.CellLemmas.{length-cells}
use Rattle.prof_write.proofs.markers.DetailsColumn.count.Goals as goal

pub returns : goal.returns
returns c =
    let rows = ap (λ (v : MarkerRows). length v.rows) (c.behind-self.view_is ∙ c.markers.ensures.rows) in
    let counted = c.len.ensures in
    let cells = length-cells (data_cell c.args.self.now.thread.now.markers.texts) c.args.self.now.thread.now.markers.rows in
    omega arith
