use Rattle.std.proofs.Common.{sym}
use Rattle.prof_page.proofs.Pages.{gathers_same}
use Rattle.prof_write.specs.Columns.{sample_cell}
use Rattle.prof_write.proofs.CellLemmas.{row_within, text_of_cell}
use Rattle.prof_write.proofs.samples.SamplesColumn.add_cell.Goals as goal

pub line-requires : goal.line-requires
line-requires g c = row_within (sample_cell c.args.self.now.thread.now.unit c.args.self.now.column) c.args.self.now.thread.now.samples c.args.row c.requires

pub returns : goal.returns
returns g c =
    gathers_same _ _ _ _ _ _ _ c.add_line.ensures
    (sym (text_of_cell (sample_cell c.args.self.now.thread.now.unit c.args.self.now.column) c.args.self.now.thread.now.samples c.args.row c.line.result.bytes c.line.ensures))
