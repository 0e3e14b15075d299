use Rattle.std.proofs.Common.{◌∙◌, sym}
use Rattle.prof_page.proofs.Pages.{gathers_same}
use Rattle.prof_write.specs.Cells.{index}
use Rattle.prof_write.proofs.CellLemmas.{row_within, text_of_row}
use Rattle.prof_write.proofs.funcs.ResourcesColumn.add_cell.Goals as goal

pub resource_string-requires : goal.resource_string-requires
resource_string-requires g c = row_within index c.args.self.now.thread.now.shared.resources c.args.row c.requires

pub returns : goal.returns
returns g c =
    let resources = c.args.self.now.thread.now.shared.resources in
    gathers_same _ _ _ _ _ _ _ c.add_line.ensures
    (c.number_line.ensures ∙ sym (text_of_row index resources c.args.row c.resource_string.result c.resource_string.ensures.value))
