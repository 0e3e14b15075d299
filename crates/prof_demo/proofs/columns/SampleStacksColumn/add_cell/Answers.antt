use Rattle.std.proofs.Common.{[], ◌∙◌, sym}
use Rattle.prof_demo.specs.Generated.{stack_text}
use Rattle.prof_demo.proofs.Below.{cell_at}
use Rattle.prof_page.proofs.Pages.{gathers_same}
use Rattle.prof_demo.proofs.columns.SampleStacksColumn.add_cell.Goals as goal

pub returns : goal.returns
returns g c =
    let is = cell_at (stack_text c.args.self.now.number) 200000 c.args.row [] c.requires in
    gathers_same _ _ _ _ _ _ _ c.add_text.ensures (c.as_str.ensures.value ∙ c.stack_cell-cell.ensures ∙ sym is)
