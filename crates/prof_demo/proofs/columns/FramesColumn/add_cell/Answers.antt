use Rattle.std.proofs.Common.{[], ◌∙◌, sym}
use Rattle.prof_demo.specs.Generated.{frame_text}
use Rattle.prof_demo.proofs.Below.{cell_at}
use Rattle.prof_page.proofs.Pages.{gathers_same}
use Rattle.prof_demo.proofs.columns.FramesColumn.add_cell.Goals as goal

pub returns : goal.returns
returns g c =
    gathers_same _ _ _ _ _ _ _ c.add_text.ensures (c.as_str.ensures.value ∙ c.frame_cell-cell.ensures ∙ sym (cell_at frame_text 60000 c.args.row [] c.requires))
