use Rattle.std.proofs.Common.{[], ◌∙◌, sym}
use Rattle.prof_demo.specs.Generated.{time_text}
use Rattle.prof_demo.proofs.Below.{cell_at}
use Rattle.prof_page.proofs.Pages.{gathers_same}
use Rattle.prof_demo.proofs.columns.TimesColumn.add_cell.Goals as goal

pub returns : goal.returns
returns g c =
    gathers_same _ _ _ _ _ _ _ c.add_text.ensures (c.as_str.ensures.value ∙ c.time_cell-cell.ensures ∙ sym (cell_at time_text 200000 c.args.row [] c.requires))
