use Rattle.prof_page.proofs.Pages.{gathers_on, gathers_stopped}
use Rattle.prof_page.proofs.column.add_cell.Goals as goal

pub returns-in_err-add_comma : goal.returns-in_err-add_comma
returns-in_err-add_comma g c = gathers_stopped _ _ _ _ _ _ _ _ _ c.from_residual.ensures.0 c.in_err-add_comma.ensures

pub returns : goal.returns
returns g c = gathers_on _ _ _ _ _ _ _ _ _ _ c.in_ok-add_comma.ensures c.add_cell.ensures
