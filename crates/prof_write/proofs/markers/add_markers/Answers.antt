use Rattle.prof_page.proofs.Pages.{gathers_on, gathers_stopped}
use Rattle.prof_write.proofs.markers.add_markers.Goals as goal

pub returns-in_err-add_marker_column : goal.returns-in_err-add_marker_column
returns-in_err-add_marker_column g c =
    gathers_stopped _ _ _ _ _ _ _ _ _ c.from_residual.ensures.0 c.in_err-add_marker_column.ensures

pub returns-in_err-add_marker_column-2 : goal.returns-in_err-add_marker_column-2
returns-in_err-add_marker_column-2 g c =
    gathers_on _ _ _ _ _ _ _ _ _ _ c.in_ok-add_marker_column.ensures
    (gathers_stopped _ _ _ _ _ _ _ _ _ c.from_residual-in_err-add_marker_column-2.ensures.0 c.in_err-add_marker_column-2.ensures)

pub returns-in_err-add_marker_column-3 : goal.returns-in_err-add_marker_column-3
returns-in_err-add_marker_column-3 g c =
    gathers_on _ _ _ _ _ _ _ _ _ _ c.in_ok-add_marker_column.ensures
    (gathers_on _ _ _ _ _ _ _ _ _ _ c.in_ok-add_marker_column-2.ensures
    (gathers_stopped _ _ _ _ _ _ _ _ _ c.from_residual-in_err-add_marker_column-3.ensures.0 c.in_err-add_marker_column-3.ensures))

pub returns-in_err-add_marker_column-4 : goal.returns-in_err-add_marker_column-4
returns-in_err-add_marker_column-4 g c =
    gathers_on _ _ _ _ _ _ _ _ _ _ c.in_ok-add_marker_column.ensures
    (gathers_on _ _ _ _ _ _ _ _ _ _ c.in_ok-add_marker_column-2.ensures
    (gathers_on _ _ _ _ _ _ _ _ _ _ c.in_ok-add_marker_column-3.ensures
    (gathers_stopped _ _ _ _ _ _ _ _ _ c.from_residual-in_err-add_marker_column-4.ensures.0 c.in_err-add_marker_column-4.ensures)))

pub returns-in_err-add_details : goal.returns-in_err-add_details
returns-in_err-add_details g c =
    gathers_on _ _ _ _ _ _ _ _ _ _ c.in_ok-add_marker_column.ensures
    (gathers_on _ _ _ _ _ _ _ _ _ _ c.in_ok-add_marker_column-2.ensures
    (gathers_on _ _ _ _ _ _ _ _ _ _ c.in_ok-add_marker_column-3.ensures
    (gathers_on _ _ _ _ _ _ _ _ _ _ c.in_ok-add_marker_column-4.ensures
    (gathers_stopped _ _ _ _ _ _ _ _ _ c.from_residual-in_err-add_details.ensures.0 c.in_err-add_details.ensures))))

pub returns : goal.returns
returns g c =
    gathers_on _ _ _ _ _ _ _ _ _ _ c.in_ok-add_marker_column.ensures
    (gathers_on _ _ _ _ _ _ _ _ _ _ c.in_ok-add_marker_column-2.ensures
    (gathers_on _ _ _ _ _ _ _ _ _ _ c.in_ok-add_marker_column-3.ensures
    (gathers_on _ _ _ _ _ _ _ _ _ _ c.in_ok-add_marker_column-4.ensures
    (gathers_on _ _ _ _ _ _ _ _ _ _ c.in_ok-add_details.ensures
    c.add_text.ensures))))
