use Rattle.std.proofs.Common.{ap}
use Rattle.prof_writer.specs.Writing.{quoted}
use Rattle.prof_page.proofs.Pages.{gathers_on, gathers_same, gathers_stopped}
use Rattle.prof_reply.proofs.markers.add_marker.Goals as goal

pub returns-in_err-add_line : goal.returns-in_err-add_line
returns-in_err-add_line g c =
    gathers_stopped _ _ _ _ _ _ _ _ _ c.from_residual.ensures.0 (gathers_same _ _ _ _ _ _ _ c.in_err-add_line.ensures c.marker_head.ensures)

pub returns-in_err-add_string : goal.returns-in_err-add_string
returns-in_err-add_string g c =
    gathers_on _ _ _ _ _ _ _ _ _ _ (gathers_same _ _ _ _ _ _ _ c.in_ok-add_line.ensures c.marker_head.ensures)
    (gathers_stopped _ _ _ _ _ _ _ _ _ c.from_residual-in_err-add_string.ensures.0 (gathers_same _ _ _ _ _ _ _ c.in_err-add_string.ensures (ap quoted c.marker_name.ensures)))

pub returns : goal.returns
returns g c =
    gathers_on _ _ _ _ _ _ _ _ _ _ (gathers_same _ _ _ _ _ _ _ c.in_ok-add_line.ensures c.marker_head.ensures)
    (gathers_on _ _ _ _ _ _ _ _ _ _ (gathers_same _ _ _ _ _ _ _ c.in_ok-add_string.ensures (ap quoted c.marker_name.ensures)) c.add_text.ensures)
