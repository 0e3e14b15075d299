use Rattle.prof_page.proofs.Pages.{gathers_on, gathers_stopped}
use Rattle.prof_write.proofs.frames.add_frames.Goals as goal

pub returns-in_err-add_frame_column : goal.returns-in_err-add_frame_column
returns-in_err-add_frame_column g c =
    gathers_stopped _ _ _ _ _ _ _ _ _ c.from_residual.ensures.0 c.in_err-add_frame_column.ensures

pub returns-in_err-add_frame_column-2 : goal.returns-in_err-add_frame_column-2
returns-in_err-add_frame_column-2 g c =
    gathers_on _ _ _ _ _ _ _ _ _ _ c.in_ok-add_frame_column.ensures
    (gathers_stopped _ _ _ _ _ _ _ _ _ c.from_residual-in_err-add_frame_column-2.ensures.0 c.in_err-add_frame_column-2.ensures)

pub returns : goal.returns
returns g c =
    gathers_on _ _ _ _ _ _ _ _ _ _ c.in_ok-add_frame_column.ensures
    (gathers_on _ _ _ _ _ _ _ _ _ _ c.in_ok-add_frame_column-2.ensures
    c.add_text.ensures)
