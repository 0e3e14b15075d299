use Rattle.prof_page.proofs.Pages.{gathers_on, gathers_stopped}
use Rattle.prof_write.proofs.marker_texts.add_member.Goals as goal

pub returns-in_err-add_comma_before : goal.returns-in_err-add_comma_before
returns-in_err-add_comma_before g c =
    gathers_stopped _ _ _ _ _ _ _ _ _ c.from_residual.ensures.0 c.in_err-add_comma_before.ensures

pub returns-in_err-add_number_name : goal.returns-in_err-add_number_name
returns-in_err-add_number_name g c =
    gathers_on _ _ _ _ _ _ _ _ _ _ c.in_ok-add_comma_before.ensures
    (gathers_stopped _ _ _ _ _ _ _ _ _ c.from_residual-in_err-add_number_name.ensures.0 c.in_err-add_number_name.ensures)

pub returns-in_err-add_text : goal.returns-in_err-add_text
returns-in_err-add_text g c =
    gathers_on _ _ _ _ _ _ _ _ _ _ c.in_ok-add_comma_before.ensures
    (gathers_on _ _ _ _ _ _ _ _ _ _ c.in_ok-add_number_name.ensures
    (gathers_stopped _ _ _ _ _ _ _ _ _ c.from_residual-in_err-add_text.ensures.0 c.in_err-add_text.ensures))

pub returns : goal.returns
returns g c =
    gathers_on _ _ _ _ _ _ _ _ _ _ c.in_ok-add_comma_before.ensures
    (gathers_on _ _ _ _ _ _ _ _ _ _ c.in_ok-add_number_name.ensures
    (gathers_on _ _ _ _ _ _ _ _ _ _ c.in_ok-add_text.ensures
    c.add_quoted.ensures))
