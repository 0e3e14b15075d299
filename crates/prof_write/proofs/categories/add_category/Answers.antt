use Rattle.prof_page.proofs.Pages.{gathers_on, gathers_stopped}
use Rattle.prof_write.proofs.categories.add_category.Goals as goal

pub returns-in_err-add_comma_before : goal.returns-in_err-add_comma_before
returns-in_err-add_comma_before g c =
    gathers_stopped _ _ _ _ _ _ _ _ _ c.from_residual.ensures.0 c.in_err-add_comma_before.ensures

pub returns-in_err-add_text : goal.returns-in_err-add_text
returns-in_err-add_text g c =
    gathers_on _ _ _ _ _ _ _ _ _ _ c.in_ok-add_comma_before.ensures
    (gathers_stopped _ _ _ _ _ _ _ _ _ c.from_residual-in_err-add_text.ensures.0 c.in_err-add_text.ensures)

pub returns-in_err-add_quoted : goal.returns-in_err-add_quoted
returns-in_err-add_quoted g c =
    gathers_on _ _ _ _ _ _ _ _ _ _ c.in_ok-add_comma_before.ensures
    (gathers_on _ _ _ _ _ _ _ _ _ _ c.in_ok-add_text.ensures
    (gathers_stopped _ _ _ _ _ _ _ _ _ c.from_residual-in_err-add_quoted.ensures.0 c.in_err-add_quoted.ensures))

pub returns : goal.returns
returns g c =
    gathers_on _ _ _ _ _ _ _ _ _ _ c.in_ok-add_comma_before.ensures
    (gathers_on _ _ _ _ _ _ _ _ _ _ c.in_ok-add_text.ensures
    (gathers_on _ _ _ _ _ _ _ _ _ _ c.in_ok-add_quoted.ensures
    c.add_color.ensures))
