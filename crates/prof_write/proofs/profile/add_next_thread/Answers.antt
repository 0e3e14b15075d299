use Rattle.prof_page.proofs.Pages.{gathers_on, gathers_stopped}
use Rattle.prof_write.proofs.profile.add_next_thread.Goals as goal

pub returns-in_err-add_comma_before-clause-text : goal.returns-in_err-add_comma_before-clause-text
returns-in_err-add_comma_before-clause-text g c =
    gathers_stopped _ _ _ _ _ _ _ _ _ c.from_residual.ensures.0 c.in_err-add_comma_before.ensures

pub returns-clause-text : goal.returns-clause-text
returns-clause-text g c =
    gathers_on _ _ _ _ _ _ _ _ _ _ c.in_ok-add_comma_before.ensures
    c.add_thread.ensures.text
