use Rattle.prof_page.proofs.Pages.{gathers_on, gathers_stopped}
use Rattle.prof_write.proofs.thread.add_thread.Goals as goal

pub returns-in_err-add_text-clause-text : goal.returns-in_err-add_text-clause-text
returns-in_err-add_text-clause-text g c =
    gathers_stopped _ _ _ _ _ _ _ _ _ c.from_residual.ensures.0 c.in_err-add_text.ensures

pub returns-in_err-add_name-clause-text : goal.returns-in_err-add_name-clause-text
returns-in_err-add_name-clause-text g c =
    gathers_on _ _ _ _ _ _ _ _ _ _ c.in_ok-add_text.ensures
    (gathers_stopped _ _ _ _ _ _ _ _ _ c.from_residual-in_err-add_name.ensures.0 c.in_err-add_name.ensures)

pub returns-in_err-add_strings-clause-text : goal.returns-in_err-add_strings-clause-text
returns-in_err-add_strings-clause-text g c =
    gathers_on _ _ _ _ _ _ _ _ _ _ c.in_ok-add_text.ensures
    (gathers_on _ _ _ _ _ _ _ _ _ _ c.in_ok-add_name.ensures
    (gathers_stopped _ _ _ _ _ _ _ _ _ c.from_residual-in_err-add_strings.ensures.0 c.in_err-add_strings.ensures))

pub returns-in_err-add_resources-clause-text : goal.returns-in_err-add_resources-clause-text
returns-in_err-add_resources-clause-text g c =
    gathers_on _ _ _ _ _ _ _ _ _ _ c.in_ok-add_text.ensures
    (gathers_on _ _ _ _ _ _ _ _ _ _ c.in_ok-add_name.ensures
    (gathers_on _ _ _ _ _ _ _ _ _ _ c.in_ok-add_strings.ensures
    (gathers_stopped _ _ _ _ _ _ _ _ _ c.from_residual-in_err-add_resources.ensures.0 c.in_err-add_resources.ensures)))

pub returns-in_err-add_funcs-clause-text : goal.returns-in_err-add_funcs-clause-text
returns-in_err-add_funcs-clause-text g c =
    gathers_on _ _ _ _ _ _ _ _ _ _ c.in_ok-add_text.ensures
    (gathers_on _ _ _ _ _ _ _ _ _ _ c.in_ok-add_name.ensures
    (gathers_on _ _ _ _ _ _ _ _ _ _ c.in_ok-add_strings.ensures
    (gathers_on _ _ _ _ _ _ _ _ _ _ c.in_ok-add_resources.ensures
    (gathers_stopped _ _ _ _ _ _ _ _ _ c.from_residual-in_err-add_funcs.ensures.0 c.in_err-add_funcs.ensures))))

pub returns-in_err-add_frames-clause-text : goal.returns-in_err-add_frames-clause-text
returns-in_err-add_frames-clause-text g c =
    gathers_on _ _ _ _ _ _ _ _ _ _ c.in_ok-add_text.ensures
    (gathers_on _ _ _ _ _ _ _ _ _ _ c.in_ok-add_name.ensures
    (gathers_on _ _ _ _ _ _ _ _ _ _ c.in_ok-add_strings.ensures
    (gathers_on _ _ _ _ _ _ _ _ _ _ c.in_ok-add_resources.ensures
    (gathers_on _ _ _ _ _ _ _ _ _ _ c.in_ok-add_funcs.ensures
    (gathers_stopped _ _ _ _ _ _ _ _ _ c.from_residual-in_err-add_frames.ensures.0 c.in_err-add_frames.ensures)))))

pub returns-in_err-add_stacks-clause-text : goal.returns-in_err-add_stacks-clause-text
returns-in_err-add_stacks-clause-text g c =
    gathers_on _ _ _ _ _ _ _ _ _ _ c.in_ok-add_text.ensures
    (gathers_on _ _ _ _ _ _ _ _ _ _ c.in_ok-add_name.ensures
    (gathers_on _ _ _ _ _ _ _ _ _ _ c.in_ok-add_strings.ensures
    (gathers_on _ _ _ _ _ _ _ _ _ _ c.in_ok-add_resources.ensures
    (gathers_on _ _ _ _ _ _ _ _ _ _ c.in_ok-add_funcs.ensures
    (gathers_on _ _ _ _ _ _ _ _ _ _ c.in_ok-add_frames.ensures
    (gathers_stopped _ _ _ _ _ _ _ _ _ c.from_residual-in_err-add_stacks.ensures.0 c.in_err-add_stacks.ensures.text))))))

pub returns-in_err-add_samples-clause-text : goal.returns-in_err-add_samples-clause-text
returns-in_err-add_samples-clause-text g c =
    gathers_on _ _ _ _ _ _ _ _ _ _ c.in_ok-add_text.ensures
    (gathers_on _ _ _ _ _ _ _ _ _ _ c.in_ok-add_name.ensures
    (gathers_on _ _ _ _ _ _ _ _ _ _ c.in_ok-add_strings.ensures
    (gathers_on _ _ _ _ _ _ _ _ _ _ c.in_ok-add_resources.ensures
    (gathers_on _ _ _ _ _ _ _ _ _ _ c.in_ok-add_funcs.ensures
    (gathers_on _ _ _ _ _ _ _ _ _ _ c.in_ok-add_frames.ensures
    (gathers_on _ _ _ _ _ _ _ _ _ _ c.in_ok-add_stacks.ensures.text
    (gathers_stopped _ _ _ _ _ _ _ _ _ c.from_residual-in_err-add_samples.ensures.0 c.in_err-add_samples.ensures)))))))

pub returns-in_err-add_markers-clause-text : goal.returns-in_err-add_markers-clause-text
returns-in_err-add_markers-clause-text g c =
    gathers_on _ _ _ _ _ _ _ _ _ _ c.in_ok-add_text.ensures
    (gathers_on _ _ _ _ _ _ _ _ _ _ c.in_ok-add_name.ensures
    (gathers_on _ _ _ _ _ _ _ _ _ _ c.in_ok-add_strings.ensures
    (gathers_on _ _ _ _ _ _ _ _ _ _ c.in_ok-add_resources.ensures
    (gathers_on _ _ _ _ _ _ _ _ _ _ c.in_ok-add_funcs.ensures
    (gathers_on _ _ _ _ _ _ _ _ _ _ c.in_ok-add_frames.ensures
    (gathers_on _ _ _ _ _ _ _ _ _ _ c.in_ok-add_stacks.ensures.text
    (gathers_on _ _ _ _ _ _ _ _ _ _ c.in_ok-add_samples.ensures
    (gathers_stopped _ _ _ _ _ _ _ _ _ c.from_residual-in_err-add_markers.ensures.0 c.in_err-add_markers.ensures))))))))

pub returns-clause-text : goal.returns-clause-text
returns-clause-text g c =
    gathers_on _ _ _ _ _ _ _ _ _ _ c.in_ok-add_text.ensures
    (gathers_on _ _ _ _ _ _ _ _ _ _ c.in_ok-add_name.ensures
    (gathers_on _ _ _ _ _ _ _ _ _ _ c.in_ok-add_strings.ensures
    (gathers_on _ _ _ _ _ _ _ _ _ _ c.in_ok-add_resources.ensures
    (gathers_on _ _ _ _ _ _ _ _ _ _ c.in_ok-add_funcs.ensures
    (gathers_on _ _ _ _ _ _ _ _ _ _ c.in_ok-add_frames.ensures
    (gathers_on _ _ _ _ _ _ _ _ _ _ c.in_ok-add_stacks.ensures.text
    (gathers_on _ _ _ _ _ _ _ _ _ _ c.in_ok-add_samples.ensures
    (gathers_on _ _ _ _ _ _ _ _ _ _ c.in_ok-add_markers.ensures
    c.add_text-2.ensures))))))))
