use Rattle.prof_page.proofs.Pages.{gathers_on, gathers_stopped}
use Rattle.prof_write.proofs.stacks.add_stacks.Goals as goal

pub returns-in_err-add_stack_column-clause-text : goal.returns-in_err-add_stack_column-clause-text
returns-in_err-add_stack_column-clause-text g c =
    gathers_stopped _ _ _ _ _ _ _ _ _ c.from_residual.ensures.0 c.in_err-add_stack_column.ensures.text

pub returns-in_err-add_stack_column-2-clause-text : goal.returns-in_err-add_stack_column-2-clause-text
returns-in_err-add_stack_column-2-clause-text g c =
    gathers_on _ _ _ _ _ _ _ _ _ _ c.in_ok-add_stack_column.ensures.text
    (gathers_stopped _ _ _ _ _ _ _ _ _ c.from_residual-in_err-add_stack_column-2.ensures.0 c.in_err-add_stack_column-2.ensures.text)

pub returns-clause-text : goal.returns-clause-text
returns-clause-text g c =
    gathers_on _ _ _ _ _ _ _ _ _ _ c.in_ok-add_stack_column.ensures.text
    (gathers_on _ _ _ _ _ _ _ _ _ _ c.in_ok-add_stack_column-2.ensures.text
    c.add_text.ensures)
