use Rattle.prof_page.proofs.Pages.{gathers_on, gathers_stopped}
use Rattle.prof_write.proofs.funcs.add_funcs.Goals as goal

pub returns-in_err-add_func_column : goal.returns-in_err-add_func_column
returns-in_err-add_func_column g c =
    gathers_stopped _ _ _ _ _ _ _ _ _ c.from_residual.ensures.0 c.in_err-add_func_column.ensures

pub returns-in_err-add_func_column-2 : goal.returns-in_err-add_func_column-2
returns-in_err-add_func_column-2 g c =
    gathers_on _ _ _ _ _ _ _ _ _ _ c.in_ok-add_func_column.ensures
    (gathers_stopped _ _ _ _ _ _ _ _ _ c.from_residual-in_err-add_func_column-2.ensures.0 c.in_err-add_func_column-2.ensures)

pub returns-in_err-add_func_column-3 : goal.returns-in_err-add_func_column-3
returns-in_err-add_func_column-3 g c =
    gathers_on _ _ _ _ _ _ _ _ _ _ c.in_ok-add_func_column.ensures
    (gathers_on _ _ _ _ _ _ _ _ _ _ c.in_ok-add_func_column-2.ensures
    (gathers_stopped _ _ _ _ _ _ _ _ _ c.from_residual-in_err-add_func_column-3.ensures.0 c.in_err-add_func_column-3.ensures))

pub returns-in_err-add_func_column-4 : goal.returns-in_err-add_func_column-4
returns-in_err-add_func_column-4 g c =
    gathers_on _ _ _ _ _ _ _ _ _ _ c.in_ok-add_func_column.ensures
    (gathers_on _ _ _ _ _ _ _ _ _ _ c.in_ok-add_func_column-2.ensures
    (gathers_on _ _ _ _ _ _ _ _ _ _ c.in_ok-add_func_column-3.ensures
    (gathers_stopped _ _ _ _ _ _ _ _ _ c.from_residual-in_err-add_func_column-4.ensures.0 c.in_err-add_func_column-4.ensures)))

pub returns-in_err-add_func_column-5 : goal.returns-in_err-add_func_column-5
returns-in_err-add_func_column-5 g c =
    gathers_on _ _ _ _ _ _ _ _ _ _ c.in_ok-add_func_column.ensures
    (gathers_on _ _ _ _ _ _ _ _ _ _ c.in_ok-add_func_column-2.ensures
    (gathers_on _ _ _ _ _ _ _ _ _ _ c.in_ok-add_func_column-3.ensures
    (gathers_on _ _ _ _ _ _ _ _ _ _ c.in_ok-add_func_column-4.ensures
    (gathers_stopped _ _ _ _ _ _ _ _ _ c.from_residual-in_err-add_func_column-5.ensures.0 c.in_err-add_func_column-5.ensures))))

pub returns : goal.returns
returns g c =
    gathers_on _ _ _ _ _ _ _ _ _ _ c.in_ok-add_func_column.ensures
    (gathers_on _ _ _ _ _ _ _ _ _ _ c.in_ok-add_func_column-2.ensures
    (gathers_on _ _ _ _ _ _ _ _ _ _ c.in_ok-add_func_column-3.ensures
    (gathers_on _ _ _ _ _ _ _ _ _ _ c.in_ok-add_func_column-4.ensures
    (gathers_on _ _ _ _ _ _ _ _ _ _ c.in_ok-add_func_column-5.ensures
    c.add_text.ensures))))
