use Rattle.prof_page.proofs.Pages.{gathers_on, gathers_stopped}
use Rattle.prof_write.proofs.samples.add_samples.Goals as goal

pub returns-in_err-add_sample_column : goal.returns-in_err-add_sample_column
returns-in_err-add_sample_column g c =
    gathers_stopped _ _ _ _ _ _ _ _ _ c.from_residual.ensures.0 c.in_err-add_sample_column.ensures

pub returns-in_err-add_sample_column-2 : goal.returns-in_err-add_sample_column-2
returns-in_err-add_sample_column-2 g c =
    gathers_on _ _ _ _ _ _ _ _ _ _ c.in_ok-add_sample_column.ensures
    (gathers_stopped _ _ _ _ _ _ _ _ _ c.from_residual-in_err-add_sample_column-2.ensures.0 c.in_err-add_sample_column-2.ensures)

pub returns-in_err-add_weight_type : goal.returns-in_err-add_weight_type
returns-in_err-add_weight_type g c =
    gathers_on _ _ _ _ _ _ _ _ _ _ c.in_ok-add_sample_column.ensures
    (gathers_on _ _ _ _ _ _ _ _ _ _ c.in_ok-add_sample_column-2.ensures
    (gathers_stopped _ _ _ _ _ _ _ _ _ c.from_residual-in_err-add_weight_type.ensures.0 c.in_err-add_weight_type.ensures))

pub returns-in_err-add_sample_column-3 : goal.returns-in_err-add_sample_column-3
returns-in_err-add_sample_column-3 g c =
    gathers_on _ _ _ _ _ _ _ _ _ _ c.in_ok-add_sample_column.ensures
    (gathers_on _ _ _ _ _ _ _ _ _ _ c.in_ok-add_sample_column-2.ensures
    (gathers_on _ _ _ _ _ _ _ _ _ _ c.in_ok-add_weight_type.ensures
    (gathers_stopped _ _ _ _ _ _ _ _ _ c.from_residual-in_err-add_sample_column-3.ensures.0 c.in_err-add_sample_column-3.ensures)))

pub returns : goal.returns
returns g c =
    gathers_on _ _ _ _ _ _ _ _ _ _ c.in_ok-add_sample_column.ensures
    (gathers_on _ _ _ _ _ _ _ _ _ _ c.in_ok-add_sample_column-2.ensures
    (gathers_on _ _ _ _ _ _ _ _ _ _ c.in_ok-add_weight_type.ensures
    (gathers_on _ _ _ _ _ _ _ _ _ _ c.in_ok-add_sample_column-3.ensures
    c.add_text.ensures)))
