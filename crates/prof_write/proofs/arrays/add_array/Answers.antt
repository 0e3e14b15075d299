use Rattle.std.proofs.Common.{false, codes}
use Rattle.prof_page.proofs.Pages.{gathers_on, gathers_same, gathers_stopped}
use Rattle.prof_write.specs.Compact.{compact_items, values_of}
use Rattle.prof_write.proofs.ArrayLemmas.{array_is}
use Rattle.prof_write.proofs.arrays.add_array.Goals as goal

pub returns-in_err-add_text : goal.returns-in_err-add_text
returns-in_err-add_text g c = λ values is.
    gathers_stopped _ _ _ _ _ _ (compact_items false (values_of values)) _ _ c.from_residual.ensures.0 c.in_err-add_text.ensures

pub returns-in_err-add_column : goal.returns-in_err-add_column
returns-in_err-add_column g c = λ values is.
    gathers_same _ _ _ _ _ _ _
    (gathers_on _ _ _ _ _ _ _ _ _ _ c.in_ok-add_text.ensures
    (gathers_stopped _ _ _ _ _ _ (codes "]") _ _ c.from_residual-in_err-add_column.ensures.0 c.in_err-add_column.ensures))
    (array_is c.args.before.now _ values is)

pub returns : goal.returns
returns g c = λ values is.
    gathers_same _ _ _ _ _ _ _
    (gathers_on _ _ _ _ _ _ _ _ _ _ c.in_ok-add_text.ensures
    (gathers_on _ _ _ _ _ _ _ _ _ _ c.in_ok-add_column.ensures c.add_text-2.ensures))
    (array_is c.args.before.now _ values is)
