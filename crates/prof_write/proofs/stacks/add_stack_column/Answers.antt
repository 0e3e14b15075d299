use Rattle.std.proofs.Common.{refl, codes, false}
use Rattle.prof_page.proofs.Pages.{gathers_on, gathers_same, gathers_stopped}
use Rattle.prof_write.specs.Columns.{stack_cells}
use Rattle.prof_write.specs.Compact.{compact_items, values_of}
use Rattle.prof_write.proofs.ArrayLemmas.{array_is}
use Rattle.prof_write.proofs.stacks.add_stack_column.Goals as goal

pub returns-in_err-add_text-clause-text : goal.returns-in_err-add_text-clause-text
returns-in_err-add_text-clause-text g c =
    gathers_stopped _ _ _ _ _ _ (compact_items false (values_of (stack_cells c.args.column c.args.thread.now.shared))) _ _ c.from_residual.ensures.0 c.in_err-add_text.ensures

pub returns-in_err-add_stack_cells-clause-text : goal.returns-in_err-add_stack_cells-clause-text
returns-in_err-add_stack_cells-clause-text g c =
    gathers_same _ _ _ _ _ _ _
    (gathers_on _ _ _ _ _ _ _ _ _ _ c.in_ok-add_text.ensures
    (gathers_stopped _ _ _ _ _ _ (codes "]") _ _ c.from_residual-in_err-add_stack_cells.ensures.0 c.in_err-add_stack_cells.ensures.text))
    (array_is c.args.before.now _ (stack_cells c.args.column c.args.thread.now.shared) refl)

pub returns-clause-text : goal.returns-clause-text
returns-clause-text g c =
    gathers_same _ _ _ _ _ _ _
    (gathers_on _ _ _ _ _ _ _ _ _ _ c.in_ok-add_text.ensures
    (gathers_on _ _ _ _ _ _ _ _ _ _ c.in_ok-add_stack_cells.ensures.text c.add_text-2.ensures))
    (array_is c.args.before.now _ (stack_cells c.args.column c.args.thread.now.shared) refl)
