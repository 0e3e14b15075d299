use Rattle.std.proofs.Common.{◌≡◌, ◌∙◌, sym}
use Rattle.std.specs.Prelude.{Some, slice_get}
use Rattle.prof_tables.specs.declared.rows.StackRow.{StackRow}
use Rattle.prof_write.specs.Cells.{index, maybe_index}
use Rattle.prof_write.proofs.CellLemmas.{text_of_row}
use Rattle.prof_write.proofs.stacks.stack_line.Goals as goal

pub returns-in-Frame-clause-cell : goal.returns-in-Frame-clause-cell
returns-in-Frame-clause-cell g c =
    let t = c.args.thread.now.shared in
    rw c.in-Frame.is (c.number_line.ensures ∙ sym (text_of_row index t.stack_frames c.args.row c.stack_frame.result c.stack_frame.ensures.row))

pub returns-in-Prefix-clause-cell : goal.returns-in-Prefix-clause-cell
returns-in-Prefix-clause-cell g c =
    let t = c.args.thread.now.shared in
    let read : slice_get t.stacks c.args.row ≡ Some c.row.result = rw c.stacks.ensures.rows at c.row.ensures.row in
    rw c.in-Prefix.is (c.maybe_index_line.ensures ∙ sym (text_of_row (λ (s : StackRow). maybe_index s.prefix) t.stacks c.args.row c.row.result read))
