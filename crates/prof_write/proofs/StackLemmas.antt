-- The cells of stack rows.
use Rattle.std.proofs.Common.{◌≡◌, ◌∙◌, length}
use Rattle.std.specs.Prelude.{map}
use Rattle.prof_tables.specs.declared.rows.StackRow.{StackRow}
use Rattle.prof_tables.specs.Threads.{SharedTables}
use Rattle.prof_write.specs.declared.stacks.StackColumn.{StackColumn}
use Rattle.prof_write.specs.declared.stacks.StackColumn.TheVariants as column
use Rattle.prof_write.specs.Cells.{index, maybe_index}
use Rattle.prof_write.specs.Columns.{stack_cells}
use Rattle.prof_write.specs.Compact.{compact}
use Rattle.prof_write.proofs.CellLemmas.{length-cells}

pub length-stack_cells : (c : StackColumn) (t : SharedTables) → length t.stack_frames ≡ length t.stacks → length (map compact (stack_cells c t)) ≡ length t.stacks
length-stack_cells column.Frame t many = length-cells index t.stack_frames ∙ many
length-stack_cells column.Prefix t many = length-cells (λ (s : StackRow). maybe_index s.prefix) t.stacks
