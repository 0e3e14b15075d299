use Rattle.prof_gecko_layout.specs.GeckoTables.{stack_table}
use Rattle.prof_processes.specs.Tables.{kept_table}
use Rattle.prof_processes.proofs.Threads.{table_is, two_columns}
use Rattle.prof_processes.proofs.tables.stack_table.Goals as goal

pub returns : goal.returns
unfolding stack_table
returns c most member h =
    table_is _ (kept_table most (stack_table member)) (c.first_fault-fault.ensures most member h)
    (two_columns _ _ _ _ _ _ _ c.new-columns.ensures.items c.in_ok-push.ensures.items c.in_ok-push-2.ensures.items (c.in_ok-column.ensures most member h) (c.in_ok-column-2.ensures most member h))
