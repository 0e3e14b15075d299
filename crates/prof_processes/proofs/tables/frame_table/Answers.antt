use Rattle.prof_gecko_layout.specs.GeckoTables.{frame_table}
use Rattle.prof_processes.specs.Tables.{kept_table}
use Rattle.prof_processes.proofs.Threads.{table_is, three_columns}
use Rattle.prof_processes.proofs.tables.frame_table.Goals as goal

pub returns : goal.returns
unfolding frame_table
returns c most member h =
    table_is _ (kept_table most (frame_table member)) (c.first_fault-fault.ensures most member h)
    (three_columns _ _ _ _ _ _ _ _ _ _ c.new-columns.ensures.items c.in_ok-push.ensures.items c.in_ok-push-2.ensures.items c.in_ok-push-3.ensures.items (c.in_ok-column.ensures most member h) (c.in_ok-column-2.ensures most member h) (c.in_ok-column-3.ensures most member h))
