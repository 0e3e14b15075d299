use Rattle.prof_gecko_layout.specs.GeckoTables.{marker_table}
use Rattle.prof_processes.specs.Tables.{kept_table}
use Rattle.prof_processes.proofs.Threads.{table_is, five_columns}
use Rattle.prof_processes.proofs.tables.marker_table.Goals as goal

pub returns : goal.returns
unfolding marker_table
returns c most member h =
    table_is _ (kept_table most (marker_table member)) (c.first_fault-fault.ensures most member h)
    (five_columns _ _ _ _ _ _ _ _ _ _ _ _ _ _ _ _ c.new-columns.ensures.items c.in_ok-push.ensures.items c.in_ok-push-2.ensures.items c.in_ok-push-3.ensures.items c.in_ok-push-4.ensures.items c.in_ok-push-5.ensures.items (c.in_ok-column.ensures most member h) (c.in_ok-column-2.ensures most member h) (c.in_ok-column-3.ensures most member h) (c.in_ok-column-4.ensures most member h) (c.in_ok-column-5.ensures most member h))
