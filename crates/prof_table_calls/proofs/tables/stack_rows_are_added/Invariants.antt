-- The ledger of the counter is the one that the blank names.
use Rattle.prof_table_calls.proofs.tables.stack_rows_are_added.Given as goal

abbrev pub ghosts-built_row_is_read : goal.ghosts-built_row_is_read
ghosts-built_row_is_read g a = record { name = a.blank.name; parts = a.blank.parts }
