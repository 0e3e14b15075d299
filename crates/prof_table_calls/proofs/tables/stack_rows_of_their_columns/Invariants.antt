-- The ledger of the counter is the one that the blank names.
use Rattle.prof_table_calls.proofs.tables.stack_rows_of_their_columns.Given as goal

abbrev pub ghosts-rows_are_read : goal.ghosts-rows_are_read
ghosts-rows_are_read g a = record { name = a.blank.name; parts = a.blank.parts }
