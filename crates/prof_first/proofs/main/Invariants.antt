-- The readings are counted in the ledger that was opened for them.
use Rattle.prof_first.proofs.main.Given as goal

abbrev pub ghosts-run_counted : goal.ghosts-run_counted
ghosts-run_counted a = record { name = a.blank.name; parts = a.blank.parts }
