-- The ledger of the counter is the one that the blank names.
use Rattle.prof_calls.proofs.outside.steps_are_counted.Given as goal

abbrev pub ghosts-counted_twice : goal.ghosts-counted_twice
ghosts-counted_twice a = record { name = a.blank.name; parts = a.blank.parts }
