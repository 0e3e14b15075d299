-- The ledger of the counter is the one that the blank names.
use Rattle.prof_path_calls.proofs.layers.layers_hold_the_rewritten_paths.Given as goal

abbrev pub ghosts-each_kind : goal.ghosts-each_kind
ghosts-each_kind g a = record { name = a.blank.name; parts = a.blank.parts }
