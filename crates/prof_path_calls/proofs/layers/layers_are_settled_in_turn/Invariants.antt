-- The ledger of the counter is the one that the blank names.
use Rattle.prof_path_calls.proofs.layers.layers_are_settled_in_turn.Given as goal

abbrev pub ghosts-settled_in_turn : goal.ghosts-settled_in_turn
ghosts-settled_in_turn g a = record { name = a.blank.name; parts = a.blank.parts }
