-- The ledger of the counter is the one that the blank names.
use Rattle.prof_path_calls.proofs.paths.stacks_have_paths.Given as goal

abbrev pub ghosts-paths_of : goal.ghosts-paths_of
ghosts-paths_of g a = record { name = a.blank.name; parts = a.blank.parts }
