-- The ledger of the counter is the one that the blank names.
use Rattle.prof_path_calls.proofs.layers.samples_stay_at_the_moments_of_unsorted_intervals.Given as goal

abbrev pub ghosts-held_moments : goal.ghosts-held_moments
ghosts-held_moments g a = record { name = a.blank.name; parts = a.blank.parts }
