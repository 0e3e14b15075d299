-- The ledger of the counter is the one that the blank names.
use Rattle.prof_tree_calls.proofs.trees.an_inverted_tree_of_a_view_within_the_limit.Given as goal

abbrev pub ghosts-inverted_chain : goal.ghosts-inverted_chain
ghosts-inverted_chain g a = record { name = a.blank.name; parts = a.blank.parts }
