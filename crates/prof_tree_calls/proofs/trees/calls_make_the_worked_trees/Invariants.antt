-- The ledger of the counter is the one that the blank names.
use Rattle.prof_tree_calls.proofs.trees.calls_make_the_worked_trees.Given as goal

abbrev pub ghosts-assert_trees : goal.ghosts-assert_trees
ghosts-assert_trees g a = record { name = a.blank.name; parts = a.blank.parts }
