-- The readings are counted in the ledger that the blank names.
use Rattle.prof_keeper_calls.proofs.scripts.a_session_is_saved_and_loaded.Given as goal

abbrev pub ghosts-assert_replies : goal.ghosts-assert_replies
ghosts-assert_replies g a = record { name = a.blank.name; parts = a.blank.parts }
