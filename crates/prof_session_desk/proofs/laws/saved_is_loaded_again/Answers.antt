use Rattle.prof_session_desk.proofs.DeskLaws.{loaded_again, others_kept}
use Rattle.prof_session_desk.proofs.laws.saved_is_loaded_again.Goals as goal

pub returns : goal.returns
returns c = record { loaded = loaded_again; kept = others_kept }
