use Rattle.prof_session_desk.proofs.DeskLaws.{repeat_again, stale_there}
use Rattle.prof_session_desk.proofs.laws.repeat_is_answered_again.Goals as goal

pub returns : goal.returns
returns c = record { once = repeat_again; stale = stale_there }
