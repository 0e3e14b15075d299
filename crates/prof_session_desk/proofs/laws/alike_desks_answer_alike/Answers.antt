use Rattle.prof_session_desk.proofs.DeskLaws.{answer_alike}
use Rattle.prof_session_desk.proofs.laws.alike_desks_answer_alike.Goals as goal

pub returns : goal.returns
returns c = answer_alike
