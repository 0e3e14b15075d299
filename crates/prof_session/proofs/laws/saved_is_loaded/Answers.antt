use Rattle.prof_session.proofs.LawLemmas.{loads_saved}
use Rattle.prof_session.proofs.laws.saved_is_loaded.Goals as goal

pub returns : goal.returns
returns c = loads_saved
