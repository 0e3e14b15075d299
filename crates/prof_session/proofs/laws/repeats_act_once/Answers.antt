use Rattle.prof_session.proofs.LawLemmas.{acts_once, is_stale}
use Rattle.prof_session.proofs.laws.repeats_act_once.Goals as goal

pub returns : goal.returns
returns c = record { once = acts_once; stale = is_stale }
