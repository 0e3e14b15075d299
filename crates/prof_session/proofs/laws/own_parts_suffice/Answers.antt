use Rattle.prof_session.proofs.LawLemmas.{own_parts}
use Rattle.prof_session.proofs.laws.own_parts_suffice.Goals as goal

pub returns : goal.returns
returns c = own_parts
