use Rattle.prof_time.proofs.Meanings.{same_scaled, some_scaled}
use Rattle.prof_time.proofs.laws.one_scaled.Goals as goal

pub returns-clause-one : goal.returns-clause-one
returns-clause-one c = same_scaled

pub returns-clause-some : goal.returns-clause-some
returns-clause-some c = some_scaled
