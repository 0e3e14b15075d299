use Rattle.prof_schema.proofs.SameNumbers.{whole_scaled}
use Rattle.prof_schema.proofs.laws.whole_is_scaled.Goals as goal

pub returns : goal.returns
returns c = whole_scaled
