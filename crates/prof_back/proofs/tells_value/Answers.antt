use Rattle.prof_back.proofs.Told.{value_told}
use Rattle.prof_back.proofs.tells_value.Goals as goal

pub returns : goal.returns
returns c = value_told
