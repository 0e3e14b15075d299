use Rattle.prof_time.proofs.Meanings.{same_exact}
use Rattle.prof_time.proofs.laws.one_exact.Goals as goal

pub returns : goal.returns
returns c = same_exact
