use Rattle.prof_time.proofs.Readings.{same_numeral}
use Rattle.prof_time.proofs.laws.one_numeral.Goals as goal

pub returns : goal.returns
returns c = same_numeral
