use Rattle.prof_layout.proofs.Numbers.{scaled_is, scaled_one}
use Rattle.prof_layout.proofs.laws.one_scaled.Goals as goal

pub returns-clause-is : goal.returns-clause-is
returns-clause-is c = scaled_is

pub returns-clause-one : goal.returns-clause-one
returns-clause-one c = scaled_one
