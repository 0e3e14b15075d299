use Rattle.prof_path.proofs.Repeats.{direct_by_place}
use Rattle.prof_path.proofs.laws.direct_recursion_by_place.Goals as goal

pub returns : goal.returns
returns c = direct_by_place
