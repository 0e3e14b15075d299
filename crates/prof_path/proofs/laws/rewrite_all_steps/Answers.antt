use Rattle.prof_path.proofs.StepLaws.{empty_stays, one_more_transform}
use Rattle.prof_path.proofs.laws.rewrite_all_steps.Goals as goal

pub returns : goal.returns
returns c = record { empty = empty_stays; one_more = one_more_transform }
