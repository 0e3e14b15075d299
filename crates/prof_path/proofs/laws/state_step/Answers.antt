use Rattle.prof_path.proofs.StepLaws.{names_step, along_step, called_step, inside_step}
use Rattle.prof_path.proofs.laws.state_step.Goals as goal

pub returns : goal.returns
returns c = record { names = names_step; along = along_step; called = called_step; inside = inside_step }
