use Rattle.prof_path.proofs.StepLaws.{collapse_resource, collapse_direct_recursion}
use Rattle.prof_path.proofs.laws.collapse_step.Goals as goal

pub returns : goal.returns
returns c = record { resource = collapse_resource; direct_recursion = collapse_direct_recursion }
