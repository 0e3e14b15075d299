use Rattle.prof_back.proofs.Samples.{samples_back, unit_of_back, name_back}
use Rattle.prof_back.proofs.reads_samples_back.Goals as goal

pub returns : goal.returns
returns c = record { samples = samples_back; unit = unit_of_back; name = name_back }
