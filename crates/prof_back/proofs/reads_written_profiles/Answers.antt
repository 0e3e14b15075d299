use Rattle.prof_back.proofs.ProfileBack.{profile_back}
use Rattle.prof_back.proofs.reads_written_profiles.Goals as goal

pub returns : goal.returns
returns c = profile_back
