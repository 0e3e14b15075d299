use Rattle.prof_back.proofs.ProfilePasses.{profile_passes}
use Rattle.prof_back.proofs.breaks_nothing_written.Goals as goal

pub returns : goal.returns
returns c = profile_passes
