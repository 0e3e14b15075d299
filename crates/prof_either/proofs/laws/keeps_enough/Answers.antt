use Rattle.prof_either.proofs.KeptProfiles.{check_kept, profile_kept}
use Rattle.prof_either.proofs.laws.keeps_enough.Goals as goal

pub returns : goal.returns
returns c = record { check = check_kept; whole = profile_kept }
