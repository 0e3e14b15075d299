use Rattle.prof_back.proofs.ProfileBack.{profile_back}
use Rattle.prof_back.proofs.reads_profile_back.Goals as goal

pub returns : goal.returns
returns c = profile_back c.args.profile.now c.is_kept.ensures
