use Rattle.prof_layout.proofs.Texts.{same_profile, same_check, not_both, either}
use Rattle.prof_layout.proofs.Profiles.{stands_profile}
use Rattle.prof_layout.proofs.laws.one_profile.Goals as goal

pub returns : goal.returns
returns c = record { profile = same_profile; check = same_check; apart = not_both; profiles = stands_profile; either = either }
