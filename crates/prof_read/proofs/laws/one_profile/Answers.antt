use Rattle.prof_read.proofs.Texts.{same_profile, same_check, same_form, not_both, either, stands-processed, form-processed}
use Rattle.prof_read.proofs.Profiles.{stands_profile}
use Rattle.prof_read.proofs.laws.one_profile.Goals as goal

pub returns : goal.returns
returns c = record {
  profile = same_profile;
  check = same_check;
  form = same_form;
  apart = not_both;
  profiles = stands_profile;
  either = either;
  processed = stands-processed;
  processed_form = form-processed;
}
