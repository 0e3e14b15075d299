use Rattle.prof_write.specs.Written.{profile_value}
use Rattle.prof_back.proofs.Told.{value_told}
use Rattle.prof_back.proofs.Written.{profile_writable}
use Rattle.prof_back.proofs.accepts_written_profiles.Goals as goal

pub returns : goal.returns
returns c = λ p kept few short. value_told (profile_value p) (profile_writable p kept few) short
