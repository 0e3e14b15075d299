use Rattle.std.proofs.Common.{Err, ap}
use Rattle.prof_back.specs.Made.{made}
use Rattle.prof_back.proofs.MadeStands.{made_stands}
use Rattle.prof_demo.specs.Generated.{generated}
use Rattle.prof_layout.specs.Profile.{profile_of}
use Rattle.prof_read.proofs.Texts.{stands-processed}
use Rattle.prof_trial.proofs.Causes.{only_memory, this_profile}
use Rattle.prof_trial.proofs.profile.made_profile.Goals as goal

pub ran_out-requires : goal.ran_out-requires
ran_out-requires c =
    only_memory (generated c.args.number) (profile_of (made c.args.number)) _ _ _ c.in-Err.refusal (stands-processed _ _ (made_stands c.args.number))
    c.new-source.ensures.left c.in-Err.ensures.cause (λ e. c.in-Err.ensures.steady tt (ap (λ r. Err r) e))

pub returns-clause-profile : goal.returns-clause-profile
returns-clause-profile c =
    this_profile (generated c.args.number) (profile_of (made c.args.number)) c.in-Ok.read.0 _ (stands-processed _ _ (made_stands c.args.number))
    c.new-source.ensures.left c.in-Ok.ensures.stands
