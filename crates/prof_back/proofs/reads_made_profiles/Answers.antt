use Rattle.prof_back.proofs.MadeText.{made_text}
use Rattle.prof_back.proofs.MadeChecks.{made_passes}
use Rattle.prof_back.proofs.MadeStands.{made_stands}
use Rattle.prof_back.proofs.reads_made_profiles.Goals as goal

pub returns : goal.returns
returns c = record { text = made_text; whole = made_passes; stands = made_stands }
