use Rattle.prof_text_cases.proofs.PathLemmas.{may_be_saved}
use Rattle.prof_text_cases.proofs.outcome.of_saved.Goals as goal

pub write_saved-requires : goal.write_saved-requires
write_saved-requires c = may_be_saved c.in-Ok.ensures.0 c.in-Ok.saved c.in-Ok.ensures.1.fits
