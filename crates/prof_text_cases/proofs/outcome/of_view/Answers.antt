use Rattle.prof_address.specs.declared.kind.Form.TheVariants.{Second}
use Rattle.prof_text_cases.proofs.PathLemmas.{view_paths}
use Rattle.prof_text_cases.proofs.outcome.of_view.Goals as goal

pub write_view-requires : goal.write_view-requires
write_view-requires c = view_paths Second c.in-Ok.view c.in-Ok.ensures.fits
