use Rattle.prof_named.proofs.NameLemmas.{place-named}
use Rattle.prof_named.proofs.names.places_agree.Goals as goal

pub returns : goal.returns
returns g c = place-named
