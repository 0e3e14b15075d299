use Rattle.prof_location.proofs.Cuts.{stripped_is}
use Rattle.prof_location.proofs.location.before_close.Goals as goal

pub returns : goal.returns
returns c = stripped_is c.args.text.now c.strip_suffix.result c.strip_suffix.ensures.cases
