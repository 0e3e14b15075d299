use Rattle.prof_location.proofs.Cuts.{split_is}
use Rattle.prof_location.proofs.location.cut_at_last.Goals as goal

pub returns : goal.returns
returns c = split_is c.args.piece.now c.args.text.now c.rsplit_once.result c.requires c.rsplit_once.ensures.cases
