use Rattle.prof_told.proofs.Quoted.{quoted_is}
use Rattle.prof_told.proofs.quotes_truly.Goals as goal

pub returns : goal.returns
returns c = quoted_is
