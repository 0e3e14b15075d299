use Rattle.prof_grammar.proofs.Begins.{begins}
use Rattle.prof_grammar.proofs.goes_on.Goals as goal

pub returns : goal.returns
returns c = begins
