use Rattle.prof_grammar.proofs.Ended as e
use Rattle.prof_grammar.proofs.reads_right.Goals as goal

pub returns : goal.returns
returns c = e.reads_right
