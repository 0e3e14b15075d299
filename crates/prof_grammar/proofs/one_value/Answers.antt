use Rattle.prof_grammar.proofs.Unique.{one}
use Rattle.prof_grammar.proofs.one_value.Goals as goal

pub returns : goal.returns
returns c = one
