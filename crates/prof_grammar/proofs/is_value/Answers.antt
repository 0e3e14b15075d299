use Rattle.prof_grammar.proofs.Flat as f
use Rattle.prof_grammar.proofs.is_value.Goals as goal

pub returns : goal.returns
returns c = λ text es j. f.is_value j
