use Rattle.prof_grammar.specs.Reading as r
use Rattle.prof_grammar.proofs.OneEnding as o
use Rattle.prof_grammar.proofs.one_ending.Goals as goal

pub returns-clause-one : goal.returns-clause-one
returns-clause-one c = o.one_ending

pub returns-clause-whole : goal.returns-clause-whole
returns-clause-whole c = λ limit text es. (o.when_finished limit text es, λ h. r.whole h.0 h.1)
