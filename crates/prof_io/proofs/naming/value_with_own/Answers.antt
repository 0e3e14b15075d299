use Rattle.prof_io.proofs.NamedLemmas.{value_at-with_own, named_still}
use Rattle.prof_io.proofs.naming.value_with_own.Goals as goal

pub returns-clause-values : goal.returns-clause-values
returns-clause-values g c = λ name own es other. value_at-with_own name own es other

pub returns-clause-apart : goal.returns-clause-apart
returns-clause-apart g c = λ name own es named. named_still name own es named
