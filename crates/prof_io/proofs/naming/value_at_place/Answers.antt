use Rattle.prof_io.proofs.NamedLemmas.{value_there, value_lacks}
use Rattle.prof_io.proofs.naming.value_at_place.Goals as goal

pub returns-clause-there : goal.returns-clause-there
returns-clause-there g c = λ es name e h. value_there es name e h

pub returns-clause-none : goal.returns-clause-none
returns-clause-none g c = λ es name h. value_lacks es name h
