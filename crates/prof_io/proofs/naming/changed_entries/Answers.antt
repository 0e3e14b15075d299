use Rattle.prof_io.proofs.NamedLemmas.{with_set, with_push, with_removed}
use Rattle.prof_io.proofs.naming.changed_entries.Goals as goal

pub returns-clause-set : goal.returns-clause-set
returns-clause-set g c = λ es name e x h. with_set es name e x h

pub returns-clause-pushed : goal.returns-clause-pushed
returns-clause-pushed g c = λ es name x h. with_push es name x h

pub returns-clause-removed : goal.returns-clause-removed
returns-clause-removed g c = λ es name named h. with_removed es name named h
