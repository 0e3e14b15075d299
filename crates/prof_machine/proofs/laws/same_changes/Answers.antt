use Rattle.prof_machine.proofs.SameLemmas.{change_of, own_change}
use Rattle.prof_machine.proofs.laws.same_changes.Goals as goal

pub returns : goal.returns
returns c = record { same = change_of; own = own_change }
