use Rattle.matchit.proofs.OnLiterals.{matchit_on_literals}
use Rattle.prof_wire.proofs.routing.Routes.new.Goals as goal

pub invariant_of-result : goal.invariant_of-result
unfolding matchit_on_literals
invariant_of-result c = let a = c.in-Ok.ensures in record { one = rw c.new-router.ensures at a.1 }
