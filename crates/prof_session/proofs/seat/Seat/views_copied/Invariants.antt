use Rattle.std.proofs.Common.{◌≡◌, take}
use Rattle.prof_session.proofs.seat.Seat.views_copied.Given as goal

abbrev pub invariant-loop-k : goal.invariant-loop-k
invariant-loop-k l = l.views.items ≡ take l.k l.self.session.views
