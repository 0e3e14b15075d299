use Rattle.std.proofs.Common.{◌≡◌, ◌++◌, vec_len}
use Rattle.prof_session.proofs.restoring.ring_of.Given as goal

abbrev pub invariant-loop-view : goal.invariant-loop-view
invariant-loop-view l = record {
  whole : l.rest.items ++ l.ring.items ≡ l.fn.views.items;
  capacity : l.ring.capacity ≡ 100;
}

abbrev pub decreases-loop-view : goal.decreases-loop-view
decreases-loop-view l = vec_len l.rest
