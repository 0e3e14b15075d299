use Rattle.std.proofs.Common.{◌≡◌, ◌≤◌, length, take}
use Rattle.prof_session.proofs.cutting.cut.Given as goal

abbrev pub invariant-loop-many : goal.invariant-loop-many
invariant-loop-many l = record {
  many : l.many ≡ length l.layers.settled;
  enough : l.common ≤ l.many;
  settled : l.layers.settled ≡ take l.many l.initial.layers.settled;
  spans : l.layers.spans ≡ take l.many l.initial.layers.spans;
  base : l.layers.base ≡ l.initial.layers.base;
}

abbrev pub decreases-loop-many : goal.decreases-loop-many
decreases-loop-many l = l.many
