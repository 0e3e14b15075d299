use Rattle.std.proofs.Common.{◌≡◌, ◌≤◌, length, take}
use Rattle.prof_layer.proofs.layers.Layers.keep.Given as goal

abbrev pub invariant-loop-many : goal.invariant-loop-many
invariant-loop-many l = record {
  many : l.many ≡ length l.self.settled;
  enough : l.count ≤ l.many;
  settled : l.self.settled ≡ take l.many l.initial.self.settled;
  spans : l.self.spans ≡ take l.many l.initial.self.spans;
  base : l.self.base ≡ l.initial.self.base;
}

abbrev pub decreases-loop-many : goal.decreases-loop-many
decreases-loop-many l = l.many
