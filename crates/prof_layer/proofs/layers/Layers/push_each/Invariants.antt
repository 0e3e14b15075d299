use Rattle.std.proofs.Common.{◌≡◌, ◌≤◌, ◌+◌, ◌*◌, ◌++◌, length, take, drop}
use Rattle.std.specs.Vec.Iter.{into_iter_items}
use Rattle.prof_layer.proofs.layers.Layers.push_each.Given as goal

abbrev pub invariant-loop-t : goal.invariant-loop-t
invariant-loop-t g l = record {
  rest : into_iter_items l.rest ≡ drop l.t-index (into_iter_items l.fn.spans);
  settled : l.self.settled ≡ l.initial.self.settled ++ take l.t-index l.wanted;
  spans : l.self.spans ≡ l.initial.self.spans ++ take l.t-index (into_iter_items l.fn.spans);
  base : l.self.base ≡ l.initial.self.base;
  reads : l.reads ≤ l.initial.reads + l.t-index * length l.initial.self.base.shared.stacks;
}
