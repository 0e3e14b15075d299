use Rattle.std.proofs.Common.{◌≡◌, ◌<◌, length, drop, IfSome}
use Rattle.prof_layer.specs.Focusing.{end_above}
use Rattle.prof_layer.proofs.focusing.end_above.Given as goal

abbrev pub invariant-loop-place : goal.invariant-loop-place
invariant-loop-place l = record {
  within : IfSome l.next (λ r. r < length l.nodes);
  rest : end_above l.nodes (drop l.place l.funcs) l.next ≡ end_above l.nodes l.funcs l.fn.leaf;
}
