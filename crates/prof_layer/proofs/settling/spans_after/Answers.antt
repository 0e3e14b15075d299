use Rattle.std.proofs.Common.{◌<◌, length, arith}
use Rattle.std.specs.Vec.Iter.{into_iter_items, into_iter_len}
use Rattle.prof_layer.proofs.SettleLaws.{next-drop}
use Rattle.prof_layer.proofs.settling.spans_after.Goals as goal

pub loop-place-preserved : goal.loop-place-preserved
loop-place-preserved c =
    let within : c.loop-place._place < length c.args.spans.items = omega arith in
    next-drop c.args.spans.items c.loop-place._place (into_iter_items c.loop-place.rest) (into_iter_items c.next.new.self) (into_iter_len c.loop-place.rest) (into_iter_len c.next.new.self) c.next.result within c.loop-place.invariant c.loop-place.rest.rest.ok.0 c.next.ensures.cases
