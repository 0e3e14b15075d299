use Rattle.std.proofs.Common.{◌<◌, ◌≤◌, ◌+◌, Some, length, ◌∙◌, subst, arith}
use Rattle.std.specs.Vec.Iter.{into_iter_items, into_iter_len}
use Rattle.prof_tables.specs.Threads.{ThreadTables}
use Rattle.prof_layer.proofs.SettleLaws.{next-drop, next-item, front-more, reads-more}
use Rattle.prof_layer.proofs.layers.Layers.push_each.Goals as goal

pub returns-in_err-push-clause-reads : goal.returns-in_err-push-clause-reads
returns-in_err-push-clause-reads g c =
    let few : length c.loop-t.self.top ≤ length c.args.self.now.base.shared.stacks = subst (λ (b : ThreadTables). length c.loop-t.self.top ≤ length b.shared.stacks) c.loop-t.invariant.base c.top.ensures.simulates.few in
    reads-more c.args.reads.now c.loop-t.reads c.push.new.reads (length c.args.self.now.base.shared.stacks) c.loop-t.t-index (length c.args.wanted.now) (length c.loop-t.self.top)
    c.loop-t.invariant.reads c.push.ensures.reads few (omega arith)

pub loop-t-preserved : goal.loop-t-preserved
loop-t-preserved g c =
    let few : length c.loop-t.self.top ≤ length c.args.self.now.base.shared.stacks = subst (λ (b : ThreadTables). length c.loop-t.self.top ≤ length b.shared.stacks) c.loop-t.invariant.base c.top.ensures.simulates.few in
    let within : c.loop-t.t-index < length (into_iter_items c.args.spans) = omega (arith, c.requires.count) in
    record {
      rest = next-drop (into_iter_items c.args.spans) c.loop-t.t-index (into_iter_items c.loop-t.rest) (into_iter_items c.next.new.self) (into_iter_len c.loop-t.rest) (into_iter_len c.next.new.self) (Some c.in-Some.found) within c.loop-t.invariant.rest c.loop-t.rest.rest.ok.0 c.in-Some.ensures.cases;
      settled = front-more c.args.self.now.settled c.args.wanted.now c.loop-t.self.settled c.push.new.self.settled c.loop-t.t-index c.t-item.result c.loop-t-test.true c.t-item.is c.loop-t.invariant.settled c.in_ok-push.ensures.settled;
      spans = front-more c.args.self.now.spans (into_iter_items c.args.spans) c.loop-t.self.spans c.push.new.self.spans c.loop-t.t-index c.in-Some.found within (next-item (into_iter_items c.args.spans) c.loop-t.t-index (into_iter_items c.loop-t.rest) (into_iter_items c.next.new.self) c.in-Some.found within c.loop-t.invariant.rest c.in-Some.ensures.cases.0) c.loop-t.invariant.spans c.in_ok-push.ensures.spans;
      base = c.in_ok-push.ensures.base ∙ c.loop-t.invariant.base;
      reads = reads-more c.args.reads.now c.loop-t.reads c.push.new.reads (length c.args.self.now.base.shared.stacks) c.loop-t.t-index (c.loop-t.t-index + 1) (length c.loop-t.self.top)
          c.loop-t.invariant.reads c.push.ensures.reads few (omega arith);
    }
