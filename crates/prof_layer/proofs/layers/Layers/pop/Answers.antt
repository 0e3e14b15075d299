use Rattle.std.proofs.Common.{◌<◌, length, sym, subst, arith}
use Rattle.prof_layer.specs.Simulates.{LayerLists}
use Rattle.prof_layer.proofs.StackLaws.{pop-flags, pop-table}
use Rattle.prof_layer.proofs.layers.Layers.pop.Goals as goal

pub invariant_of-self : goal.invariant_of-self
invariant_of-self c =
    let i = c.self.inside in
    let some : 0 < length i.settled.items = subst (λ (l : LayerLists). 0 < length l.settled) (sym c.self.view_is) c.requires in
    pop-flags i.base.value i.settled.items c.truncate.new.self.items i.spans.items c.truncate-2.new.self.items i.tables.items i.flags.items c.pop.new.self.items c.len-last.result i.flags.len c.index.result.now
    c.self.invariant (omega (arith, i.settled.ok.0, c.len-last.ensures)) some (omega (arith, i.flags.ok.0)) (sym c.if-of_samples.ensures) c.index.ensures c.truncate.ensures.items c.truncate-2.ensures.items c.pop.ensures.rest

pub invariant_of-self-then-of_samples-2 : goal.invariant_of-self-then-of_samples-2
invariant_of-self-then-of_samples-2 c =
    let i = c.self.inside in
    let some : 0 < length i.settled.items = subst (λ (l : LayerLists). 0 < length l.settled) (sym c.self.view_is) c.requires in
    pop-flags i.base.value i.settled.items c.truncate.new.self.items i.spans.items c.truncate-2.new.self.items i.tables.items i.flags.items c.pop.new.self.items c.len-last.result i.flags.len c.index.result.now
    c.self.invariant (omega (arith, i.settled.ok.0, c.len-last.ensures)) some (omega (arith, i.flags.ok.0)) (sym c.if-of_samples.ensures) c.index.ensures c.truncate.ensures.items c.truncate-2.ensures.items c.pop.ensures.rest

pub invariant_of-self-else-of_samples : goal.invariant_of-self-else-of_samples
invariant_of-self-else-of_samples c =
    let i = c.self.inside in
    let some : 0 < length i.settled.items = subst (λ (l : LayerLists). 0 < length l.settled) (sym c.self.view_is) c.requires in
    pop-table i.base.value i.settled.items c.truncate.new.self.items i.spans.items c.truncate-2.new.self.items i.tables.items c.pop-else-of_samples.new.self.items i.flags.items c.len-last.result i.tables.len c.index.result.now
    c.self.invariant (omega (arith, i.settled.ok.0, c.len-last.ensures)) some (omega (arith, i.tables.ok.0)) (sym c.if-of_samples.ensures) c.index.ensures c.truncate.ensures.items c.truncate-2.ensures.items c.pop-else-of_samples.ensures.rest
