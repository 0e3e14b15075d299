use Rattle.std.proofs.Common.{◌≤◌, sym, subst, length}
use Rattle.prof_layer.specs.Simulates.{LayerLists}
use Rattle.prof_session.proofs.LayerLemmas.{reads_sum}
use Rattle.prof_session.proofs.seat.Seat.tree.Goals as goal

pub returns-in-Ok-plain-clause-reads : goal.returns-in-Ok-plain-clause-reads
returns-in-Ok-plain-clause-reads g c = λ k h.
    let few = subst (λ (l : LayerLists). length l.top ≤ length c.args.self.now.layers.base.shared.stacks) (sym c.layers.ensures) c.in-Ok.ensures.few in
    reads_sum _ _ _ _ _ _ (c.in-Ok.ensures.reads k h) c.in-Ok-plain.ensures.once few

pub returns-in-Err-clause-reads : goal.returns-in-Err-clause-reads
returns-in-Err-clause-reads g c = λ k h.
    let few = subst (λ (l : LayerLists). length l.top ≤ length c.args.self.now.layers.base.shared.stacks) (sym c.layers.ensures) c.in-Ok.ensures.few in
    reads_sum _ _ _ _ _ _ (c.in-Ok.ensures.reads k h) c.in-Err.ensures.once few
