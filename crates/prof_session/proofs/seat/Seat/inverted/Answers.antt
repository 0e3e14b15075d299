use Rattle.std.proofs.Common.{◌≡◌, ◌∙◌, ◌≤◌, sym, ap, subst, length, map}
use Rattle.prof_tables.specs.Threads.{ThreadTables}
use Rattle.prof_path.specs.Views.{ViewLists}
use Rattle.prof_layer.specs.Simulates.{LayerLists}
use Rattle.prof_machine.specs.Known.{thread_of, intervals, inverted_of}
use Rattle.prof_machine.specs.Session.{Session, present}
use Rattle.prof_machine.specs.Machine.{inverted_reply}
use Rattle.prof_session.proofs.LayerLemmas.{reads_sum}
use Rattle.prof_session.proofs.TreeLemmas.{is_inverted_of}
use Rattle.prof_session.proofs.seat.Seat.inverted.Goals as goal

pub returns-in-Ok-inverted-clause-reply : goal.returns-in-Ok-inverted-clause-reply
returns-in-Ok-inverted-clause-reply g c =
    let p = c.args.known.now in
    let s = c.args.self.now.session in
    let l = c.layers.result.now in
    let v = c.present.result.now in
    let sound = c.in-Ok.ensures.sound in
    let same : c.settle.new.self.session ≡ s = c.in-Ok.ensures.session in
    let settled : l.settled ≡ v.transforms =
    ap (λ (k : LayerLists). k.settled) c.layers.ensures ∙ (c.in-Ok.ensures.settled ∙ (ap (λ (q : Session). (present q).transforms) (sym same) ∙ ap (λ (w : ViewLists). w.transforms) (sym c.present.ensures.view))) in
    let found : l.spans ≡ map (intervals l.base) v.transforms =
    ap (λ (k : LayerLists). k.spans) c.layers.ensures ∙ (sound.spans ∙ (ap (λ (k : LayerLists). map (intervals k.base) k.settled) (sym c.layers.ensures) ∙ ap (map (intervals l.base)) settled)) in
    let base : l.base ≡ thread_of p (present s) = ap (λ (k : LayerLists). k.base) c.layers.ensures ∙ (sound.base ∙ ap (λ (q : Session). thread_of p (present q)) same) in
    let view : v ≡ present s = c.present.ensures.view ∙ ap present same in
    λ _. is_inverted_of l.base v l.spans found c.in-Ok-inverted.tree c.in-Ok-inverted.ensures.nodes c.in-Ok-inverted.ensures.selected c.in-Ok-inverted.ensures.dropped c.in-Ok-inverted.ensures.within
    ∙ (ap (λ (t : ThreadTables). inverted_reply (inverted_of t v)) base ∙ ap (λ (w : ViewLists). inverted_reply (inverted_of (thread_of p (present s)) w)) view)

pub returns-in-Ok-inverted-clause-reads : goal.returns-in-Ok-inverted-clause-reads
returns-in-Ok-inverted-clause-reads g c = λ k h.
    let few = subst (λ (l : LayerLists). length l.top ≤ length c.args.self.now.layers.base.shared.stacks) (sym c.layers.ensures) c.in-Ok.ensures.few in
    reads_sum _ _ _ _ _ _ (c.in-Ok.ensures.reads k h) c.in-Ok-inverted.ensures.once few

pub returns-in-Err-TooManyNodes-clause-reads : goal.returns-in-Err-TooManyNodes-clause-reads
returns-in-Err-TooManyNodes-clause-reads g c = λ k h.
    let few = subst (λ (l : LayerLists). length l.top ≤ length c.args.self.now.layers.base.shared.stacks) (sym c.layers.ensures) c.in-Ok.ensures.few in
    reads_sum _ _ _ _ _ _ (c.in-Ok.ensures.reads k h) c.in-Err-TooManyNodes.ensures.once few

pub returns-in-Err-NoMemory-clause-reads : goal.returns-in-Err-NoMemory-clause-reads
returns-in-Err-NoMemory-clause-reads g c = λ k h.
    let few = subst (λ (l : LayerLists). length l.top ≤ length c.args.self.now.layers.base.shared.stacks) (sym c.layers.ensures) c.in-Ok.ensures.few in
    reads_sum _ _ _ _ _ _ (c.in-Ok.ensures.reads k h) c.in-Err-NoMemory.ensures.once few
