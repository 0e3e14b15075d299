use Rattle.std.proofs.Common.{◌∷◌, [], ◌++◌, ap, ◌∙◌, sym, subst, refl}
use Rattle.prof_layer.specs.Simulates.{LayerLists}
use Rattle.prof_layer.specs.Kept.{found_of, AreFlags}
use Rattle.prof_layer.proofs.StackLaws.{layers-flags, layers-same}
use Rattle.prof_layer.proofs.layers.Layers.add_flags.Goals as goal

pub invariant_of-self-2 : goal.invariant_of-self-2
invariant_of-self-2 c =
    let i = c.self.inside in
    layers-same i.base.value (i.settled.items ++ c.args.t ∷ []) c.push_reserved.new.self.items (i.spans.items ++ c.args.spans ∷ []) c.push_reserved-2.new.self.items i.tables.items i.tables.items (i.flags.items ++ c.args.flags ∷ []) c.push.new.self.items
    (c.push_reserved.ensures.items ∙ ap (λ l. l ++ c.args.t ∷ []) c.reserve.ensures.items)
    (c.push_reserved-2.ensures.items ∙ ap (λ l. l ++ c.args.spans ∷ []) c.reserve-2.ensures.items)
    refl
    c.in_ok-push.ensures.items
    (layers-flags i.base.value i.settled.items i.spans.items i.tables.items i.flags.items c.args.t c.args.spans c.args.flags c.self.invariant c.requires.of_samples
    (subst (λ (l : LayerLists). AreFlags l.base.samples (found_of l.settled l.spans ++ c.args.spans ∷ []) c.args.flags.items) (sym c.self.view_is) c.requires.flags))
