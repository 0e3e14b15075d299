use Rattle.std.proofs.Common.{◌∷◌, [], ◌++◌, ap, ◌∙◌, sym, subst, refl}
use Rattle.prof_layer.specs.Simulates.{LayerLists, of_rows, Stands}
use Rattle.prof_layer.proofs.StackLaws.{layers-table, layers-same}
use Rattle.prof_layer.proofs.layers.Layers.add_table.Goals as goal

pub invariant_of-self-2 : goal.invariant_of-self-2
invariant_of-self-2 c =
    let i = c.self.inside in
    layers-same i.base.value (i.settled.items ++ c.args.t ∷ []) c.push_reserved.new.self.items (i.spans.items ++ c.args.spans ∷ []) c.push_reserved-2.new.self.items (i.tables.items ++ c.args.table ∷ []) c.push.new.self.items i.flags.items i.flags.items
    (c.push_reserved.ensures.items ∙ ap (λ l. l ++ c.args.t ∷ []) c.reserve.ensures.items)
    (c.push_reserved-2.ensures.items ∙ ap (λ l. l ++ c.args.spans ∷ []) c.reserve-2.ensures.items)
    c.in_ok-push.ensures.items
    refl
    (layers-table i.base.value i.settled.items i.spans.items i.tables.items i.flags.items c.args.t c.args.spans c.args.table c.self.invariant c.requires.of_rows
    (subst (λ (l : LayerLists). Stands l.base (of_rows l.settled ++ c.args.t ∷ []) c.args.table.rows c.args.table.entries.items) (sym c.self.view_is) c.requires.stands))
