use Rattle.std.proofs.Common.{[], sym, subst}
use Rattle.prof_tables.specs.Threads.{ThreadTables}
use Rattle.prof_tables.specs.Paths.{PrefixesBelow}
use Rattle.prof_layer.specs.Rewritten.{AreRows}
use Rattle.prof_layer.specs.Stacked.{AreLayers}
use Rattle.prof_layer.proofs.LayerLaws.{layers-begun, AreRows-own}
use Rattle.prof_layer.proofs.layers.Layers.new.Goals as goal

pub invariant_of-result : goal.invariant_of-result
invariant_of-result c =
    let fit : AreRows c.deref.result.now.shared c.deref.result.now.shared.stacks = AreRows-own c.deref.result.now.shared (subst PrefixesBelow c.stacks.ensures.rows c.count-count.ensures.below) c.stacks.ensures.steps in
    let begun = layers-begun c.args.base.value (subst (λ (b : ThreadTables). AreRows b.shared b.shared.stacks) c.deref.ensures fit) in
    subst (λ settled. AreLayers c.args.base.value settled c.new-2.result.items c.new-3.result.items c.new-4.result.items) (sym c.new.ensures.items)
    (subst (λ spans. AreLayers c.args.base.value [] spans c.new-3.result.items c.new-4.result.items) (sym c.new-2.ensures.items)
    (subst (λ tables. AreLayers c.args.base.value [] [] tables c.new-4.result.items) (sym c.new-3.ensures.items)
    (subst (λ flags. AreLayers c.args.base.value [] [] [] flags) (sym c.new-4.ensures.items) begun)))
