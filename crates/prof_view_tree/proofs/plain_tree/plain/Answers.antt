use Rattle.std.proofs.Common.{sym, subst}
use Rattle.prof_view_tree.specs.Views.{finals}
use Rattle.prof_view_tree.specs.Weighing.{Weighs}
use Rattle.prof_view_tree.proofs.plain_tree.plain.Goals as goal

pub returns-clause-selected : goal.returns-clause-selected
returns-clause-selected g c =
    let xs = finals c.args.layers.now.base c.args.view.now c.args.layers.now.spans in
    c.in_ok-tree.ensures.selected xs (subst (λ rows. Weighs rows xs c.in_ok-weighted.weighted.weights) (sym c.deref.ensures.value) c.in_ok-weighted.ensures.weighs)

pub returns-clause-dropped : goal.returns-clause-dropped
returns-clause-dropped g c =
    let xs = finals c.args.layers.now.base c.args.view.now c.args.layers.now.spans in
    c.in_ok-tree.ensures.dropped xs (subst (λ rows. Weighs rows xs c.in_ok-weighted.weighted.weights) (sym c.deref.ensures.value) c.in_ok-weighted.ensures.weighs)
