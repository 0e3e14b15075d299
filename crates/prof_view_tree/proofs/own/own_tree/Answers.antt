use Rattle.std.proofs.Common.{length, sym, ap, ◌∙◌, subst, arith}
use Rattle.prof_tables.specs.Paths.{PrefixesBelow}
use Rattle.prof_view_tree.specs.Sprouting.{AreWeighed}
use Rattle.prof_view_tree.specs.Weighing.{Weighs, own_paths}
use Rattle.prof_view_tree.proofs.own.own_tree.Goals as goal

pub tree_of_rows-requires-clause-weighed : goal.tree_of_rows-requires-clause-weighed
tree_of_rows-requires-clause-weighed g c =
    let stacks = c.args.thread.now.shared.stacks in
    let own = c.in_ok-weights.weights.by_row.items in
    let same = c.stacks.ensures.rows in
    let below : PrefixesBelow stacks = subst PrefixesBelow same c.rows_of.ensures.below in
    let weighed : AreWeighed stacks own = record {
      below = below;
      few = omega (arith, c.rows_of.ensures.few, ap length same);
      len = c.in_ok-weights.ensures.weighs.len;
      light = c.in_ok-weights.ensures.light;
    } in
    subst (λ l. AreWeighed l own) (sym (c.deref.ensures.value ∙ c.in_ok-stacks.ensures.rows ∙ same)) weighed

pub tree_of_rows-requires-clause-samples : goal.tree_of_rows-requires-clause-samples
tree_of_rows-requires-clause-samples g c =
    let t = c.args.thread.now in
    (own_paths t, subst (λ l. Weighs l (own_paths t) c.in_ok-weights.weights) (sym (c.deref.ensures.value ∙ c.in_ok-stacks.ensures.rows ∙ c.stacks.ensures.rows)) c.in_ok-weights.ensures.weighs)

pub returns-clause-selected : goal.returns-clause-selected
returns-clause-selected g c =
    let t = c.args.thread.now in
    c.in_ok-tree.ensures.selected (own_paths t) (subst (λ l. Weighs l (own_paths t) c.in_ok-weights.weights) (sym (c.deref.ensures.value ∙ c.in_ok-stacks.ensures.rows ∙ c.stacks.ensures.rows)) c.in_ok-weights.ensures.weighs)

pub returns-clause-dropped : goal.returns-clause-dropped
returns-clause-dropped g c =
    let t = c.args.thread.now in
    c.in_ok-tree.ensures.dropped (own_paths t) (subst (λ l. Weighs l (own_paths t) c.in_ok-weights.weights) (sym (c.deref.ensures.value ∙ c.in_ok-stacks.ensures.rows ∙ c.stacks.ensures.rows)) c.in_ok-weights.ensures.weighs)
