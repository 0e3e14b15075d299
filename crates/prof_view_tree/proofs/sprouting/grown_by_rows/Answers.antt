use Rattle.std.proofs.Common.{length, sym, subst}
use Rattle.prof_view_tree.specs.Sprouting.{AreSprouted}
use Rattle.prof_view_tree.specs.Weighing.{AreThrough}
use Rattle.prof_view_tree.proofs.sprouting.grown_by_rows.Goals as goal

pub returns : goal.returns
returns c =
    let stacks = c.args.stacks.now in
    let own = c.args.own.now in
    let s = c.in_ok-rows.ensures own c.requires (subst (AreThrough stacks own) (sym c.deref.ensures.value) c.in_ok-through.ensures) in (
      s.0,
      s.1,
      c.add_ends.ensures stacks s.0 s.1 c.requires (subst (λ l. AreSprouted stacks own (length stacks) s.0 c.in_ok-rows.field-0.rows.items s.1 l) (sym c.deref-2.ensures.value) s.2),
    )
