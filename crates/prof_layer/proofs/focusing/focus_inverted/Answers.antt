use Rattle.std.proofs.Common.{◌≡◌, ℕ, ◌<◌, List, length, Some, ap, ◌∙◌, subst, sym}
use Rattle.prof_layer.specs.declared.focusing.Node.{Node}
use Rattle.prof_layer.specs.Rewritten.{entry_at}
use Rattle.prof_layer.specs.Focusing.{IsLinked, end_above, nearest}
use Rattle.prof_layer.proofs.FocusLaws.{nodes-linked, focus-done}
use Rattle.prof_layer.proofs.focusing.focus_inverted.Goals as goal

pub ends_of-requires-clause-linked : goal.ends_of-requires-clause-linked
ends_of-requires-clause-linked g c =
    subst IsLinked (sym c.deref.ensures.value) (nodes-linked c.args.thread.now.shared c.args.filter c.args.top.now c.in_ok-rows.field-0.nodes.items c.requires.rows.prefixes c.in_ok-rows.ensures.nodes)

pub returns-clause-rewritten : goal.returns-clause-rewritten
returns-clause-rewritten g c =
    let nodes : List Node = c.in_ok-rows.field-0.nodes.items in
    let count : length c.in_ok-outs.outs.items ≡ length nodes = c.in_ok-outs.ensures.count ∙ ap length c.deref.ensures.value in
    let ends : (r : ℕ) → r < length nodes → entry_at c.in_ok-outs.outs.items r ≡ end_above nodes c.args.funcs.now (nearest nodes (Some r)) =
    subst (λ ns. (r : ℕ) → r < length ns → entry_at c.in_ok-outs.outs.items r ≡ end_above ns c.args.funcs.now (nearest ns (Some r))) c.deref.ensures.value c.in_ok-outs.ensures.ends in
    focus-done c.args.thread.now.shared c.args.filter c.args.top.now c.in_ok-rows.field-0.rows nodes c.args.funcs.now c.in_ok-outs.outs.items
    c.requires.some c.requires.rows c.in_ok-rows.ensures.rows c.in_ok-rows.ensures.nodes count ends
