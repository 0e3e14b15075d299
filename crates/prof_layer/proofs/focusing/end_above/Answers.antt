use Rattle.std.proofs.Common.{◌≡◌, ◌+◌, ◌<◌, length, drop, None, Some, sym, ap, ◌∙◌, arith, IfSome}
use Rattle.prof_layer.specs.declared.focusing.Node.{Node}
use Rattle.prof_layer.specs.Focusing.{end_above}
use Rattle.prof_tables.proofs.RowLemmas.{all_at}
use Rattle.prof_layer.proofs.FocusLaws.{end-none, end-other, end-last, end-more}
use Rattle.prof_layer.proofs.focusing.end_above.Goals as goal

pub returns-in_err-row : goal.returns-in_err-row
returns-in_err-row c =
    let gone : c.loop-place.next ≡ None = c.in_err-row.was in
    c.from_residual.ensures
    ∙ sym (end-none c.args.nodes.now (drop c.loop-place.place c.args.funcs.now))
    ∙ sym (ap (end_above c.args.nodes.now (drop c.loop-place.place c.args.funcs.now)) gone)
    ∙ c.loop-place.invariant.rest

pub returns-then-node-func : goal.returns-then-node-func
returns-then-node-func c =
    let is : c.loop-place.next ≡ Some c.in_ok-row.row = c.in_ok-row.was in
    sym (end-other c.args.nodes.now c.args.funcs.now c.loop-place.place c.in_ok-row.row c.node_at-node.result c.loop-place-test.true c.node_at-node.ensures c.if-node-func.true)
    ∙ sym (ap (end_above c.args.nodes.now (drop c.loop-place.place c.args.funcs.now)) is)
    ∙ c.loop-place.invariant.rest

pub returns-then-place-funcs : goal.returns-then-place-funcs
returns-then-place-funcs c =
    let is : c.loop-place.next ≡ Some c.in_ok-row.row = c.in_ok-row.was in
    sym (end-last c.args.nodes.now c.args.funcs.now c.loop-place.place c.in_ok-row.row c.node_at-node.result c.if-place-funcs.true c.node_at-node.ensures c.if-node-func.false)
    ∙ sym (ap (end_above c.args.nodes.now (drop c.loop-place.place c.args.funcs.now)) is)
    ∙ c.loop-place.invariant.rest

pub loop-place-preserved : goal.loop-place-preserved
loop-place-preserved c =
    let is : c.loop-place.next ≡ Some c.in_ok-row.row = c.in_ok-row.was in
    let more : c.loop-place.place + 1 < length c.args.funcs.now = omega arith in
    record {
      within = all_at (λ (node : Node). IfSome node.above (λ a. a < length c.args.nodes.now)) c.args.nodes.now c.in_ok-row.row c.node_at-node.result c.requires.linked c.node_at-node.ensures;
      rest = sym (end-more c.args.nodes.now c.args.funcs.now c.loop-place.place c.in_ok-row.row c.node_at-node.result more c.node_at-node.ensures c.if-node-func.false)
          ∙ sym (ap (end_above c.args.nodes.now (drop c.loop-place.place c.args.funcs.now)) is)
          ∙ c.loop-place.invariant.rest;
    }
