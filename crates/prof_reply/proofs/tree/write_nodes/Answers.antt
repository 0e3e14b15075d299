use Rattle.std.proofs.Common.{◌≤◌, length, sym, ap, arith}
use Rattle.std.specs.List.{flat_map}
use Rattle.std.proofs.lemmas.List.{take_all}
use Rattle.prof_reply.specs.Replies.{node_line}
use Rattle.prof_page.proofs.Pages.{gathers_on, gathers_ok, gathers_same, gathers_end, gathers_failed}
use Rattle.prof_reply.proofs.Pieces.{flat_more, flat_rest}
use Rattle.prof_writer.proofs.Outputs.{writes_as}
use Rattle.prof_reply.proofs.tree.write_nodes.Goals as goal

pub returns-in_err-add_node : goal.returns-in_err-add_node
returns-in_err-add_node g c =
    gathers_failed _ _ _ tt _ _ _ _ _ _ _ _ c.from_residual.ensures.0 c.loop-node.invariant c.in_err-add_node.ensures
    (flat_rest (node_line c.args.thread.now.shared) c.args.nodes.now c.loop-node.node-index _ c.loop-node-test.true)

pub loop-node-preserved : goal.loop-node-preserved
loop-node-preserved g c =
    gathers_same _ _ _ _ _ _ _
    (gathers_on _ _ _ tt _ _ _ _ _ _ c.loop-node.invariant (gathers_ok _ _ _ _ _ _ _ c.in_ok-add_node.ensures))
    (sym (flat_more (node_line c.args.thread.now.shared) c.args.nodes.now c.loop-node.node-index _ c.loop-node-test.true))

pub returns : goal.returns
returns g c =
    let nodes = c.args.nodes.now in
    let over = c.loop-node-test.false in
    let all : length nodes ≤ c.loop-node.node-index = omega arith in
    writes_as (ap (flat_map (node_line c.args.thread.now.shared)) (take_all c.loop-node.node-index nodes all)) (gathers_end _ _ _ tt _ _ _ c.loop-node.invariant c.write_page.ensures.written)
