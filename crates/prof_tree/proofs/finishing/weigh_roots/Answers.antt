use Rattle.std.proofs.Common.{◌≡◌, set, get_or, ap, ◌∙◌, pos, arith}
use Rattle.std.proofs.lemmas.List.Edits.{map_over_more}
use Rattle.prof_tree.specs.Nodes.{at_roots}
use Rattle.prof_tree.proofs.Whole.{get_or-any_node}
use Rattle.prof_tree.proofs.finishing.weigh_roots.Goals as goal

pub loop-node-preserved : goal.loop-node-preserved
loop-node-preserved c =
    let xs = c.args.nodes.now in
    let i = c.loop-node.node-index in
    let x = get_or c.loop-node.nodes i (record { depth = 0; func = 0; total = pos 0; own = pos 0; category = 0 }) in
    let at : x ≡ get_or c.loop-node.nodes i x = get_or-any_node c.loop-node.nodes i _ x (omega arith) in
    ap (set c.loop-node.nodes i) c.weighed_at_root.ensures ∙ map_over_more at_roots xs c.loop-node.nodes i x (omega arith) c.loop-node.invariant at
