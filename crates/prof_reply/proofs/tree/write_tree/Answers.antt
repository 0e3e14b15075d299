use Rattle.std.proofs.Common.{◌++◌, ◌∙◌, ap, length}
use Rattle.std.specs.List.{flat_map}
use Rattle.prof_tree.specs.Trees.{TreeLists}
use Rattle.prof_reply.specs.Lines.{tree_head}
use Rattle.prof_reply.specs.Replies.{node_line, unit_text}
use Rattle.prof_writer.proofs.Outputs.{writes_then, writes_failed, writes_as}
use Rattle.prof_reply.proofs.tree.write_tree.Goals as goal

pub returns-in_err-copy_out : goal.returns-in_err-copy_out
returns-in_err-copy_out g c =
    writes_failed _ _ c.from_residual.ensures.0 (writes_as (c.as_bytes.ensures.value ∙ c.as_str.ensures.value ∙ c.head_of.ensures) c.in_err-copy_out.ensures)

pub returns : goal.returns
returns g c =
    writes_as (ap (λ l. l ++ flat_map (node_line c.args.thread.now.shared) c.deref.result.now) (c.as_bytes.ensures.value ∙ c.as_str.ensures.value ∙ c.head_of.ensures)
    ∙ ap (λ ns. tree_head c.args.kind.now (unit_text c.args.thread.now.unit) (length c.args.tree.now.nodes) c.args.tree.now.selected c.args.tree.now.dropped ++ flat_map (node_line c.args.thread.now.shared) ns) (c.deref.ensures.value ∙ ap (λ (t : TreeLists). t.nodes) c.tree.view_is)) (writes_then c.in_ok-copy_out.ensures c.write_nodes.ensures)
