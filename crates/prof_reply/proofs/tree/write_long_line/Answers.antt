use Rattle.std.proofs.Common.{◌++◌, ◌∙◌, ap, codes}
use Rattle.prof_writer.specs.Writing.{quoted}
use Rattle.prof_writer.proofs.Outputs.{writes_then, writes_failed, writes_as}
use Rattle.prof_reply.proofs.tree.write_long_line.Goals as goal

pub returns-in_err-copy_out : goal.returns-in_err-copy_out
returns-in_err-copy_out g c =
    writes_failed _ _ c.from_residual.ensures.0 (writes_as (c.as_bytes.ensures.value ∙ c.as_str.ensures.value ∙ c.node_head.ensures) c.in_err-copy_out.ensures)

pub returns-in_err-write_string : goal.returns-in_err-write_string
returns-in_err-write_string g c =
    writes_as (ap (λ l. l ++ (quoted c.args.name.now ++ codes "\n")) (c.as_bytes.ensures.value ∙ c.as_str.ensures.value ∙ c.node_head.ensures)) (writes_then c.in_ok-copy_out.ensures (writes_failed _ _ c.from_residual-in_err-write_string.ensures.0 c.in_err-write_string.ensures))

pub returns : goal.returns
returns g c =
    writes_as (ap (λ l. l ++ (quoted c.args.name.now ++ codes "\n")) (c.as_bytes.ensures.value ∙ c.as_str.ensures.value ∙ c.node_head.ensures)) (writes_then c.in_ok-copy_out.ensures (writes_then c.in_ok-write_string.ensures c.copy_out-2.ensures))
