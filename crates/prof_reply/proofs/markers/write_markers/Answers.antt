use Rattle.std.proofs.Common.{◌++◌, ◌∙◌, ap}
use Rattle.std.specs.List.{flat_map}
use Rattle.prof_reply.specs.Replies.{marker_line}
use Rattle.prof_writer.proofs.Outputs.{writes_then, writes_failed, writes_as}
use Rattle.prof_reply.proofs.markers.write_markers.Goals as goal

pub returns-in_err-copy_out : goal.returns-in_err-copy_out
returns-in_err-copy_out g c =
    writes_failed _ _ c.from_residual.ensures.0 (writes_as (c.as_bytes.ensures.value ∙ c.as_str.ensures.value ∙ c.markers_head.ensures) c.in_err-copy_out.ensures)

pub returns : goal.returns
returns g c =
    writes_as (ap (λ l. l ++ flat_map (marker_line c.args.thread.now.shared) c.args.markers.now) (c.as_bytes.ensures.value ∙ c.as_str.ensures.value ∙ c.markers_head.ensures))
    (writes_then c.in_ok-copy_out.ensures c.write_lines.ensures)
