use Rattle.std.proofs.Common.{◌≡◌, ◌++◌, ap, ◌∙◌, append_assoc}
use Rattle.std.specs.Prelude.{codes}
use Rattle.std.specs.List.{flat_map}
use Rattle.prof_writer.specs.Writing.{escape, quoted}
use Rattle.prof_writer.proofs.Outputs.{writes_then, writes_as, writes_failed}
use Rattle.prof_writer.proofs.escaping.write_string.Goals as goal

pub returns-in_err-copy_out : goal.returns-in_err-copy_out
returns-in_err-copy_out g c =
    writes_failed c.from_residual.result (flat_map escape c.args.text.now ++ codes "\"") c.from_residual.ensures.0 c.in_err-copy_out.ensures

pub returns-in_err-write_escaped : goal.returns-in_err-write_escaped
returns-in_err-write_escaped g c =
    let bytes = c.as_bytes.result.now in
    let same : bytes ≡ c.args.text.now = cc in
    writes_as (append_assoc (codes "\"") (flat_map escape bytes) (codes "\"") ∙ ap quoted same)
    (writes_failed c.from_residual-in_err-write_escaped.result (codes "\"") c.from_residual-in_err-write_escaped.ensures.0 (writes_then c.in_ok-copy_out.ensures c.in_err-write_escaped.ensures))

pub returns : goal.returns
returns g c =
    let bytes = c.as_bytes.result.now in
    let same : bytes ≡ c.args.text.now = cc in
    writes_as (append_assoc (codes "\"") (flat_map escape bytes) (codes "\"") ∙ ap quoted same)
    (writes_then (writes_then c.in_ok-copy_out.ensures c.in_ok-write_escaped.ensures) c.copy_out-2.ensures)
