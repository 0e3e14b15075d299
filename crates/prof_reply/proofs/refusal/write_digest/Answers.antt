use Rattle.std.proofs.Common.{◌++◌, ap, codes}
use Rattle.prof_writer.proofs.Outputs.{writes_then, writes_failed, writes_as}
use Rattle.prof_reply.proofs.refusal.write_digest.Goals as goal

pub returns-in_err-copy_out : goal.returns-in_err-copy_out
returns-in_err-copy_out g c = writes_failed _ _ c.from_residual.ensures.0 c.in_err-copy_out.ensures

pub returns : goal.returns
returns g c =
    writes_as (ap (λ l. codes " " ++ l) c.digits_of.ensures) (writes_then c.in_ok-copy_out.ensures c.copy_out-2.ensures)
