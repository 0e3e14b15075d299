use Rattle.prof_writer.proofs.Outputs.{writes_then, writes_failed}
use Rattle.prof_reply.proofs.refusal.write_both.Goals as goal

pub returns-in_err-write_digest : goal.returns-in_err-write_digest
returns-in_err-write_digest g c = writes_failed _ _ c.from_residual.ensures.0 c.in_err-write_digest.ensures

pub returns : goal.returns
returns g c = writes_then c.in_ok-write_digest.ensures c.write_digest-2.ensures
