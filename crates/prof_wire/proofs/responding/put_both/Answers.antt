use Rattle.prof_writer.proofs.Outputs.{writes_then}
use Rattle.prof_wire.proofs.responding.put_both.Goals as goal

pub returns-in-Ok : goal.returns-in-Ok
returns-in-Ok g c = writes_then c.in-Ok.ensures c.copy_out-in-Ok.ensures
