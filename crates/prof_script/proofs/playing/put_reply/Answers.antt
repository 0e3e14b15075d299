use Rattle.std.proofs.Common.{[], append-nil}
use Rattle.prof_writer.proofs.Outputs.{writes_as, writes_ok, writes_stop}
use Rattle.prof_script.proofs.playing.put_reply.Goals as goal

pub returns-in-Ok-clause-written : goal.returns-in-Ok-clause-written
returns-in-Ok-clause-written g c = writes_ok c.in-Ok.ensures

pub returns-in-Err-clause-written : goal.returns-in-Err-clause-written
returns-in-Err-clause-written g c = writes_as (append-nil _) (writes_stop [] c.in-Err.ensures)
