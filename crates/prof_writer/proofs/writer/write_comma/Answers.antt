use Rattle.prof_writer.proofs.Outputs.{writes_none}
use Rattle.prof_writer.proofs.writer.write_comma.Goals as goal

pub returns-else-is_due : goal.returns-else-is_due
returns-else-is_due g c = rw c.if-is_due.false (writes_none _)
