use Rattle.std.proofs.Common.{◌≡◌, ◌++◌, ap}
use Rattle.prof_writer.specs.Writing.{comma_text}
use Rattle.prof_writer.proofs.Outputs.{writes_then, writes_as}
use Rattle.prof_writer.proofs.writer.Writer.put.Goals as goal

pub returns-clause-writes : goal.returns-clause-writes
returns-clause-writes g c =
    let due : c.replace-was_due.result ≡ c.args.self.now = cc in
    writes_as (ap (λ b. comma_text b ++ c.args.bytes.now) due) (writes_then c.in_ok-write_comma.ensures c.copy_out.ensures)
