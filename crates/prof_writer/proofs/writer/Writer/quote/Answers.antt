use Rattle.std.proofs.Common.{◌≡◌, ◌++◌, ap}
use Rattle.prof_writer.specs.Writing.{comma_text, quoted}
use Rattle.prof_writer.proofs.Outputs.{writes_then, writes_as}
use Rattle.prof_writer.proofs.writer.Writer.quote.Goals as goal

pub returns-clause-writes : goal.returns-clause-writes
returns-clause-writes g c =
    let due : c.replace-was_due.result ≡ c.args.self.now = cc in
    writes_as (ap (λ b. comma_text b ++ quoted c.args.text.now) due) (writes_then c.in_ok-write_comma.ensures c.write_string.ensures)
