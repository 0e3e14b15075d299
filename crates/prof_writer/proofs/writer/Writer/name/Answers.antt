use Rattle.std.proofs.Common.{append_assoc}
use Rattle.std.specs.Prelude.{codes}
use Rattle.prof_writer.specs.Writing.{comma_text, quoted}
use Rattle.prof_writer.proofs.Outputs.{writes_then, writes_as, writes_failed}
use Rattle.prof_writer.proofs.writer.Writer.name.Goals as goal

pub returns-in_err-quote-clause-writes : goal.returns-in_err-quote-clause-writes
returns-in_err-quote-clause-writes g c =
    writes_as (append_assoc (comma_text c.args.self.now) (quoted c.args.text.now) (codes ":")) (writes_failed c.from_residual.result (codes ":") c.from_residual.ensures.0 c.in_err-quote.ensures.writes)

pub returns-clause-writes : goal.returns-clause-writes
returns-clause-writes g c = writes_as (append_assoc (comma_text c.args.self.now) (quoted c.args.text.now) (codes ":")) (writes_then c.in_ok-quote.ensures.writes c.copy_out.ensures)
