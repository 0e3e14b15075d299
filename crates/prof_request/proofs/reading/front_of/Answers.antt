use Rattle.std.proofs.Common.{sym, arith}
use Rattle.prof_request.proofs.OutcomeLemmas.{looked_all}
use Rattle.prof_request.proofs.reading.front_of.Goals as goal

pub returns-else-line : goal.returns-else-line
returns-else-line c = sym (looked_all c.args.line.now (omega arith))
