use Rattle.std.proofs.Common.{◌∙◌, arith}
use Rattle.prof_time.proofs.Tens.{tens_at}
use Rattle.prof_time.proofs.digits.ten_to.Goals as goal

pub returns : goal.returns
returns c = tens_at 1 20 c.args.power (omega arith) ∙ omega arith
