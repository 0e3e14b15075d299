use Rattle.std.proofs.Common.{Some}
use Rattle.prof_raw.specs.declared.limits.TheConstants.{MOST_ROWS}
use Rattle.prof_either.proofs.Threading.{stacks_more}
use Rattle.prof_either.proofs.thread.EitherThread.take_stacks.Goals as goal

pub returns-clause-member : goal.returns-clause-member
returns-clause-member g c =
    let read = c.in_ok-found.ensures.value in
    let held = c.apart-named.ensures.rows (Some read.0) read.2 in
    (read.0, read.1, stacks_more read.0 c.args.self.now _ _ (c.apart-named.ensures.named (Some read.0) read.2) (c.in_ok-self.ensures MOST_ROWS (Some read.0) held))
