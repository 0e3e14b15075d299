use Rattle.std.proofs.Common.{Some}
use Rattle.prof_either.proofs.Threading.{markers_more}
use Rattle.prof_either.proofs.thread.EitherThread.take_markers.Goals as goal

pub returns-clause-member : goal.returns-clause-member
returns-clause-member g c =
    let read = c.in_ok-found.ensures.value in
    let held = c.markers_apart-named.ensures.rows (Some read.0) read.2 in
    (read.0, read.1, markers_more read.0 c.args.self.now _ _ (c.markers_apart-named.ensures.named (Some read.0) read.2) (c.in_ok-self.ensures (Some read.0) held))
