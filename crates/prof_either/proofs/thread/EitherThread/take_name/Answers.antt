use Rattle.std.proofs.Common.{refl, ◌∙◌}
use Rattle.prof_either.proofs.Threading.{name_more}
use Rattle.prof_either.proofs.thread.EitherThread.take_name.Goals as goal

pub returns-clause-member : goal.returns-clause-member
returns-clause-member g c =
    let read = c.in_ok-name.ensures.text in
    (read.0, read.1, name_more read.0 c.args.self.now _ _ _ read.2 (c.in_ok-self.ensures ∙ read.2) refl refl)
