use Rattle.prof_trial.proofs.Whole.{plays_whole, reads_whole, writes_whole}
use Rattle.prof_trial.proofs.trial.play_trial.Goals as goal

pub returns-clause-written : goal.returns-clause-written
returns-clause-written g c =
    let plays = plays_whole c.args.number c.in-Ok.desk _ c.in-Ok.ensures c.new.ensures.texts c.new.ensures.sure c.play_lines.ensures in
    let written = writes_whole c.args.number plays in
    written

pub returns-clause-readings : goal.returns-clause-readings
returns-clause-readings g c =
    let plays = plays_whole c.args.number c.in-Ok.desk _ c.in-Ok.ensures c.new.ensures.texts c.new.ensures.sure c.play_lines.ensures in
    let few = reads_whole c.args.number plays in
    few
