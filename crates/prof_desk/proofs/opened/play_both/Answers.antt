use Rattle.std.proofs.Common.{refl}
use Rattle.prof_script.proofs.Plays.{same_err}
use Rattle.prof_desk.proofs.TwoRequests.{opens_both, opens_none}
use Rattle.prof_desk.proofs.opened.play_both.Goals as goal

pub returns-in_err-play_request : goal.returns-in_err-play_request
returns-in_err-play_request g c = λ p digest thread command bare one two.
    let end = c.in_err-play_request.field-0.0 in
    opens_none p digest thread command c.args.desk.now _ c.args.first.now c.args.second.now end c.from_residual.result c.in_err-play_request.ensures.plays
    bare c.new-keeper.ensures.texts c.new-keeper.ensures.sure one two (same_err c.from_residual.result end c.from_residual.ensures.1)

pub returns : goal.returns
returns g c = λ p digest thread command bare one two.
    opens_both p digest thread command c.args.desk.now _ c.play_request.new.desk _ c.args.first.now c.args.second.now c.play_request-2.result c.in_ok-play_request.ensures.plays c.play_request-2.ensures.plays
    bare c.new-keeper.ensures.texts c.new-keeper.ensures.sure one two c.in_ok-play_request.ensures.profiles refl refl
