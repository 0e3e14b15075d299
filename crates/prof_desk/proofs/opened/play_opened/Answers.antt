use Rattle.prof_desk.proofs.opened.play_opened.Goals as goal

pub returns : goal.returns
returns g c = λ p digest bare. c.play_both.ensures p digest c.args.thread c.args.command bare c.in-Ok.ensures c.in-Ok-request_of.ensures
