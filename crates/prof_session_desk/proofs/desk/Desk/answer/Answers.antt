use Rattle.std.proofs.Common.{◌∙◌, ap}
use Rattle.prof_session_desk.specs.Desk.{own_of}
use Rattle.prof_session_desk.proofs.KnownLemmas.{reply_named, step_named}
use Rattle.prof_session_desk.proofs.desk.Desk.answer.Goals as goal

pub returns-then-place-len-clause-named : goal.returns-then-place-len-clause-named
returns-then-place-len-clause-named g c =
    let d = c.args.self.now in
    reply_named c.answer_there.result _ (λ some told. step_named d c.answer_there.new.self _ _ _ c.args.request.now c.answer_there.result
    (λ s own. c.keeps.ensures s (ap (own_of d) c.as_str.ensures ∙ own)) (c.answer_there.ensures.step some told))

pub returns-else-place-len-clause-named : goal.returns-else-place-len-clause-named
returns-else-place-len-clause-named g c =
    let d = c.args.self.now in
    reply_named c.answer_lacking.result _ (λ some told. step_named d c.answer_lacking.new.self _ _ _ c.args.request.now c.answer_lacking.result
    (λ s own. c.keeps.ensures s (ap (own_of d) c.as_str.ensures ∙ own)) (c.answer_lacking.ensures.step some told))
