use Rattle.std.proofs.Common.{◌∙◌, Some, sym}
use Rattle.std.proofs.lemmas.Bool.{false≢true}
use Rattle.prof_session_desk.proofs.AnswerLemmas.{own_text, lean_load}
use Rattle.prof_session_desk.proofs.MakeLemmas.{step_load, refused_follows, nothing_there, is_text}
use Rattle.prof_session_desk.proofs.desk.Desk.load.Goals as goal

pub returns-in-Err-clause-step : goal.returns-in-Err-clause-step
returns-in-Err-clause-step g c = λ _ _.
    let d = c.args.self.now in
    let own = own_text (g.K.Keeper.texts c.args.keeper.now) c.args.name.now in (
      own.0,
      own.1,
      (λ asks. absurd (false≢true (sym c.in-Err.ensures.unasked ∙ asks))),
      refused_follows d c.args.name.now own.0 _ c.in-Err.refusal c.requires.lacks
          (step_load d c.args.name.now own.0 c.args.profile.now (Some c.in-Err.refusal) c.requires.lacks (c.in-Err.ensures.refused own.0)),
    )

pub returns-in-Err-clause-layers : goal.returns-in-Err-clause-layers
returns-in-Err-clause-layers g c = λ new h. absurd (nothing_there c.args.self.now c.args.name.now new c.requires.lacks h)

pub returns-in-Ok-get-clause-step : goal.returns-in-Ok-get-clause-step
returns-in-Ok-get-clause-step g c = λ some _.
    (c.in-Ok-get.text, is_text (g.K.Keeper.texts c.args.keeper.now) c.args.name.now c.in-Ok-get.text c.in-Ok-get.ensures.ok, (λ _. sym c.in-Ok-get.ensures.got), c.load_text.ensures.step some)

pub returns-in-Err-Failed-clause-layers : goal.returns-in-Err-Failed-clause-layers
returns-in-Err-Failed-clause-layers g c = λ new h. absurd (nothing_there c.args.self.now c.args.name.now new c.requires.lacks h)

pub returns-in-Err-NoMemory-clause-layers : goal.returns-in-Err-NoMemory-clause-layers
returns-in-Err-NoMemory-clause-layers g c = λ new h. absurd (nothing_there c.args.self.now c.args.name.now new c.requires.lacks h)

pub returns-in-Ok-get-clause-lean : goal.returns-in-Ok-get-clause-lean
returns-in-Ok-get-clause-lean g c = λ kept h _.
    false≢true (sym (lean_load c.args.self.now c.args.name.now c.requires.lacks kept c.args.profile.now c.in-Ok.at c.in-Ok.ensures.place.1 c.in-Ok.ensures.text) ∙ h)

pub returns-in-Err-NoMemory-clause-lean : goal.returns-in-Err-NoMemory-clause-lean
returns-in-Err-NoMemory-clause-lean g c = λ kept h _.
    false≢true (sym (lean_load c.args.self.now c.args.name.now c.requires.lacks kept c.args.profile.now c.in-Ok.at c.in-Ok.ensures.place.1 c.in-Ok.ensures.text) ∙ h)
