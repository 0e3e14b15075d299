use Rattle.std.proofs.Common.{◌≡◌, ◌∙◌, ap, sym, subst, get_or, Some, None}
use Rattle.std.proofs.lemmas.Option.{same_Some}
use Rattle.prof_io.specs.Named.{value_at}
use Rattle.prof_machine.specs.declared.refusal.Reply.TheVariants.{Done}
use Rattle.prof_machine.specs.Known.{thread_of}
use Rattle.prof_machine.specs.Session.{Session, present}
use Rattle.prof_machine.specs.Machine.{stays, profile_of}
use Rattle.prof_session.specs.Seated.{Seated, bare}
use Rattle.prof_session_desk.specs.Desk.{DeskLists}
use Rattle.prof_session_desk.proofs.MakeLemmas.{step_open, refused_follows, made_follows, made_value, opened_seated, opened_layers, nothing_there}
use Rattle.prof_session_desk.proofs.desk.Desk.open.Goals as goal

pub returns-in-Err-clause-step : goal.returns-in-Err-clause-step
returns-in-Err-clause-step c = λ _ kept. refused_follows c.args.self.now c.args.name.now kept _ c.in-Err.refusal c.requires.lacks
    (step_open c.args.self.now c.args.name.now kept c.args.profile.now c.args.thread (Some c.in-Err.refusal) c.requires.lacks c.in-Err.ensures.refused)

pub returns-in-Err-clause-layers : goal.returns-in-Err-clause-layers
returns-in-Err-clause-layers c = λ new h. absurd (nothing_there c.args.self.now c.args.name.now new c.requires.lacks h)

pub returns-in_default-clause-layers : goal.returns-in_default-clause-layers
returns-in_default-clause-layers c = λ new h. absurd (nothing_there c.args.self.now c.args.name.now new c.requires.lacks h)

pub add_seat-requires-clause-seated : goal.add_seat-requires-clause-seated
add_seat-requires-clause-seated c =
    let here = c.index.ensures ∙ ap (λ (d : DeskLists). get_or d.profiles c.in-Ok.at c.index.result.now) c.self.view_is in
    opened_seated c.args.self.now.profiles c.args.profile.now c.args.thread c.in-Ok.at c.index.result.now c.in-Ok-open.seat c.in-Ok.ensures.place.0 c.in-Ok.ensures.place.1 here
    (c.in-Ok.ensures.thread c.index.result.now here) c.in-Ok-open.ensures

pub returns-in-Ok-add_seat-clause-step : goal.returns-in-Ok-add_seat-clause-step
returns-in-Ok-add_seat-clause-step c = λ _ kept. made_follows c.args.self.now c.add_seat.new.self c.args.name.now kept _ c.in-Ok-open.seat (Done 0) c.requires.lacks c.in-Ok-add_seat.ensures.ok
    (step_open c.args.self.now c.args.name.now kept c.args.profile.now c.args.thread None c.requires.lacks c.in-Ok.ensures.none
    ∙ ap (λ (s : Session). stays (Some s) kept (Done 0)) (sym (ap (λ (s : Seated). s.session) c.in-Ok-open.ensures)))

pub returns-in-Ok-add_seat-clause-layers : goal.returns-in-Ok-add_seat-clause-layers
returns-in-Ok-add_seat-clause-layers c = λ new h.
    let d = c.args.self.now in
    let here = c.index.ensures ∙ ap (λ (e : DeskLists). get_or e.profiles c.in-Ok.at c.index.result.now) c.self.view_is in
    let same : c.in-Ok-open.seat ≡ new = same_Some c.in-Ok-open.seat new (sym (made_value d c.add_seat.new.self c.args.name.now c.in-Ok-open.seat c.requires.lacks c.in-Ok-add_seat.ensures.ok) ∙ h) in
    let laid = opened_layers d.profiles c.args.profile.now c.args.thread c.in-Ok.at c.index.result.now c.in-Ok-open.seat c.in-Ok.ensures.place.0 c.in-Ok.ensures.place.1 here c.in-Ok-open.ensures in
    subst (λ (s : Seated). s.layers ≡ bare (thread_of (profile_of d.profiles s.session) (present s.session))) same laid

pub returns-in-Err-add_seat-clause-layers : goal.returns-in-Err-add_seat-clause-layers
returns-in-Err-add_seat-clause-layers c = λ new h. absurd (nothing_there c.args.self.now c.args.name.now new c.requires.lacks
    (ap (λ (d : DeskLists). value_at d.seats c.args.name.now) (sym c.in-Err-add_seat.ensures.err) ∙ h))
