use Rattle.std.proofs.Common.{◌≡◌, ◌∙◌, ℕ, List, get_or, length, Some, None, sym, ap, subst}
use Rattle.std.proofs.lemmas.Option.{same_Some}
use Rattle.std.specs.Prelude.{Err}
use Rattle.prof_io.specs.Named.{value_at}
use Rattle.prof_machine.specs.declared.refusal.Refusal.{Refusal}
use Rattle.prof_machine.specs.declared.refusal.Refusal.TheVariants.{NotSaved}
use Rattle.prof_machine.specs.declared.refusal.Reply.TheVariants.{Done, Refused}
use Rattle.prof_machine.specs.declared.refusal.Refusal.TheVariants.{KeeperFault}
use Rattle.prof_machine.specs.Known.{thread_of}
use Rattle.prof_machine.specs.Session.{Session, present}
use Rattle.prof_machine.specs.Machine.{stays, text_refusal, load_refusal, restored, saved_in, profile_of}
use Rattle.prof_session.specs.Seated.{Seated, bare}
use Rattle.prof_session_desk.specs.Desk.{DeskLists}
use Rattle.prof_keep.proofs.SavedLemmas.{saved_of}
use Rattle.prof_session_desk.proofs.MakeLemmas.{step_load, refused_follows, made_follows, made_value, restored_seated, restored_layers, nothing_there, read_quiet}
use Rattle.prof_session_desk.proofs.desk.Desk.load_text.Goals as goal

same_reply : (a b : Refusal) → Refused a ≡ Refused b → a ≡ b
same_reply a b h = cc

pub returns-in_default-clause-step : goal.returns-in_default-clause-step
returns-in_default-clause-step c =
    let d = c.args.self.now in
    let e = c.index.result.now in
    let here = c.index.ensures ∙ ap (λ (q : DeskLists). get_or q.profiles c.args.at e) c.self.view_is in
    let load : load_refusal (value_at d.profiles c.args.profile.now) (length d.seats) c.args.kept ≡ Some NotSaved = c.requires.text e c.args.kept here ∙ ap (text_refusal e.1) c.in_default.is in
    λ _. refused_follows d c.args.name.now c.args.kept _ NotSaved c.requires.lacks (step_load d c.args.name.now c.args.kept c.args.profile.now (Some NotSaved) c.requires.lacks load)

pub returns-in_default-clause-layers : goal.returns-in_default-clause-layers
returns-in_default-clause-layers c = λ new h. absurd (nothing_there c.args.self.now c.args.name.now new c.requires.lacks h)

pub returns-in-Err-Refused-clause-step : goal.returns-in-Err-Refused-clause-step
returns-in-Err-Refused-clause-step c =
    let d = c.args.self.now in
    let e = c.index.result.now in
    let r = c.in-Err-Refused.refusal in
    let here = c.index.ensures ∙ ap (λ (q : DeskLists). get_or q.profiles c.args.at e) c.self.view_is in
    let load : load_refusal (value_at d.profiles c.args.profile.now) (length d.seats) c.args.kept ≡ Some r =
    c.requires.text e c.args.kept here ∙ (ap (text_refusal e.1) c.in-Some.is ∙ (ap (λ (t : List ℕ). text_refusal e.1 (Some t)) (sym c.as_str.ensures) ∙ c.in-Err-Refused.ensures.refused r (ap Err c.in-Err-Refused.field-0-is))) in
    rw c.in-Err-Refused.field-0-is
    (λ _. refused_follows d c.args.name.now c.args.kept _ r c.requires.lacks (step_load d c.args.name.now c.args.kept c.args.profile.now (Some r) c.requires.lacks load))

pub returns-in-Err-Refused-clause-layers : goal.returns-in-Err-Refused-clause-layers
returns-in-Err-Refused-clause-layers c = λ new h. absurd (nothing_there c.args.self.now c.args.name.now new c.requires.lacks h)

pub returns-in-Err-Refused-clause-quiet : goal.returns-in-Err-Refused-clause-quiet
returns-in-Err-Refused-clause-quiet c =
    let r = c.in-Err-Refused.refusal in
    let refused = c.in-Err-Refused.ensures.refused r (ap Err c.in-Err-Refused.field-0-is) in
    rw c.in-Err-Refused.field-0-is
    (λ h. read_quiet c.index.result.now.1 (length c.as_str.result.now) (saved_of c.as_str.result.now) r refused (same_reply r KeeperFault h))

pub returns-in-Err-NoMemory-clause-layers : goal.returns-in-Err-NoMemory-clause-layers
returns-in-Err-NoMemory-clause-layers c = λ new h. absurd (nothing_there c.args.self.now c.args.name.now new c.requires.lacks h)

pub add_seat-requires-clause-seated : goal.add_seat-requires-clause-seated
add_seat-requires-clause-seated c =
    let d = c.args.self.now in
    let e = c.index.result.now in
    let here = c.index.ensures ∙ ap (λ (q : DeskLists). get_or q.profiles c.args.at e) c.self.view_is in
    let made = c.in-Ok.ensures.ok in
    restored_seated d.profiles c.args.profile.now c.args.at e c.in-Ok.seat (saved_in (Some c.as_str.result.now)) c.requires.profile c.requires.within here made.1 made.2

pub returns-in-Ok-add_seat-clause-step : goal.returns-in-Ok-add_seat-clause-step
returns-in-Ok-add_seat-clause-step c =
    let d = c.args.self.now in
    let e = c.index.result.now in
    let kept = c.args.kept in
    let profile = c.args.profile.now in
    let seat = c.in-Ok.seat in
    let here = c.index.ensures ∙ ap (λ (q : DeskLists). get_or q.profiles c.args.at e) c.self.view_is in
    let made = c.in-Ok.ensures.ok in
    let is : kept ≡ Some c.as_str.result.now = c.in-Some.is ∙ ap (λ (t : List ℕ). Some t) (sym c.as_str.ensures) in
    let load : load_refusal (value_at d.profiles profile) (length d.seats) kept ≡ None = c.requires.text e kept here ∙ (ap (text_refusal e.1) is ∙ made.0) in
    let session : restored profile (saved_in kept) ≡ seat.session = ap (λ o. restored profile (saved_in o)) is ∙ sym made.1 in
    λ _. made_follows d c.add_seat.new.self c.args.name.now kept _ seat (Done c.version-version.result) c.requires.lacks c.in-Ok-add_seat.ensures.ok
    (step_load d c.args.name.now kept profile None c.requires.lacks load
    ∙ (ap (λ (s : Session). stays (Some s) kept (Done s.version)) session ∙ ap (λ n. stays (Some seat.session) kept (Done n)) (sym c.version-version.ensures)))

pub returns-in-Ok-add_seat-clause-layers : goal.returns-in-Ok-add_seat-clause-layers
returns-in-Ok-add_seat-clause-layers c = λ new h.
    let d = c.args.self.now in
    let e = c.index.result.now in
    let seat = c.in-Ok.seat in
    let here = c.index.ensures ∙ ap (λ (q : DeskLists). get_or q.profiles c.args.at e) c.self.view_is in
    let made = c.in-Ok.ensures.ok in
    let same : seat ≡ new = same_Some seat new (sym (made_value d c.add_seat.new.self c.args.name.now seat c.requires.lacks c.in-Ok-add_seat.ensures.ok) ∙ h) in
    let laid = restored_layers d.profiles c.args.profile.now c.args.at e seat (saved_in (Some c.as_str.result.now)) c.requires.profile c.requires.within here made.1 made.3 in
    subst (λ (s : Seated). s.layers ≡ bare (thread_of (profile_of d.profiles s.session) (present s.session))) same laid

pub returns-clause-layers : goal.returns-clause-layers
returns-clause-layers c = λ new h. absurd (nothing_there c.args.self.now c.args.name.now new c.requires.lacks
    (ap (λ (q : DeskLists). value_at q.seats c.args.name.now) (sym c.in-Err.ensures.err) ∙ h))
