use Rattle.std.proofs.Common.{◌≡◌, ◌≢◌, ◌+◌, ◌∙◌, ℕ, List, Option, Some, None, length, sym, ap, subst, arith}
use Rattle.std.specs.List.{All}
use Rattle.prof_path.specs.Views.{ViewLists}
use Rattle.prof_request.specs.declared.request.Command.{Command}
use Rattle.prof_machine.specs.declared.refusal.Refusal.{Refusal}
use Rattle.prof_machine.specs.declared.refusal.Refusal.TheVariants.{BadAddress}
use Rattle.prof_machine.specs.declared.refusal.Reply.TheVariants.{Done}
use Rattle.prof_machine.specs.Known.{Known}
use Rattle.prof_machine.specs.Session.{Session, present, with_view}
use Rattle.prof_machine.specs.Machine.{stays, view_refusal, content_refusal}
use Rattle.prof_machine.proofs.ReadingLemmas.{view_read, view_fault}
use Rattle.prof_session.proofs.ChangeLemmas.{acted_refused, acted_ended, acted_done, goto_fault, goto_view, goto_changed, view_quiet}
use Rattle.prof_session.proofs.SoundLemmas.{sound_kept, put_accepted}
use Rattle.prof_session.proofs.seat.Seat.answer_goto.Goals as goal

abbrev own_refusal : Known → Session → Command → Option Refusal
own_refusal p s c = content_refusal p (present s) s.place (length s.views) c

abbrev changed_to : Session → ViewLists → Command → Session
changed_to s v k = record (with_view s v) { version = s.version + 1; last = Some k }

pub returns-in-Err-BadAddress-clause-step : goal.returns-in-Err-BadAddress-clause-step
returns-in-Err-BadAddress-clause-step c =
    let p = c.args.known.now in
    let s = c.args.self.now.session in
    let at = c.in-Err-BadAddress.at in
    let own : own_refusal p s c.args.command.now ≡ Some (BadAddress at) =
    goto_fault p s c.args.command.now c.requires.goto.0 at c.args.address.now c.requires.goto.1 (view_fault c.args.address.now at (rw c.in-Err-BadAddress.field-0-is at c.in-Err-BadAddress.ensures)) in
    rw c.in-Err-BadAddress.field-0-is (λ _ kept. acted_refused p s c.args.command.now (BadAddress at) own kept)

pub returns-in-Some-clause-step : goal.returns-in-Some-clause-step
returns-in-Some-clause-step c =
    let p = c.args.known.now in
    let s = c.args.self.now.session in
    let read = view_read c.args.address.now c.in-Ok.view c.in-Ok.ensures in
    let own : own_refusal p s c.args.command.now ≡ Some c.in-Some.refusal =
    goto_view p s c.args.command.now c.requires.goto.0 c.args.address.now c.in-Ok.view c.requires.goto.1 read ∙ (sym c.view_refusal.ensures ∙ c.in-Some.is) in
    λ _ kept. acted_refused p s c.args.command.now c.in-Some.refusal own kept

pub returns-in-Some-clause-quiet : goal.returns-in-Some-clause-quiet
returns-in-Some-clause-quiet c = view_quiet c.args.known.now c.in-Ok.view c.in-Some.refusal (sym c.view_refusal.ensures ∙ c.in-Some.is)

pub returns-then-version-clause-step : goal.returns-then-version-clause-step
returns-then-version-clause-step c =
    let p = c.args.known.now in
    let s = c.args.self.now.session in
    let read = view_read c.args.address.now c.in-Ok.view c.in-Ok.ensures in
    let own : own_refusal p s c.args.command.now ≡ None =
    goto_view p s c.args.command.now c.requires.goto.0 c.args.address.now c.in-Ok.view c.requires.goto.1 read ∙ (sym c.view_refusal.ensures ∙ c.in_default.is) in
    let last : s.version ≡ 4294967295 = omega (arith, c.version-version.ensures) in
    λ _ kept. acted_ended p s c.args.command.now own last kept

pub returns-in-Ok-put-clause-step : goal.returns-in-Ok-put-clause-step
returns-in-Ok-put-clause-step c =
    let p = c.args.known.now in
    let s = c.args.self.now.session in
    let read = view_read c.args.address.now c.in-Ok.view c.in-Ok.ensures in
    let own : own_refusal p s c.args.command.now ≡ None =
    goto_view p s c.args.command.now c.requires.goto.0 c.args.address.now c.in-Ok.view c.requires.goto.1 read ∙ (sym c.view_refusal.ensures ∙ c.in_default.is) in
    let more : s.version ≢ 4294967295 = λ e. absurd (omega (arith, c.version-version.ensures)) in
    let made : changed_to s c.in-Ok.view c.args.command.now ≡ c.put.new.self.session =
    ap (λ (k : Command). changed_to s c.in-Ok.view k) (sym c.in-Ok-copy.ensures) ∙ sym c.in-Ok-put.ensures.session in
    λ _ kept. acted_done p s c.args.command.now own more kept
    ∙ (ap (λ (q : Session). stays (Some q) kept (Done (s.version + 1))) (goto_changed s c.args.command.now c.requires.goto.0 c.args.address.now c.in-Ok.view c.requires.goto.1 read ∙ made)
    ∙ ap (λ n. stays (Some c.put.new.self.session) kept (Done (n + 1))) (sym c.version-version.ensures))

pub returns-in-Ok-put-clause-sound : goal.returns-in-Ok-put-clause-sound
returns-in-Ok-put-clause-sound c =
    let p = c.args.known.now in
    let s = c.args.self.now.session in
    let ok : view_refusal p c.in-Ok.view ≡ None = sym c.view_refusal.ensures ∙ c.in_default.is in
    sound_kept p c.args.self.now c.put.new.self c.requires.sound
    (subst (λ (q : Session). All (λ v. view_refusal p v ≡ None) q.views) (sym c.in-Ok-put.ensures.session) (put_accepted p s c.in-Ok.view c.requires.sound.views ok)) c.in-Ok-put.ensures.layers
