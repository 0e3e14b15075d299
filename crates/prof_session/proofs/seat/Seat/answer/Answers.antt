use Rattle.std.proofs.Common.{◌≡◌, ◌∙◌, ap, sym, refl, true, rules, arith}
use Rattle.std.proofs.lemmas.Bool.{false≢true}
use Rattle.std.proofs.lemmas.Grind.{common_steps}
use Rattle.prof_request.specs.declared.request.Command.{Command}
use Rattle.prof_request.specs.declared.request.Command.TheVariants as ask
use Rattle.prof_machine.specs.Session.{is_change}
use Rattle.prof_machine.specs.Machine.{asked}
use Rattle.prof_machine.specs.Memory.{is_lean}
use Rattle.prof_session.specs.Seated.{Seated}
use Rattle.prof_session.proofs.ChangeLemmas.{asked_change, change_no_tree}
use Rattle.prof_session.proofs.seat.Seat.answer.Goals as goal

pub returns-in-Markers-clause-step : goal.returns-in-Markers-clause-step
returns-in-Markers-clause-step g c = λ some kept.
    ap (asked c.args.known.now c.args.self.now.session kept) (c.in-Markers.is ∙ ap ask.Markers (sym c.as_str.ensures)) ∙ c.markers.ensures.step c.args.known.now c.requires.sound some kept

pub returns-in-Address-clause-step : goal.returns-in-Address-clause-step
returns-in-Address-clause-step g c = λ some kept. ap (asked c.args.known.now c.args.self.now.session kept) c.in-Address.is ∙ c.address.ensures.step some kept

pub returns-in_default : goal.returns-in_default
returns-in_default g c =
    let is : is_change c.args.command.now ≡ true = first_of (search rules, grind (arith, common_steps)) in
    let p = c.args.known.now in
    let s = c.args.self.now.session in
    record {
      step = λ some kept. asked_change p s kept c.args.command.now is ∙ c.change.ensures.step some kept;
      starved = λ e. ap (λ (q : Seated). q.session) (c.change.ensures.starved e);
      sound = c.change.ensures.sound;
      profile = c.change.ensures.profile;
      layers = record { tree = λ t. absurd (false≢true (sym (change_no_tree c.args.command.now is) ∙ t)); others = λ _. c.change.ensures.layers };
      reads = record { tree = λ t. absurd (false≢true (sym (change_no_tree c.args.command.now is) ∙ t)); others = λ _. refl };
      quiet = c.change.ensures.quiet;
      lean = λ kept h. c.change.ensures.lean kept (ap (is_lean c.args.command.now _) (sym (asked_change p s kept c.args.command.now is)) ∙ h);
    }
