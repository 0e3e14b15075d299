use Rattle.std.proofs.Common.{◌≡◌, length, None, rules, arith}
use Rattle.std.proofs.lemmas.Grind.{common_steps}
use Rattle.prof_machine.specs.Session.{present}
use Rattle.prof_machine.specs.Machine.{content_refusal}
use Rattle.prof_session.proofs.SoundLemmas.{sound_still}
use Rattle.prof_session.proofs.seat.Seat.answer_act.Goals as goal

pub returns-in-Ok-clause-sound : goal.returns-in-Ok-clause-sound
returns-in-Ok-clause-sound c =
    let p = c.args.known.now in
    let s = c.args.self.now.session in
    let allowed : content_refusal p (present s) s.place (length s.views) c.args.command.now ≡ None = first_of (search rules, grind (arith, common_steps)) in
    sound_still p c.args.self.now c.act.new.self c.args.command.now c.requires.sound c.present.ensures.within allowed c.in-Ok.ensures.session c.in-Ok.ensures.layers
