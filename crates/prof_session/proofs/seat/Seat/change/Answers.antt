use Rattle.std.proofs.Common.{◌≡◌, ◌∙◌, sym, arith}
use Rattle.std.proofs.lemmas.Bool.{false≢true}
use Rattle.prof_machine.specs.Session.{at_of}
use Rattle.prof_session.proofs.ChangeLemmas.{change_acts, goto_not_lean, acts_not_lean}
use Rattle.prof_session.proofs.seat.Seat.change.Goals as goal

pub returns-in-Goto-clause-lean : goal.returns-in-Goto-clause-lean
returns-in-Goto-clause-lean c =
    let same : at_of c.args.command.now ≡ c.args.self.now.session.version = omega (arith, c.at_of-at.ensures, c.version-version.ensures) in
    λ kept h. absurd (false≢true (sym (goto_not_lean c.args.known.now c.args.self.now.session c.args.command.now _ _ kept c.in-Goto.is same) ∙ h))

pub returns-in_default : goal.returns-in_default
returns-in_default c =
    let same : at_of c.args.command.now ≡ c.args.self.now.session.version = omega (arith, c.at_of-at.ensures, c.version-version.ensures) in
    record {
      step = λ some kept. change_acts c.args.known.now c.args.self.now.session c.args.command.now same kept ∙ c.answer_act.ensures.step some kept;
      starved = c.answer_act.ensures.same;
      layers = c.answer_act.ensures.layers;
      sound = c.answer_act.ensures.sound;
      profile = c.answer_act.ensures.profile;
      quiet = c.answer_act.ensures.quiet;
      lean = λ kept h e. acts_not_lean c.args.known.now c.args.self.now.session c.args.command.now kept c.requires.change same (c.answer_act.ensures.lean e).0 (c.answer_act.ensures.lean e).1 h;
    }
