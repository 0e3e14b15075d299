use Rattle.std.proofs.Common.{◌≡◌, ◌≢◌, ◌∙◌, ◌<◌, true, List, ℕ, Some, length, ap, sym, refl, subst, arith}
use Rattle.std.proofs.lemmas.Bool.{false≢true}
use Rattle.prof_io.specs.Named.{place_of}
use Rattle.prof_request.specs.declared.request.Command.TheVariants as ask
use Rattle.prof_machine.specs.declared.refusal.Reply.TheVariants.{NoMemory}
use Rattle.prof_machine.specs.Machine.{asks_keeper}
use Rattle.prof_machine.specs.Memory.{is_lean}
use Rattle.prof_machine.specs.Session.{Session}
use Rattle.prof_session_desk.specs.Desk.{DeskLists, Follows, LaysAt, ReadsAt, Sets, Stays, desk_step, is_load, own_of}
use Rattle.prof_session_desk.proofs.DeskLemmas.{own_value}
use Rattle.prof_session_desk.proofs.AnswerLemmas.{plain_step, save_step, step_at, of_request, stays_same, some_there, lean_save, asks_save}
use Rattle.prof_session_desk.proofs.desk.Desk.answer_there.Goals as goal

own_there : (d : DeskLists) (name : List ℕ) (place : ℕ) → place_of d.seats name ≡ place → place < length d.seats → (s : Session) × (own_of d name ≡ Some s)
own_there d name place at within =
    let there = some_there d.seats name (subst (λ k. k < length d.seats) (sym at) within) in
    (there.0.session, own_value d name there.0 there.1)

pub returns-in-Close-clause-step : goal.returns-in-Close-clause-step
returns-in-Close-clause-step g c = λ _ _.
    let d = c.args.self.now in
    let new = c.close_at.new.self in
    let request = c.args.request.now in
    let reply = c.close_at.result in
    plain_step d new _ _ _ request reply refl (ap is_load c.in-Close.is)
    (λ kept. of_request request c.as_str-name.result.now ask.Close (λ n k. Follows d new n (desk_step d n kept k) reply × ((desk_step d n kept k).kept ≡ kept)) c.as_str-name.ensures c.in-Close.is
    (c.close_at.ensures.step kept))

pub returns-in-Save-clause-step : goal.returns-in-Save-clause-step
returns-in-Save-clause-step g c = λ some told.
    let d = c.args.self.now in
    let before = g.K.Keeper.texts c.args.keeper.now in
    let now = g.K.Keeper.texts c.save_at.new.keeper in
    let request = c.args.request.now in
    let reply = c.save_at.result in
    save_step d before now _ request reply (ap is_load c.in-Save.is)
    (λ kept. of_request request c.as_str-name.result.now ask.Save (λ n k. Follows d d n (desk_step d n kept k) reply × Sets before now n (desk_step d n kept k).kept) c.as_str-name.ensures c.in-Save.is
    (c.save_at.ensures.step some told kept))

pub returns-in-Save-clause-failed : goal.returns-in-Save-clause-failed
returns-in-Save-clause-failed g c = λ failed.
    let d = c.args.self.now in
    let request = c.args.request.now in
    let own = own_there d request.session c.args.place c.requires.place c.requires.within in
    let h = c.save_at.ensures.failed failed in
    (stays_same d d request.session _ _ refl h.0, ap (asks_keeper d.profiles (length d.seats) (own_of d request.session)) c.in-Save.is ∙ asks_save d request.session own.0 own.1, h.1)

pub returns-in-Save-clause-lean : goal.returns-in-Save-clause-lean
returns-in-Save-clause-lean g c = λ kept lean _.
    let d = c.args.self.now in
    let request = c.args.request.now in
    let own = own_there d request.session c.args.place c.requires.place c.requires.within in
    false≢true (sym (ap (λ k. is_lean k (own_of d request.session) (desk_step d request.session kept k)) c.in-Save.is ∙ lean_save d request.session own.0 own.1 kept) ∙ lean)

pub returns-in_default : goal.returns-in_default
returns-in_default g c =
    let d = c.args.self.now in
    let new = c.answer_at.new.self in
    let request = c.args.request.now in
    let reply = c.answer_at.result in
    let name = c.as_str-name.result.now in
    let texts = g.K.Keeper.texts c.args.keeper.now in
    let is : request.command ≡ request.command = refl in
    let own = own_there d request.session c.args.place c.requires.place c.requires.within in
    record {
      step = λ some _. step_at d new texts _ request reply own.0 own.1
          (λ kept. of_request request name request.command (λ n k. Follows d new n (desk_step d n kept k) reply × ((desk_step d n kept k).kept ≡ kept)) c.as_str-name.ensures is (c.answer_at.ensures.step some kept));
      starved = λ none. subst (λ n. Stays d new n texts texts) c.as_str-name.ensures (c.answer_at.ensures.starved none texts);
      failed = λ failed. absurd (c.answer_at.ensures.quiet failed);
      lean = λ kept. of_request request name request.command (λ n k. is_lean k (own_of d n) (desk_step d n kept k) ≡ true → reply ≢ NoMemory) c.as_str-name.ensures is (c.answer_at.ensures.lean kept);
      layers = of_request request name request.command (λ n k. LaysAt d new n k reply) c.as_str-name.ensures is c.answer_at.ensures.layers;
      reads = of_request request name request.command (λ n k. ReadsAt d n k c.args.reads.now c.answer_at.new.reads) c.as_str-name.ensures is c.answer_at.ensures.reads;
      called = refl;
      returned = refl;
      later = omega arith;
      quiet = λ _. refl;
      sure = λ sure. (c.answer_at.ensures.quiet, sure);
    }
