use Rattle.std.proofs.Common.{◌≡◌, ◌∙◌, ◌≤◌, false, List, ℕ, length, ap, sym, refl, subst, arith}
use Rattle.std.proofs.lemmas.Bool.{false≢true}
use Rattle.prof_io.specs.Named.{place_of}
use Rattle.prof_request.specs.declared.request.Command.TheVariants as ask
use Rattle.prof_machine.specs.declared.refusal.Refusal.TheVariants.{NoSession}
use Rattle.prof_machine.specs.declared.refusal.Reply.TheVariants.{Refused}
use Rattle.prof_machine.specs.Machine.{asks_keeper}
use Rattle.prof_machine.specs.Memory.{is_lean}
use Rattle.prof_session_desk.specs.Desk.{DeskLists, Follows, IsText, LaysAt, desk_step, is_load, own_of}
use Rattle.prof_session_desk.proofs.DeskLemmas.{own_lacks}
use Rattle.prof_session_desk.proofs.MakeLemmas.{nothing_there}
use Rattle.prof_session_desk.proofs.AnswerLemmas.{plain_step, load_step, of_request, stays_same, not_load, nothing_made, open_keeps, load_keeps, lean_open, lays_lacking}
use Rattle.prof_session_desk.proofs.desk.Desk.answer_lacking.Goals as goal

lacks_name : (d : DeskLists) (name session : List ℕ) → name ≡ session → length d.seats ≤ place_of d.seats session → length d.seats ≤ place_of d.seats name
lacks_name d name session same lacks = subst (λ n. length d.seats ≤ place_of d.seats n) (sym same) lacks

pub returns-in-OpenOn-clause-step : goal.returns-in-OpenOn-clause-step
returns-in-OpenOn-clause-step g c = λ some _.
    let d = c.args.self.now in
    let new = c.open.new.self in
    let request = c.args.request.now in
    let reply = c.open.result in
    let name = c.as_str-name.result.now in
    let profile = c.as_str.result.now in
    let thread = c.in-OpenOn.thread in
    let is : request.command ≡ ask.OpenOn profile thread = c.in-OpenOn.is ∙ ap (λ (p : List ℕ). ask.OpenOn p thread) (sym c.as_str.ensures) in
    let lacks = lacks_name d name request.session c.as_str-name.ensures c.requires.lacks in
    plain_step d new _ _ _ request reply refl (ap is_load is)
    (λ kept. of_request request name (ask.OpenOn profile thread) (λ n k. Follows d new n (desk_step d n kept k) reply × ((desk_step d n kept k).kept ≡ kept)) c.as_str-name.ensures is
    (c.open.ensures.step some kept, open_keeps d name lacks kept profile thread))

pub returns-in-OpenOn-clause-lean : goal.returns-in-OpenOn-clause-lean
returns-in-OpenOn-clause-lean g c = λ kept lean none.
    let d = c.args.self.now in
    let request = c.args.request.now in
    let name = c.as_str-name.result.now in
    let profile = c.as_str.result.now in
    let thread = c.in-OpenOn.thread in
    let is : request.command ≡ ask.OpenOn profile thread = c.in-OpenOn.is ∙ ap (λ (p : List ℕ). ask.OpenOn p thread) (sym c.as_str.ensures) in
    let lacks = lacks_name d name request.session c.as_str-name.ensures c.requires.lacks in
    false≢true (sym (of_request request name (ask.OpenOn profile thread) (λ n k. is_lean k (own_of d n) (desk_step d n kept k) ≡ false) c.as_str-name.ensures is
    (lean_open d name lacks kept profile thread (c.open.ensures.lean none))) ∙ lean)

pub returns-in-OpenOn-clause-layers : goal.returns-in-OpenOn-clause-layers
returns-in-OpenOn-clause-layers g c =
    let d = c.args.self.now in
    let new = c.open.new.self in
    let request = c.args.request.now in
    let name = c.as_str-name.result.now in
    subst (λ n. LaysAt d new n request.command c.open.result) c.as_str-name.ensures
    (lays_lacking d name (lacks_name d name request.session c.as_str-name.ensures c.requires.lacks) new request.command c.open.result c.open.ensures.layers)

pub returns-in-LoadOn-clause-step : goal.returns-in-LoadOn-clause-step
returns-in-LoadOn-clause-step g c = λ some told.
    let d = c.args.self.now in
    let new = c.load.new.self in
    let request = c.args.request.now in
    let reply = c.load.result in
    let name = c.as_str-name.result.now in
    let profile = c.as_str-in-LoadOn.result.now in
    let before = g.K.Keeper.texts c.args.keeper.now in
    let is : request.command ≡ ask.LoadOn profile = c.in-LoadOn.is ∙ ap ask.LoadOn (sym c.as_str-in-LoadOn.ensures) in
    let lacks = lacks_name d name request.session c.as_str-name.ensures c.requires.lacks in
    let h = c.load.ensures.step some told in
    load_step d new before (g.K.Keeper.texts c.load.new.keeper) (g.K.Keeper.got c.load.new.keeper) request reply h.0 c.load.ensures.texts
    (subst (λ n. IsText before n h.0) c.as_str-name.ensures h.1)
    (λ asks. h.2 (ap (λ o. asks_keeper d.profiles (length d.seats) o (ask.LoadOn profile)) (sym (own_lacks d request.session c.requires.lacks))
    ∙ (ap (asks_keeper d.profiles (length d.seats) (own_of d request.session)) (sym is) ∙ asks)))
    (of_request request name (ask.LoadOn profile) (λ n k. Follows d new n (desk_step d n h.0 k) reply) c.as_str-name.ensures is h.3)
    (of_request request name (ask.LoadOn profile) (λ n k. (desk_step d n h.0 k).kept ≡ h.0) c.as_str-name.ensures is (load_keeps d name lacks h.0 profile))

pub returns-in-LoadOn-clause-failed : goal.returns-in-LoadOn-clause-failed
returns-in-LoadOn-clause-failed g c = λ failed.
    let d = c.args.self.now in
    let request = c.args.request.now in
    let profile = c.as_str-in-LoadOn.result.now in
    let is : request.command ≡ ask.LoadOn profile = c.in-LoadOn.is ∙ ap ask.LoadOn (sym c.as_str-in-LoadOn.ensures) in
    let h = c.load.ensures.failed failed in (
      stays_same d c.load.new.self request.session _ _ h.0 c.load.ensures.texts,
      ap (asks_keeper d.profiles (length d.seats) (own_of d request.session)) is
          ∙ (ap (λ o. asks_keeper d.profiles (length d.seats) o (ask.LoadOn profile)) (own_lacks d request.session c.requires.lacks) ∙ h.1),
      h.2,
    )

pub returns-in-LoadOn-clause-layers : goal.returns-in-LoadOn-clause-layers
returns-in-LoadOn-clause-layers g c =
    let d = c.args.self.now in
    let new = c.load.new.self in
    let request = c.args.request.now in
    let name = c.as_str-name.result.now in
    subst (λ n. LaysAt d new n request.command c.load.result) c.as_str-name.ensures
    (lays_lacking d name (lacks_name d name request.session c.as_str-name.ensures c.requires.lacks) new request.command c.load.result c.load.ensures.layers)

pub returns-in_default : goal.returns-in_default
returns-in_default g c =
    let d = c.args.self.now in
    let request = c.args.request.now in
    let lacks = c.requires.lacks in
    record {
      step = λ _ _. plain_step d d _ _ _ request (Refused NoSession) refl (not_load request.command c.in_default.not-LoadOn)
          (λ kept. nothing_made d request.session lacks kept request.command c.in_default.not-OpenOn c.in_default.not-LoadOn);
      starved = λ e. cc;
      failed = λ e. cc;
      lean = λ kept h e. cc;
      layers = lays_lacking d request.session lacks d request.command (Refused NoSession) (λ new h. absurd (nothing_there d request.session new lacks h));
      called = refl;
      returned = refl;
      later = omega arith;
      quiet = λ _. refl;
      sure = λ sure. ((λ e. cc), sure);
    }
