use Rattle.std.proofs.Common.{◌≡◌, ◌∙◌, ap, sym, subst, Some}
use Rattle.std.proofs.lemmas.Option.{none-some, same_Some}
use Rattle.prof_io.specs.Named.{value_at}
use Rattle.prof_tables.specs.Threads.{ThreadTables}
use Rattle.prof_tables.specs.Ties.{AreOwn, IsShared}
use Rattle.prof_layer.specs.Simulates.{LayerLists}
use Rattle.prof_machine.specs.Known.{thread_of}
use Rattle.prof_machine.specs.Session.{Session, present}
use Rattle.prof_machine.specs.Machine.{profile_of}
use Rattle.prof_session_desk.specs.Desk.{IsAllowed}
use Rattle.prof_session_desk.proofs.DeskLemmas.{own_value, own_none}
use Rattle.prof_session_desk.proofs.KnownLemmas.{present_rules}
use Rattle.prof_session_desk.proofs.desk.Desk.keeps.Goals as goal

pub returns-in-Some : goal.returns-in-Some
returns-in-Some c = λ s own.
    let d = c.args.self.now in
    let seat = c.in-Some.seat.now in
    let there : value_at d.seats c.args.session.now ≡ Some seat = sym c.in-Some.ensures.value in
    let same : seat.session ≡ s = same_Some seat.session s (sym (own_value d c.args.session.now seat there) ∙ own) in
    let sound = (c.in-Some.ensures.seated seat there).sound in
    let base : c.base.result.now ≡ thread_of (profile_of d.profiles seat.session) (present seat.session) = c.base.ensures ∙ (ap (λ (l : LayerLists). l.base) c.layers.ensures ∙ sound.base) in
    subst (λ (q : Session). IsAllowed (thread_of (profile_of d.profiles q) (present q)) (present q)) same (record {
      shared = subst (λ (t : ThreadTables). IsShared t.shared) base c.keeps.ensures.shared;
      own = subst AreOwn base c.keeps.ensures.own;
      rules = present_rules (profile_of d.profiles seat.session) seat.session sound.views;
    })

pub returns-in_default : goal.returns-in_default
returns-in_default c = λ s own. absurd (none-some s (sym (own_none c.args.self.now c.args.session.now (sym c.in_default.ensures.value)) ∙ own))
