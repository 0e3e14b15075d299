use Rattle.std.proofs.Common.{◌≡◌, ◌∙◌, ap, sym, Some}
use Rattle.std.specs.Option.{option_map}
use Rattle.prof_io.specs.Named.{value_at}
use Rattle.prof_layer.specs.Simulates.{LayerLists}
use Rattle.prof_machine.specs.Known.{thread_of}
use Rattle.prof_machine.specs.Session.{Session, present}
use Rattle.prof_machine.specs.Machine.{profile_of}
use Rattle.prof_session.specs.Seated.{Seated}
use Rattle.prof_session_desk.proofs.DeskLemmas.{own_value, value_in}
use Rattle.prof_session_desk.proofs.desk.Desk.thread_of.Goals as goal

pub returns-in-Some : goal.returns-in-Some
returns-in-Some c =
    let d = c.args.self.now in
    let there : value_at d.seats c.args.session.now ≡ Some c.in-Some.seat.now = sym c.in-Some.ensures.value in
    let own = own_value d c.args.session.now c.in-Some.seat.now there in
    let base = c.base.ensures ∙ (ap (λ (l : LayerLists). l.base) c.layers.ensures ∙ (c.in-Some.ensures.seated c.in-Some.seat.now there).sound.base) in
    ap Some base ∙ ap (option_map (λ (s : Session). thread_of (profile_of d.profiles s) (present s))) (sym own)

pub returns-in-None : goal.returns-in-None
returns-in-None c =
    let d = c.args.self.now in
    let own = value_in d.seats c.args.session.now ∙ ap (option_map (λ (s : Seated). s.session)) (sym c.in-None.ensures.value) in
    ap (option_map (λ (s : Session). thread_of (profile_of d.profiles s) (present s))) (sym own)
