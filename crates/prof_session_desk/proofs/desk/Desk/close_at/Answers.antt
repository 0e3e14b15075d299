use Rattle.std.proofs.Common.{◌≡◌, ◌∙◌, ap, sym, refl, cond, List, ℕ, Option, None}
use Rattle.prof_io.specs.Named.{value_at}
use Rattle.prof_io.proofs.NamedLemmas.{names_same, value_at-with_own}
use Rattle.prof_request.specs.declared.request.Command.TheVariants as ask
use Rattle.prof_machine.specs.declared.refusal.Reply.TheVariants.{Closed}
use Rattle.prof_machine.specs.Machine.{stays}
use Rattle.prof_named.specs.Names.{names_of}
use Rattle.prof_session.specs.Seated.{Seated}
use Rattle.prof_session_desk.specs.Desk.{DeskLists, desk_step, Follows}
use Rattle.prof_session_desk.proofs.DeskLemmas.{desk_without, follows, step_there, own_value, seat_of, name_removed}
use Rattle.prof_session_desk.proofs.AnswerLemmas.{lays_none}
use Rattle.prof_session_desk.proofs.desk.Desk.close_at.Goals as goal

pub invariant_of-self : goal.invariant_of-self
invariant_of-self c =
    let ps = c.self.inside.profiles.items in
    let es = c.self.inside.seats.items in
    let s = seat_of ps es c.args.self.now c.args.name.now c.args.place c.remove.result c.self.view_is c.self.invariant.0 c.requires.place c.requires.within c.remove.ensures.value in (
      desk_without ps es c.remove.new.self.items c.args.name.now c.self.invariant.0 (c.remove.ensures.items ∙ s.without),
      c.remove-2.ensures ∙ (name_removed c.self.inside.names es c.self.invariant.1 c.args.place ∙ ap names_of (sym c.remove.ensures.items)),
    )

pub returns-clause-step : goal.returns-clause-step
returns-clause-step c =
    let ps = c.self.inside.profiles.items in
    let es = c.self.inside.seats.items in
    let s = seat_of ps es c.args.self.now c.args.name.now c.args.place c.remove.result c.self.view_is c.self.invariant.0 c.requires.place c.requires.within c.remove.ensures.value in
    let d : DeskLists = record { profiles = ps; seats = es } in
    let n : DeskLists = record { profiles = ps; seats = c.remove.new.self.items } in
    let at_kept : (kept : Option (List ℕ)) → Follows d n c.args.name.now (desk_step d c.args.name.now kept ask.Close) Closed × ((desk_step d c.args.name.now kept ask.Close).kept ≡ kept) = λ kept.
    let e : desk_step d c.args.name.now kept ask.Close ≡ stays None kept Closed = step_there d c.args.name.now kept c.remove.result.1.session ask.Close (own_value d c.args.name.now c.remove.result.1 s.seat) in
    (follows d n c.args.name.now None _ _ refl (c.remove.ensures.items ∙ s.without) (ap (λ a. a.reply) (sym e)) (ap (λ a. a.session) e), ap (λ a. a.kept) e) in
    rw (← c.self.view_is) at_kept

pub returns-clause-layers : goal.returns-clause-layers
returns-clause-layers c =
    let ps = c.self.inside.profiles.items in
    let es = c.self.inside.seats.items in
    let s = seat_of ps es c.args.self.now c.args.name.now c.args.place c.remove.result c.self.view_is c.self.invariant.0 c.requires.place c.requires.within c.remove.ensures.value in
    let gone : value_at c.remove.new.self.items c.args.name.now ≡ None =
    ap (λ (l : List (List ℕ × Seated)). value_at l c.args.name.now) (c.remove.ensures.items ∙ s.without)
    ∙ (value_at-with_own c.args.name.now None es c.args.name.now ∙ ap (λ t. cond t None (value_at es c.args.name.now)) (names_same c.args.name.now c.args.name.now refl)) in
    λ reply. lays_none c.args.self.now.profiles ask.Close reply (value_at c.args.self.now.seats c.args.name.now) (value_at c.remove.new.self.items c.args.name.now) gone
