use Rattle.std.proofs.Common.{◌≡◌, ◌∙◌, ap, sym, subst, length, ◌<◌}
use Rattle.prof_io.specs.Named.{place_of}
use Rattle.prof_session_desk.specs.Desk.{DeskLists}
use Rattle.prof_session_desk.proofs.DeskLemmas.{profile_within, seated_at}
use Rattle.prof_session_desk.proofs.desk.Desk.profile_at.Goals as goal

pub returns-clause-within : goal.returns-clause-within
returns-clause-within c =
    let ps = c.self.inside.profiles.items in
    let es = c.self.inside.seats.items in
    let within : c.args.place < length es = subst (λ (d : DeskLists). c.args.place < length d.seats) (sym c.self.view_is) c.requires in
    let found : c.find.result ≡ place_of ps c.index.result.now.1.session.profile = c.find.ensures ∙ ap (λ l. place_of l c.profile.result.now) c.deref.ensures.value ∙ ap (place_of ps) c.profile.ensures in
    rw (← c.self.view_is) (profile_within ps c.index.result.now.1 c.find.result (seated_at ps es c.args.place c.index.result.now c.self.invariant.0 within c.index.ensures) found)
