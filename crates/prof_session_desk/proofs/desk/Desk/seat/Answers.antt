use Rattle.std.proofs.Common.{◌≡◌, ◌<◌, ◌≤◌, ◌∙◌, ap, sym, subst, length, arith}
use Rattle.prof_io.specs.Named.{place_of}
use Rattle.prof_io.proofs.NamedLemmas.{value_lacks}
use Rattle.prof_session_desk.specs.Desk.{DeskLists}
use Rattle.prof_session_desk.proofs.DeskLemmas.{value_here, seated_value, desk_of}
use Rattle.prof_session_desk.proofs.desk.Desk.seat.Goals as goal

pub returns-then-place-len : goal.returns-then-place-len
returns-then-place-len c =
    let ps = c.self.inside.profiles.items in
    let es = c.self.inside.seats.items in
    let found : c.find-place.result ≡ place_of es c.args.session.now = c.find-place.ensures ∙ ap (λ (d : DeskLists). place_of d.seats c.args.session.now) (sym c.self.view_is) in
    let within : c.find-place.result < length es = omega (arith, c.self.inside.seats.ok.0) in
    let is = desk_of ps es c.args.self.now c.self.view_is c.self.invariant.0 in
    record {
      value = rw (← c.self.view_is) (sym (value_here es c.args.session.now c.find-place.result c.index.result.now found within c.index.ensures));
      seated = λ seat h. seated_value c.args.self.now.profiles c.args.self.now.seats c.args.session.now seat is.seated h;
    }

pub returns-else-place-len : goal.returns-else-place-len
returns-else-place-len c =
    let ps = c.self.inside.profiles.items in
    let es = c.self.inside.seats.items in
    let found : c.find-place.result ≡ place_of es c.args.session.now = c.find-place.ensures ∙ ap (λ (d : DeskLists). place_of d.seats c.args.session.now) (sym c.self.view_is) in
    let past : length es ≤ place_of es c.args.session.now = subst (λ n. length es ≤ n) found (omega (arith, c.self.inside.seats.ok.0)) in
    let is = desk_of ps es c.args.self.now c.self.view_is c.self.invariant.0 in
    record {
      value = rw (← c.self.view_is) (sym (value_lacks es c.args.session.now past));
      seated = λ seat h. seated_value c.args.self.now.profiles c.args.self.now.seats c.args.session.now seat is.seated h;
    }
