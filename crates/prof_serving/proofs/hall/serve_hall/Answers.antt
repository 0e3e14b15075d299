use Rattle.std.proofs.Common.{◌≡◌, ◌≢◌, ◌∙◌, ◌+◌, true, false, Ok, Err, ap, refl, sym, subst, arith}
use Rattle.prof_io.specs.Outside.{seen}
use Rattle.prof_script.specs.Playing.{IsHeld, stage}
use Rattle.prof_serve.specs.Serving.{Serves}
use Rattle.prof_io.specs.Shelf.{Place}
use Rattle.prof_serving.specs.Halls.{AreGiven}
use Rattle.prof_serving.proofs.Visits.{given_none, given_on, serves_none, serves_on, serves_still}
use Rattle.prof_serving.proofs.hall.serve_hall.Goals as goal

pub connections-init : goal.connections-init
connections-init g c = record {
  counted = refl;
  serves = λ told held laid is lies.
      serves_none c.args.desk.now.profiles told held laid (stage g.K.Counted g.K.Keeper g.H.Counted c.args.desk.now c.args.keeper.now c.args.hall.now c.args.reads.now) is lies;
  higher = omega arith;
  given = given_none (g.H.Counted.place c.args.hall.now).coming;
  steady = λ s. s;
  later = omega arith;
  sure = λ s. s;
  profiles = refl;
  began = refl;
  begun = refl;
}

pub connections-preserved : goal.connections-preserved
connections-preserved g c =
    let ps = c.args.desk.now.profiles in
    let inv = c.connections.invariant in
    let a = stage g.K.Counted g.K.Keeper g.H.Counted c.args.desk.now c.args.keeper.now c.args.hall.now c.args.reads.now in
    let b = stage g.K.Counted g.K.Keeper g.H.Counted c.connections.desk c.connections.keeper c.connections.hall c.connections.reads in
    let then = stage g.K.Counted g.K.Keeper g.H.Counted c.connections.desk c.connections.keeper c.next.new.self c.connections.reads in
    let new = stage g.K.Counted g.K.Keeper g.H.Counted c.serve_connection-end.new.desk c.serve_connection-end.new.keeper c.serve_connection-end.new.hall c.serve_connection-end.new.reads in
    let end = c.serve_connection-end.result in
    let gives = c.next.ensures.given (c.in-Ok-true.is ∙ ap (λ b. Ok b) c.in-Ok-true.field-0-test) in
    record {
      counted = ap (λ m. m + 1) inv.counted;
      serves = λ told held laid is lies. serves_on ps told held laid a b new (seen g.H.Counted c.next.new.self) c.connections.count end (inv.serves told held laid is lies) gives
          (λ mid lays at lie. subst (λ p. Serves p told mid lays then new end) inv.profiles
          (c.serve_connection-end.ensures.serves told mid lays (subst (λ p. IsHeld p told c.connections.desk (g.K.Keeper.texts c.connections.keeper) mid) (sym inv.profiles) at) lie))
          c.serve_connection-end.ensures.place;
      higher = omega (arith, inv.higher, c.next.ensures.cause.later, c.serve_connection-end.ensures.higher);
      given = subst (λ (p : Place). AreGiven (g.H.Counted.place c.args.hall.now).coming p.coming (c.connections.count + 1)) (sym c.serve_connection-end.ensures.place)
          (given_on (g.H.Counted.place c.args.hall.now).coming (g.H.Counted.place c.connections.hall) (g.H.Counted.place c.next.new.self) _ _ _ _ _ c.connections.count inv.given gives);
      steady = λ s. c.serve_connection-end.ensures.steady (c.next.ensures.sure (inv.steady s)).1;
      later = omega (arith, inv.later, c.serve_connection-end.ensures.later);
      sure = λ s. c.serve_connection-end.ensures.sure (inv.sure s);
      profiles = c.serve_connection-end.ensures.profiles ∙ inv.profiles;
      began = c.serve_connection-end.ensures.called ∙ inv.began;
      begun = c.serve_connection-end.ensures.returned ∙ inv.begun;
    }

pub returns-in-Ok-false-clause-serves : goal.returns-in-Ok-false-clause-serves
returns-in-Ok-false-clause-serves g c = λ told held laid is lies.
    let none : c.next.result ≢ Ok true = λ e. let f : Ok true ≡ Ok false = sym e ∙ c.in-Ok-false.is ∙ ap (λ b. Ok b) c.in-Ok-false.field-0-test in cc in
    serves_still c.args.desk.now.profiles told held laid (stage g.K.Counted g.K.Keeper g.H.Counted c.args.desk.now c.args.keeper.now c.args.hall.now c.args.reads.now)
    (stage g.K.Counted g.K.Keeper g.H.Counted c.connections.desk c.connections.keeper c.connections.hall c.connections.reads) (seen g.H.Counted c.next.new.self) c.connections.count
    (c.connections.invariant.serves told held laid is lies) (c.next.ensures.stayed none) (c.next.ensures.written none)

pub returns-in-Err-clause-serves : goal.returns-in-Err-clause-serves
returns-in-Err-clause-serves g c = λ told held laid is lies.
    let none : c.next.result ≢ Ok true = λ e. let f : Ok true ≡ Err c.in-Err.field-0 = sym e ∙ c.in-Err.is in cc in
    serves_still c.args.desk.now.profiles told held laid (stage g.K.Counted g.K.Keeper g.H.Counted c.args.desk.now c.args.keeper.now c.args.hall.now c.args.reads.now)
    (stage g.K.Counted g.K.Keeper g.H.Counted c.connections.desk c.connections.keeper c.connections.hall c.connections.reads) (seen g.H.Counted c.next.new.self) c.connections.count
    (c.connections.invariant.serves told held laid is lies) (c.next.ensures.stayed none) (c.next.ensures.written none)
