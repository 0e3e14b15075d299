use Rattle.std.proofs.Common.{rules, arith, min, ◌≡◌, ◌≢◌, ◌+◌, Ok, Err, refl, sym, subst}
use Rattle.std.specs.Prelude.{⊤}
use Rattle.prof_io.specs.Outside.{seen}
use Rattle.prof_writer.proofs.Outputs.{writes_none}
use Rattle.prof_script.specs.Playing.{IsHeld, stage}
use Rattle.prof_wire.specs.Lent.{asked_of}
use Rattle.prof_wire.specs.Taking.{EndsSo, unused}
use Rattle.prof_wire.specs.declared.responding.HallFault.{HallFault as Fault}
use Rattle.prof_wire.specs.declared.messages.WireEnd.TheVariants.{End, HallFault}
use Rattle.prof_serve.specs.Serving.{Answers, IsWhole}
use Rattle.prof_serve.proofs.Writings.{Reads}
use Rattle.prof_serve.proofs.Servings.{behind, lays_behind, cut_in_answer, cut_in_read, cut_in_refusal, refused_end, served_end, served_last, served_more, served_none, served_over}
use Rattle.prof_serve.proofs.serving.serve_connection.Goals as goal

pub messages-init : goal.messages-init
messages-init g c = record {
  given = c.reset.ensures.given;
  serves = λ told held laid is lies. served_none c.args.desk.now.profiles told held laid (stage g.K.Counted g.K.Keeper g.H.Counted c.args.desk.now c.args.keeper.now c.args.hall.now c.args.reads.now) c.reset.new.self c.reset.ensures.ahead is lies;
  place = refl;
  calm = refl;
  steady = λ s. s;
  profiles = refl;
  called = refl;
  returned = refl;
  later = omega arith;
  sure = λ s. s;
}

pub returns-in-Err-answer_message-clause-serves : goal.returns-in-Err-answer_message-clause-serves
returns-in-Err-answer_message-clause-serves g c = λ told held laid is lies.
    let ps = c.args.desk.now.profiles in
    let inv = c.messages.invariant in
    let a = stage g.K.Counted g.K.Keeper g.H.Counted c.args.desk.now c.args.keeper.now c.args.hall.now c.args.reads.now in
    let b = stage g.K.Counted g.K.Keeper g.H.Counted c.messages.desk c.messages.keeper c.messages.hall c.messages.reads in
    let o = seen g.H.Counted c.next_message.new.hall in
    let then = stage g.K.Counted g.K.Keeper g.H.Counted c.messages.desk c.messages.keeper c.next_message.new.hall c.messages.reads in
    let new = stage g.K.Counted g.K.Keeper g.H.Counted c.answer_message.new.desk c.answer_message.new.keeper c.answer_message.new.hall c.answer_message.new.reads in
    let w = c.messages.wire in
    let v = c.next_message.follows.lender-at-none in
    let asked = asked_of c.in-Ok.message in
    let reads : Reads b.out o = record {
      written = c.in-Ok.ensures.written;
      place = c.in-Ok.ensures.place;
      room = c.in-Ok.ensures.room;
      faults = c.in-Ok.ensures.kept (λ e. cc);
      sure = λ s. (c.in-Ok.ensures.sure s).1;
    } in
    let gives = rw c.in-Ok.is at c.next_message.follows.holds-at-none in
    let comes = rw inv.given at gives.1 in
    let s = inv.serves told held laid is lies in
    let mid = behind ps told held laid a b w c.messages._count s in
    let lays = lays_behind ps told held laid a b w c.messages._count s in
    let answers = subst (λ p. Answers p told mid lays {T = ⊤} {E = Fault} asked then new (Err c.in-Err-answer_message.field-0)) inv.profiles
    (c.in-Err-answer_message.ensures.answers told mid lays (subst (λ p. IsHeld p told c.messages.desk (g.K.Keeper.texts c.messages.keeper) mid) (sym inv.profiles) s.handles.state) s.handles.lies) in
    cut_in_answer ps told held laid a b new o w v c.messages._count asked c.in-Err-answer_message.field-0 s reads comes answers

pub returns-then-last-clause-serves : goal.returns-then-last-clause-serves
returns-then-last-clause-serves g c = λ told held laid is lies.
    let ps = c.args.desk.now.profiles in
    let inv = c.messages.invariant in
    let a = stage g.K.Counted g.K.Keeper g.H.Counted c.args.desk.now c.args.keeper.now c.args.hall.now c.args.reads.now in
    let b = stage g.K.Counted g.K.Keeper g.H.Counted c.messages.desk c.messages.keeper c.messages.hall c.messages.reads in
    let o = seen g.H.Counted c.next_message.new.hall in
    let then = stage g.K.Counted g.K.Keeper g.H.Counted c.messages.desk c.messages.keeper c.next_message.new.hall c.messages.reads in
    let new = stage g.K.Counted g.K.Keeper g.H.Counted c.answer_message.new.desk c.answer_message.new.keeper c.answer_message.new.hall c.answer_message.new.reads in
    let w = c.messages.wire in
    let v = c.next_message.follows.lender-at-none in
    let asked = asked_of c.in-Ok.message in
    let reads : Reads b.out o = record {
      written = c.in-Ok.ensures.written;
      place = c.in-Ok.ensures.place;
      room = c.in-Ok.ensures.room;
      faults = c.in-Ok.ensures.kept (λ e. cc);
      sure = λ s. (c.in-Ok.ensures.sure s).1;
    } in
    let gives = rw c.in-Ok.is at c.next_message.follows.holds-at-none in
    let comes = rw inv.given at gives.1 in
    let s = inv.serves told held laid is lies in
    let mid = behind ps told held laid a b w c.messages._count s in
    let lays = lays_behind ps told held laid a b w c.messages._count s in
    let answers = subst (λ p. Answers p told mid lays {T = ⊤} {E = Fault} asked then new (Ok tt)) inv.profiles
    (c.in-Ok-answer_message.ensures.answers told mid lays (subst (λ p. IsHeld p told c.messages.desk (g.K.Keeper.texts c.messages.keeper) mid) (sym inv.profiles) s.handles.state) s.handles.lies) in
    served_last ps told held laid a b new o w v c.messages._count asked tt s reads comes c.if-last.true answers

pub messages-preserved : goal.messages-preserved
messages-preserved g c =
    let ps = c.args.desk.now.profiles in
    let inv = c.messages.invariant in
    let a = stage g.K.Counted g.K.Keeper g.H.Counted c.args.desk.now c.args.keeper.now c.args.hall.now c.args.reads.now in
    let b = stage g.K.Counted g.K.Keeper g.H.Counted c.messages.desk c.messages.keeper c.messages.hall c.messages.reads in
    let o = seen g.H.Counted c.next_message.new.hall in
    let then = stage g.K.Counted g.K.Keeper g.H.Counted c.messages.desk c.messages.keeper c.next_message.new.hall c.messages.reads in
    let new = stage g.K.Counted g.K.Keeper g.H.Counted c.answer_message.new.desk c.answer_message.new.keeper c.answer_message.new.hall c.answer_message.new.reads in
    let w = c.messages.wire in
    let v = c.next_message.follows.lender-at-none in
    let asked = asked_of c.in-Ok.message in
    let reads : Reads b.out o = record {
      written = c.in-Ok.ensures.written;
      place = c.in-Ok.ensures.place;
      room = c.in-Ok.ensures.room;
      faults = c.in-Ok.ensures.kept (λ e. cc);
      sure = λ s. (c.in-Ok.ensures.sure s).1;
    } in
    let gives = rw c.in-Ok.is at c.next_message.follows.holds-at-none in
    let comes = rw inv.given at gives.1 in
    let first : v.given ≡ min 1000 (w.given + 1) = gives.0 in
    record {
      given = omega (arith, first, inv.given, c.messages-test.true);
      serves = λ told held laid is lies.
          let s = inv.serves told held laid is lies in
          let mid = behind ps told held laid a b w c.messages._count s in
          let lays = lays_behind ps told held laid a b w c.messages._count s in
          let answers = subst (λ p. Answers p told mid lays {T = ⊤} {E = Fault} asked then new (Ok tt)) inv.profiles
          (c.in-Ok-answer_message.ensures.answers told mid lays (subst (λ p. IsHeld p told c.messages.desk (g.K.Keeper.texts c.messages.keeper) mid) (sym inv.profiles) s.handles.state) s.handles.lies) in
          served_more ps told held laid a b new o w v c.messages._count asked tt s reads comes c.if-last.false answers;
      place = search rules;
      calm = search rules;
      steady = search rules;
      profiles = search rules;
      called = search rules;
      returned = search rules;
      later = search rules;
      sure = search rules;
    }

pub returns-in-Err-End-clause-serves : goal.returns-in-Err-End-clause-serves
returns-in-Err-End-clause-serves g c = λ told held laid is lies.
    let ps = c.args.desk.now.profiles in
    let inv = c.messages.invariant in
    let a = stage g.K.Counted g.K.Keeper g.H.Counted c.args.desk.now c.args.keeper.now c.args.hall.now c.args.reads.now in
    let b = stage g.K.Counted g.K.Keeper g.H.Counted c.messages.desk c.messages.keeper c.messages.hall c.messages.reads in
    let o = seen g.H.Counted c.next_message.new.hall in
    let w = c.messages.wire in
    let field = rw c.in-Err-End.field-0-is at c.in-Err-End.is in
    let reads : Reads b.out o = record {
      written = c.in-Err-End.ensures.written;
      place = c.in-Err-End.ensures.place;
      room = c.in-Err-End.ensures.room;
      faults = c.next_message.ensures.kept (λ e. cc);
      sure = λ s. (c.in-Err-End.ensures.sure s).1;
    } in
    let gives = rw field at c.next_message.follows.holds-at-none in
    let ends : EndsSo c.messages._count (unused w b.out.left) End = rw inv.given at gives in
    served_end ps told held laid {T = ⊤} {E = ⊤} a b o o w c.messages._count End tt (inv.serves told held laid is lies) reads ends (λ e. cc) (writes_none o)

pub returns-in-Err-HallFault-clause-serves : goal.returns-in-Err-HallFault-clause-serves
returns-in-Err-HallFault-clause-serves g c = λ told held laid is lies.
    let ps = c.args.desk.now.profiles in
    let inv = c.messages.invariant in
    let a = stage g.K.Counted g.K.Keeper g.H.Counted c.args.desk.now c.args.keeper.now c.args.hall.now c.args.reads.now in
    let b = stage g.K.Counted g.K.Keeper g.H.Counted c.messages.desk c.messages.keeper c.messages.hall c.messages.reads in
    let o = seen g.H.Counted c.next_message.new.hall in
    let is_fault : c.next_message.result ≡ Err HallFault = rw c.in-Err-HallFault.field-0-is at c.in-Err-HallFault.is in
    cut_in_read ps told held laid a b o c.messages.wire c.messages._count (inv.serves told held laid is lies) c.next_message.ensures.written c.next_message.ensures.place
    (λ s. (c.next_message.ensures.sure s).0 is_fault) (c.next_message.ensures.failed is_fault)

pub returns-in-Ok-write_refusal : goal.returns-in-Ok-write_refusal
returns-in-Ok-write_refusal g c =
    let ps = c.args.desk.now.profiles in
    let inv = c.messages.invariant in
    let a = stage g.K.Counted g.K.Keeper g.H.Counted c.args.desk.now c.args.keeper.now c.args.hall.now c.args.reads.now in
    let b = stage g.K.Counted g.K.Keeper g.H.Counted c.messages.desk c.messages.keeper c.messages.hall c.messages.reads in
    let o = seen g.H.Counted c.next_message.new.hall in
    let p = seen g.H.Counted c.write_refusal.new.hall in
    let w = c.messages.wire in
    let end = c.in-Err.end in
    let some : end ≢ End = search rules in
    let other : end ≢ HallFault = search rules in
    let reads : Reads b.out o = record {
      written = c.next_message.ensures.written;
      place = c.next_message.ensures.place;
      room = c.next_message.ensures.room;
      faults = search rules;
      sure = λ s. (c.next_message.ensures.sure s).1;
    } in
    let gives = rw c.in-Err.is at c.next_message.follows.holds-at-none in
    let ends : EndsSo c.messages._count (unused w b.out.left) end = rw inv.given at gives in
    record {
      serves = λ told held laid is lies.
          let done = served_end ps told held laid a b o p w c.messages._count end tt (inv.serves told held laid is lies) reads ends other c.in-Ok-write_refusal.ensures in
          (done.0, done.1, subst (λ x. IsWhole ps held done.0 a.out p x) (refused_end end some other) done.2);
      place = search rules;
      faulted = search rules;
      calm = search rules;
      higher = search rules;
      steady = search rules;
      profiles = search rules;
      called = search rules;
      returned = search rules;
      later = search rules;
      sure = search rules;
    }

pub returns-in-Err-write_refusal : goal.returns-in-Err-write_refusal
returns-in-Err-write_refusal g c =
    let ps = c.args.desk.now.profiles in
    let inv = c.messages.invariant in
    let a = stage g.K.Counted g.K.Keeper g.H.Counted c.args.desk.now c.args.keeper.now c.args.hall.now c.args.reads.now in
    let b = stage g.K.Counted g.K.Keeper g.H.Counted c.messages.desk c.messages.keeper c.messages.hall c.messages.reads in
    let o = seen g.H.Counted c.next_message.new.hall in
    let p = seen g.H.Counted c.write_refusal.new.hall in
    let w = c.messages.wire in
    let end = c.in-Err.end in
    let other : end ≢ HallFault = search rules in
    let reads : Reads b.out o = record {
      written = c.next_message.ensures.written;
      place = c.next_message.ensures.place;
      room = c.next_message.ensures.room;
      faults = search rules;
      sure = λ s. (c.next_message.ensures.sure s).1;
    } in
    let gives = rw c.in-Err.is at c.next_message.follows.holds-at-none in
    let ends : EndsSo c.messages._count (unused w b.out.left) end = rw inv.given at gives in
    record {
      serves = λ told held laid is lies. cut_in_refusal ps told held laid a b o p w c.messages._count end c.in-Err-write_refusal.field-0 (inv.serves told held laid is lies) reads ends other c.in-Err-write_refusal.ensures;
      place = search rules;
      faulted = search rules;
      calm = search rules;
      higher = search rules;
      steady = search rules;
      profiles = search rules;
      called = search rules;
      returned = search rules;
      later = search rules;
      sure = search rules;
    }

pub returns-clause-serves : goal.returns-clause-serves
returns-clause-serves g c = λ told held laid is lies.
    let a = stage g.K.Counted g.K.Keeper g.H.Counted c.args.desk.now c.args.keeper.now c.args.hall.now c.args.reads.now in
    let b = stage g.K.Counted g.K.Keeper g.H.Counted c.messages.desk c.messages.keeper c.messages.hall c.messages.reads in
    served_over c.args.desk.now.profiles told held laid a b c.messages.wire c.messages._count (omega (arith, c.messages-test.false)) (c.messages.invariant.serves told held laid is lies)
