use Rattle.std.proofs.Common.{◌∙◌, [], arith, refl, sym}
use Rattle.prof_io.specs.Outside.{kept, seen}
use Rattle.prof_desk.specs.declared.status.Status.TheVariants as status
use Rattle.prof_writer.proofs.Outputs.{writes_as, writes_none}
use Rattle.prof_desk.proofs.Servings.{announces_not, counts_not, not_begun, opens_not, serves_out, serves_until}
use Rattle.prof_desk.proofs.serving.serve_begun.Goals as goal

pub returns-in-Err-Failed-clause-ends : goal.returns-in-Err-Failed-clause-ends
returns-in-Err-Failed-clause-ends g c = λ files inputs bare all.
    let e = c.in-Err-Failed.ensures in
    let o = seen g.S.Counted c.args.out.now in
    not_begun c.args.port c.args.connections c.args.sessions.now files inputs (kept g.K.Counted g.K.Keeper c.args.keeper.now) (kept g.K.Counted g.K.Keeper c.begin.new.self)
    (seen g.H.Counted c.args.hall.now) o c.args.reads.now status.KeeperFault ([], _, refl, writes_none o) (λ f. cc) (λ f. cc)
    (λ _. (omega (arith, e.called, e.returned, e.failed (cc c.in-Err-Failed.field-0-is)), omega (arith, e.called))) e.later e.err (λ s _. (e.sure s).0 (cc c.in-Err-Failed.field-0-is))

pub returns-in-Err-NoMemory-clause-ends : goal.returns-in-Err-NoMemory-clause-ends
returns-in-Err-NoMemory-clause-ends g c = λ files inputs bare all.
    let e = c.in-Err-NoMemory.ensures in
    let o = seen g.S.Counted c.args.out.now in
    not_begun c.args.port c.args.connections c.args.sessions.now files inputs (kept g.K.Counted g.K.Keeper c.args.keeper.now) (kept g.K.Counted g.K.Keeper c.begin.new.self)
    (seen g.H.Counted c.args.hall.now) o c.args.reads.now status.NoMemory ([], _, refl, writes_none o) (λ f. cc) (λ f. cc) (λ f. cc) e.later e.err (λ _ f. cc)

pub returns-then-is_err-clause-ends : goal.returns-then-is_err-clause-ends
returns-then-is_err-clause-ends g c = λ files inputs bare all.
    opens_not c.args.port c.args.connections c.args.sessions.now files inputs (kept g.K.Counted g.K.Keeper c.args.keeper.now) (kept g.K.Counted g.K.Keeper c.begin.new.self)
    (seen g.H.Counted c.args.hall.now) (seen g.H.Counted c.listen.new.self) (seen g.S.Counted c.args.out.now) c.args.desk.now c.args.reads.now c.listen.result bare all
    (record {
      texts = c.in-Ok.ensures.ok;
      calm = c.in-Ok.ensures.kept (λ f. cc);
      returned = c.in-Ok.ensures.returned;
      sure = λ s. (c.in-Ok.ensures.sure s).1;
      place = c.listen.ensures.place;
      written = c.listen.ensures.written;
      higher = c.listen.ensures.cause.later;
    }) (sym c.is_err.ensures.value ∙ c.if-is_err.true) c.listen.ensures.cause.failed c.listen.ensures.sure

pub returns-then-is_err-2-clause-ends : goal.returns-then-is_err-2-clause-ends
returns-then-is_err-2-clause-ends g c = λ files inputs bare all.
    announces_not c.args.port c.args.connections c.args.sessions.now files inputs (kept g.K.Counted g.K.Keeper c.args.keeper.now) (kept g.K.Counted g.K.Keeper c.begin.new.self)
    (seen g.H.Counted c.args.hall.now) (seen g.H.Counted c.listen.new.self) (seen g.S.Counted c.args.out.now) (seen g.S.Counted c.put.new.out) c.args.desk.now c.args.reads.now c.put.result bare all
    (record {
      texts = c.in-Ok.ensures.ok;
      calm = c.in-Ok.ensures.kept (λ f. cc);
      returned = c.in-Ok.ensures.returned;
      sure = λ s. (c.in-Ok.ensures.sure s).1;
      place = c.listen.ensures.place;
      written = c.listen.ensures.written;
      higher = c.listen.ensures.cause.later;
    }) (sym c.is_err-2.ensures.value ∙ c.if-is_err-2.true) (writes_as c.port_line.ensures c.put.ensures)

pub returns-then-served-clause-ends : goal.returns-then-served-clause-ends
returns-then-served-clause-ends g c = λ files inputs bare all.
    let e = c.serve_hall-served.ensures in
    serves_until c.args.port c.args.connections c.args.sessions.now files inputs (kept g.K.Counted g.K.Keeper c.args.keeper.now) (kept g.K.Counted g.K.Keeper c.begin.new.self)
    (kept g.K.Counted g.K.Keeper c.serve_hall-served.new.keeper) (seen g.H.Counted c.args.hall.now) (seen g.H.Counted c.listen.new.self) (seen g.H.Counted c.serve_hall-served.new.hall)
    (seen g.S.Counted c.args.out.now) (seen g.S.Counted c.put.new.out) c.args.desk.now c.serve_hall-served.new.desk c.args.reads.now c.serve_hall-served.new.reads
    c.serve_hall-served.result.count c.put.result bare all
    (record {
      opened = record {
        texts = c.in-Ok.ensures.ok;
        calm = c.in-Ok.ensures.kept (λ f. cc);
        returned = c.in-Ok.ensures.returned;
        sure = λ s. (c.in-Ok.ensures.sure s).1;
        place = c.listen.ensures.place;
        written = c.listen.ensures.written;
        higher = c.listen.ensures.cause.later;
      };
      returned = e.begun;
      later = e.later;
      higher = e.higher;
      given = e.given;
      most = e.most;
      serves = e.serves;
    }) (sym c.is_err-2.ensures.value ∙ c.if-is_err-2.false) (writes_as c.port_line.ensures c.put.ensures) (e.failed c.if-served.true) (e.called c.if-served.true)
    (λ s. let (calm, more) = e.steady (c.listen.ensures.sure s).1 in cc (calm, c.if-served.true))

pub returns-in-Ok-put-clause-ends : goal.returns-in-Ok-put-clause-ends
returns-in-Ok-put-clause-ends g c = λ files inputs bare all.
    let e = c.serve_hall-served.ensures in
    serves_out c.args.port c.args.connections c.args.sessions.now files inputs (kept g.K.Counted g.K.Keeper c.args.keeper.now) (kept g.K.Counted g.K.Keeper c.begin.new.self)
    (kept g.K.Counted g.K.Keeper c.serve_hall-served.new.keeper) (seen g.H.Counted c.args.hall.now) (seen g.H.Counted c.listen.new.self) (seen g.H.Counted c.serve_hall-served.new.hall)
    (seen g.S.Counted c.args.out.now) (seen g.S.Counted c.put.new.out) (seen g.S.Counted c.put-2.new.out) c.args.desk.now c.serve_hall-served.new.desk c.args.reads.now
    c.serve_hall-served.new.reads c.serve_hall-served.result.count c.put.result _ bare all
    (record {
      opened = record {
        texts = c.in-Ok.ensures.ok;
        calm = c.in-Ok.ensures.kept (λ f. cc);
        returned = c.in-Ok.ensures.returned;
        sure = λ s. (c.in-Ok.ensures.sure s).1;
        place = c.listen.ensures.place;
        written = c.listen.ensures.written;
        higher = c.listen.ensures.cause.later;
      };
      returned = e.begun;
      later = e.later;
      higher = e.higher;
      given = e.given;
      most = e.most;
      serves = e.serves;
    }) (sym c.is_err-2.ensures.value ∙ c.if-is_err-2.false) (writes_as c.port_line.ensures c.put.ensures) (writes_as c.count_line.ensures c.in-Ok-put.ensures) (e.over c.if-served.false)

pub returns-in-Err-clause-ends : goal.returns-in-Err-clause-ends
returns-in-Err-clause-ends g c = λ files inputs bare all.
    let e = c.serve_hall-served.ensures in
    counts_not c.args.port c.args.connections c.args.sessions.now files inputs (kept g.K.Counted g.K.Keeper c.args.keeper.now) (kept g.K.Counted g.K.Keeper c.begin.new.self)
    (kept g.K.Counted g.K.Keeper c.serve_hall-served.new.keeper) (seen g.H.Counted c.args.hall.now) (seen g.H.Counted c.listen.new.self) (seen g.H.Counted c.serve_hall-served.new.hall)
    (seen g.S.Counted c.args.out.now) (seen g.S.Counted c.put.new.out) (seen g.S.Counted c.put-2.new.out) c.args.desk.now c.serve_hall-served.new.desk c.args.reads.now
    c.serve_hall-served.new.reads c.serve_hall-served.result.count c.put.result _ bare all
    (record {
      opened = record {
        texts = c.in-Ok.ensures.ok;
        calm = c.in-Ok.ensures.kept (λ f. cc);
        returned = c.in-Ok.ensures.returned;
        sure = λ s. (c.in-Ok.ensures.sure s).1;
        place = c.listen.ensures.place;
        written = c.listen.ensures.written;
        higher = c.listen.ensures.cause.later;
      };
      returned = e.begun;
      later = e.later;
      higher = e.higher;
      given = e.given;
      most = e.most;
      serves = e.serves;
    }) (sym c.is_err-2.ensures.value ∙ c.if-is_err-2.false) (writes_as c.port_line.ensures c.put.ensures) (writes_as c.count_line.ensures c.in-Err.ensures)
