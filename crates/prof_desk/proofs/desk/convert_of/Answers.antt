use Rattle.std.proofs.Common.{arith, refl}
use Rattle.prof_io.specs.Outside.{seen}
use Rattle.prof_desk.specs.declared.words.Order.TheVariants.{Convert}
use Rattle.prof_desk.specs.Inputs.{profile_input}
use Rattle.prof_desk.specs.Orders.{a_profile}
use Rattle.prof_desk.specs.Ran.{outside}
use Rattle.prof_desk.proofs.Carrying.{answers_one, first_stops}
use Rattle.prof_desk.proofs.desk.convert_of.Goals as goal

pub returns-in-Err : goal.returns-in-Err
returns-in-Err g c =
    let old = outside g.F.Counted g.S.Counted c.args.files.now c.args.out.now c.args.reads.now in
    rw c.stopped.ensures (first_stops (Convert c.args.name.now) old (seen g.F.Counted c.read_named.new.files) profile_input a_profile c.args.name.now c.in-Err.stop refl c.in-Err.ensures)

pub returns : goal.returns
returns g c =
    let old = outside g.F.Counted g.S.Counted c.args.files.now c.args.out.now c.args.reads.now in
    rw (c.ended.ensures, c.status_of.ensures) (answers_one (Convert c.args.name.now) old (seen g.F.Counted c.read_named.new.files) (seen g.S.Counted c.write_converted.new.out) c.write_converted.new.reads _
    profile_input a_profile c.args.name.now _ c.write_converted.result refl refl refl c.in-Ok.ensures c.write_converted.ensures.written c.write_converted.ensures.readings (omega arith) tt)
