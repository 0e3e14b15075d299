use Rattle.std.proofs.Common.{[], Err, refl, arith}
use Rattle.prof_io.specs.Outside.{seen}
use Rattle.prof_writer.proofs.Outputs.{writes_none}
use Rattle.prof_script.specs.declared.playing.PlayEnd.TheVariants as play_end
use Rattle.prof_desk.specs.declared.words.Order.TheVariants.{Markers}
use Rattle.prof_desk.specs.Inputs.{profile_input}
use Rattle.prof_desk.specs.Orders.{a_profile}
use Rattle.prof_desk.specs.Output.{markers_replies}
use Rattle.prof_desk.specs.Ran.{outside}
use Rattle.prof_desk.proofs.Carrying.{answers_one, first_stops}
use Rattle.prof_desk.proofs.desk.markers_of.Goals as goal

pub returns-in-Err : goal.returns-in-Err
returns-in-Err g c =
    let old = outside g.F.Counted g.S.Counted c.args.files.now c.args.out.now c.args.reads.now in
    rw c.stopped.ensures (first_stops (Markers c.args.name.now c.args.thread c.args.search.now) old (seen g.F.Counted c.read_named.new.files) profile_input a_profile c.args.name.now c.in-Err.stop refl c.in-Err.ensures)

pub returns-in_default : goal.returns-in_default
returns-in_default g c =
    let old = outside g.F.Counted g.S.Counted c.args.files.now c.args.out.now c.args.reads.now in
    let read = c.in-Ok.read in
    rw c.ended.ensures (answers_one (Markers c.args.name.now c.args.thread c.args.search.now) old (seen g.F.Counted c.read_named.new.files) old.out old.reads 0
    profile_input a_profile c.args.name.now read (Err play_end.NoMemory) refl refl refl c.in-Ok.ensures ([], markers_replies read.0.threads c.args.thread c.args.search.now, refl, writes_none old.out) (omega arith) (omega arith) tt)

pub returns : goal.returns
returns g c =
    let old = outside g.F.Counted g.S.Counted c.args.files.now c.args.out.now c.args.reads.now in
    let read = c.in-Ok.read in
    let both = c.write_markers-played.ensures read.0 read.1 c.in-Ok-desk_of.ensures in
    rw (c.ended-2.ensures, c.status_of.ensures) (answers_one (Markers c.args.name.now c.args.thread c.args.search.now) old (seen g.F.Counted c.read_named.new.files) (seen g.S.Counted c.write_markers-played.new.out) c.write_markers-played.new.reads 0
    profile_input a_profile c.args.name.now read c.write_markers-played.result refl refl refl c.in-Ok.ensures both.0 (omega (arith, both.1)) (omega arith) tt)
