use Rattle.std.proofs.Common.{[], ◌∷◌, arith, refl, subst}
use Rattle.prof_io.specs.Outside.{kept, seen}
use Rattle.prof_desk.specs.declared.status.Status.TheVariants as status
use Rattle.prof_desk.specs.declared.words.Order.TheVariants.{Script}
use Rattle.prof_desk.specs.Inputs.{of_script, profile_input}
use Rattle.prof_desk.specs.Ran.{EndsKeeping, outside}
use Rattle.prof_desk.proofs.Scripts.{ends_script, script_input, starves_to_begin, stops_first, stops_second}
use Rattle.prof_desk.proofs.desk.script_of.Goals as goal

pub returns-in-Err : goal.returns-in-Err
returns-in-Err g c =
    let old = outside g.F.Counted g.S.Counted c.args.files.now c.args.out.now c.args.reads.now in
    rw c.stopped.ensures (stops_first c.args.name.now c.args.script.now old (seen g.F.Counted c.read_named.new.files) (kept g.K.Counted g.K.Keeper c.args.keeper.now) profile_input c.in-Err.stop c.in-Err.ensures)

pub returns-in-Err-read_script : goal.returns-in-Err-read_script
returns-in-Err-read_script g c =
    let old = outside g.F.Counted g.S.Counted c.args.files.now c.args.out.now c.args.reads.now in
    rw c.stopped-in-Err-read_script.ensures (stops_second c.args.name.now c.args.script.now old (seen g.F.Counted c.read_named.new.files) (kept g.K.Counted g.K.Keeper c.args.keeper.now) _
    (seen g.F.Counted c.read_script.new.files) script_input c.in-Err-read_script.stop c.in-Ok.ensures c.in-Err-read_script.ensures)

pub returns-in_default : goal.returns-in_default
returns-in_default g c =
    let old = outside g.F.Counted g.S.Counted c.args.files.now c.args.out.now c.args.reads.now in
    let k = kept g.K.Counted g.K.Keeper c.args.keeper.now in
    let read = c.in-Ok.read in
    rw c.ended.ensures (ends_script c.args.name.now c.args.script.now old (seen g.F.Counted c.read_named.new.files) k read (seen g.F.Counted c.read_script.new.files) old.out
    c.in-Ok-read_script.lines old.reads k status.NoMemory c.in-Ok.ensures c.in-Ok-read_script.ensures
    (starves_to_begin read.0 read.1 c.in-Ok-read_script.lines.items read.2 c.args.name.now c.args.script.now k k old.out old.reads (omega arith) refl) refl (λ f. cc) (λ f. cc))

pub returns : goal.returns
returns g c =
    let old = outside g.F.Counted g.S.Counted c.args.files.now c.args.out.now c.args.reads.now in
    let k = kept g.K.Counted g.K.Keeper c.args.keeper.now in
    let l = kept g.K.Counted g.K.Keeper c.play_begun.new.keeper in
    let read = c.in-Ok.read in
    let out = seen g.S.Counted c.play_begun.new.out in
    let rows = c.play_begun.new.reads in
    let lines = c.in-Ok-read_script.lines in
    let ends = c.play_begun.ensures.ends read.0 read.1 read.2 c.args.name.now c.args.script.now c.in-Ok-desk_of.ensures in
    rw c.ended-2.ensures (ends_script c.args.name.now c.args.script.now old (seen g.F.Counted c.read_named.new.files) k read (seen g.F.Counted c.read_script.new.files) out lines rows l
    c.play_begun.result c.in-Ok.ensures c.in-Ok-read_script.ensures
    (subst (λ t. EndsKeeping (Script c.args.name.now c.args.script.now) (profile_input read ∷ of_script t ∷ []) old.out out old.reads rows k l c.play_begun.result) c.deref.ensures.value ends)
    c.play_begun.ensures.can c.play_begun.ensures.accepted.0 c.play_begun.ensures.accepted.1)
