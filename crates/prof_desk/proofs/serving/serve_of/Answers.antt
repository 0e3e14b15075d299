use Rattle.std.proofs.Common.{◌≡◌, ◌<◌, ◌∙◌, None, get_or, length, ap, arith, sym, subst}
use Rattle.prof_io.specs.Named.{value_at}
use Rattle.prof_io.specs.Outside.{kept, seen}
use Rattle.prof_desk.proofs.Servings.{added_as, ends_reading, first_as, is_unnamed, item_at, none_read, one_more, reads_as, second_as, starves_first, starves_reading, stops_reading}
use Rattle.prof_desk.proofs.serving.serve_of.Goals as goal

pub returns-in_default : goal.returns-in_default
returns-in_default g c =
    rw c.ended.ensures (starves_first c.args.port c.args.connections c.args.sessions.now c.args.profiles.now (seen g.F.Counted c.args.files.now) (seen g.S.Counted c.args.out.now)
    c.args.reads.now (kept g.K.Counted g.K.Keeper c.args.keeper.now) (seen g.H.Counted c.args.hall.now))

pub returns-in_default-new : goal.returns-in_default-new
returns-in_default-new g c =
    rw c.ended-in_default-new.ensures (starves_first c.args.port c.args.connections c.args.sessions.now c.args.profiles.now (seen g.F.Counted c.args.files.now) (seen g.S.Counted c.args.out.now)
    c.args.reads.now (kept g.K.Counted g.K.Keeper c.args.keeper.now) (seen g.H.Counted c.args.hall.now))

pub loop-accepted-init : goal.loop-accepted-init
loop-accepted-init g c =
    none_read c.args.port c.args.connections c.args.sessions.now c.args.profiles.now (seen g.F.Counted c.args.files.now) (seen g.S.Counted c.args.out.now) c.args.reads.now
    c.new-desk.result c.new-desk.ensures

pub returns-in-Err : goal.returns-in-Err
returns-in-Err g c =
    let files = c.args.profiles.now in
    let at = c.loop-accepted.accepted in
    let slice : c.as_slice-named-items.result.now ≡ files = c.as_slice-named-items.ensures in
    let item = item_at c.as_slice-named-items.result.now files at c.named-item.result slice c.named-item.is in
    let name = second_as c.as_str.result.now c.named-item.result (get_or files at c.named-item.result) c.as_str.ensures item in
    rw c.stopped.ensures (stops_reading c.args.port c.args.connections c.args.sessions.now files (seen g.F.Counted c.args.files.now) (seen g.S.Counted c.args.out.now) c.args.reads.now
    (kept g.K.Counted g.K.Keeper c.args.keeper.now) (seen g.H.Counted c.args.hall.now) (seen g.F.Counted c.loop-accepted.files) (seen g.F.Counted c.read_named.new.files) c.loop-accepted.desk at
    c.named-item.result c.in-Err.stop c.loop-accepted.invariant (subst (λ l. at < length l) slice c.loop-accepted-test.true)
    (reads_as _ name c.in-Err.ensures))

pub add_profile-requires : goal.add_profile-requires
add_profile-requires g c =
    let files = c.args.profiles.now in
    let at = c.loop-accepted.accepted in
    let slice : c.as_slice-named-items.result.now ≡ files = c.as_slice-named-items.ensures in
    let item = item_at c.as_slice-named-items.result.now files at c.named-item.result slice c.named-item.is in
    let name = first_as c.as_str-in-loop-accepted.result.now c.named-item.result (get_or files at c.named-item.result) c.as_str-in-loop-accepted.ensures item in
    subst (λ n. value_at c.loop-accepted.desk.profiles n ≡ None) (sym name)
    (is_unnamed c.args.port c.args.connections c.args.sessions.now files (seen g.F.Counted c.args.files.now) (seen g.S.Counted c.args.out.now) c.args.reads.now
    (seen g.F.Counted c.loop-accepted.files) c.loop-accepted.desk at c.named-item.result c.loop-accepted.invariant c.keeps.ensures (subst (λ l. at < length l) slice c.loop-accepted-test.true))

pub returns-then-is_err : goal.returns-then-is_err
returns-then-is_err g c =
    let files = c.args.profiles.now in
    let at = c.loop-accepted.accepted in
    let slice : c.as_slice-named-items.result.now ≡ files = c.as_slice-named-items.ensures in
    let item = item_at c.as_slice-named-items.result.now files at c.named-item.result slice c.named-item.is in
    let name = second_as c.as_str.result.now c.named-item.result (get_or files at c.named-item.result) c.as_str.ensures item in
    rw c.ended-then-is_err.ensures (starves_reading c.args.port c.args.connections c.args.sessions.now files (seen g.F.Counted c.args.files.now) (seen g.S.Counted c.args.out.now) c.args.reads.now
    (kept g.K.Counted g.K.Keeper c.args.keeper.now) (seen g.H.Counted c.args.hall.now) (seen g.F.Counted c.loop-accepted.files) (seen g.F.Counted c.read_named.new.files) c.loop-accepted.desk at
    c.named-item.result c.in-Ok-read_named.read c.loop-accepted.invariant (subst (λ l. at < length l) slice c.loop-accepted-test.true)
    (reads_as _ name c.in-Ok-read_named.ensures))

pub loop-accepted-preserved : goal.loop-accepted-preserved
loop-accepted-preserved g c =
    let files = c.args.profiles.now in
    let at = c.loop-accepted.accepted in
    let slice : c.as_slice-named-items.result.now ≡ files = c.as_slice-named-items.ensures in
    let item = item_at c.as_slice-named-items.result.now files at c.named-item.result slice c.named-item.is in
    let file = second_as c.as_str.result.now c.named-item.result (get_or files at c.named-item.result) c.as_str.ensures item in
    let name = first_as c.as_str-in-loop-accepted.result.now c.named-item.result (get_or files at c.named-item.result) c.as_str-in-loop-accepted.ensures item in
    let desk = c.loop-accepted.desk in
    let read = c.in-Ok-read_named.read in
    one_more c.args.port c.args.connections c.args.sessions.now files (seen g.F.Counted c.args.files.now) (seen g.S.Counted c.args.out.now) c.args.reads.now
    (seen g.F.Counted c.loop-accepted.files) (seen g.F.Counted c.read_named.new.files) desk c.add_profile.new.self at c.named-item.result read c.loop-accepted.invariant
    (subst (λ l. at < length l) slice c.loop-accepted-test.true) (reads_as _ file c.in-Ok-read_named.ensures)
    (added_as c.add_profile.result desk c.add_profile.new.self c.as_str-in-loop-accepted.result.now _ (record { threads = read.0.threads; digest = read.1 })
    (sym c.is_err.ensures.value ∙ c.if-is_err.false) c.add_profile.ensures.ok name)

pub returns : goal.returns
returns g c =
    let files = c.args.profiles.now in
    let slice : c.as_slice-named-items.result.now ≡ files = c.as_slice-named-items.ensures in
    let all : c.loop-accepted.accepted ≡ length files = omega (arith, ap length slice, c.loop-accepted-test.false, c.loop-accepted.auto.accepted-end) in
    rw (c.ended-2.ensures, c.as_slice.ensures) (ends_reading c.args.port c.args.connections c.args.sessions.now files (seen g.F.Counted c.args.files.now) (seen g.S.Counted c.args.out.now) c.args.reads.now
    (kept g.K.Counted g.K.Keeper c.args.keeper.now) (kept g.K.Counted g.K.Keeper c.serve_begun-end.new.keeper) (seen g.H.Counted c.args.hall.now) (seen g.H.Counted c.serve_begun-end.new.hall)
    (seen g.F.Counted c.loop-accepted.files) (seen g.S.Counted c.serve_begun-end.new.out) c.loop-accepted.desk c.loop-accepted.accepted c.serve_begun-end.new.reads c.serve_begun-end.result
    c.loop-accepted.invariant all (c.serve_begun-end.ensures.ends files) c.serve_begun-end.ensures.can c.serve_begun-end.ensures.accepted.0 c.serve_begun-end.ensures.accepted.1)
