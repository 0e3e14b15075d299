use Rattle.prof_gather.specs.Feeding.{Finishes}
use Rattle.prof_gather.proofs.Nests.{Opens, member_opens}
use Rattle.prof_gather.proofs.Behind.{on_ok_map, if_ok_map, member_passes, value_reads}
use Rattle.prof_gather.proofs.objects.array.Goals as goal

pub array_behind-requires-clause-event : goal.array_behind-requires-clause-event
array_behind-requires-clause-event g c = (member_opens c.in_ok-first.first c.args.feed.now c.next.new.self c.requires.within c.in_ok-first.ensures.ok).begun

pub returns-clause-ok : goal.returns-clause-ok
returns-clause-ok g c =
    let opens = member_opens c.in_ok-first.first c.args.feed.now c.next.new.self c.requires.within c.in_ok-first.ensures.ok in
    on_ok_map c.array_behind.result (λ f. member_passes c.in_ok-first.first c.args.feed.now c.next.new.self c.array_behind.new.feed c.requires.within opens f) c.array_behind.ensures.ok

pub returns-clause-value : goal.returns-clause-value
returns-clause-value g c =
    let opens = member_opens c.in_ok-first.first c.args.feed.now c.next.new.self c.requires.within c.in_ok-first.ensures.ok in
    if_ok_map c.array_behind.result (λ found read. (read.0, value_reads c.in_ok-first.first c.args.feed.now c.next.new.self c.array_behind.new.feed c.requires.within.outer read.0 opens c.in_ok-first.ensures.ok read.1, read.2)) c.array_behind.ensures.value
