use Rattle.std.proofs.Common.{refl, sym}
use Rattle.prof_grammar.specs.Value.{Value, no_members}
use Rattle.prof_gather.proofs.Turnings.{object_behind}
use Rattle.prof_members.proofs.MoreItems.{any_thread}
use Rattle.prof_processes.proofs.ThreadLists.{other_cells}
use Rattle.prof_schema.proofs.Begun.{not_object}
use Rattle.prof_schema.proofs.Slots.{takes_item}
use Rattle.prof_either.proofs.threads.ThreadListsFromItems.take_item.Goals as goal

pub returns-in_ok-add-in-ObjectStart-clause-item : goal.returns-in_ok-add-in-ObjectStart-clause-item
returns-in_ok-add-in-ObjectStart-clause-item g c =
    let read = c.in_ok-thread-in-ObjectStart.ensures.members in
    let begun = rw c.in-ObjectStart.is at c.requires in
    takes_item _ _ _ _ _ (Value.object read.0) (object_behind c.args.feed.now c.members.new.feed read.0 begun.2 read.1)
    (c.in_ok-add-in-ObjectStart.ensures (Value.object read.0) refl
    (record { named = read.2.named; rows = record { members = read.0; are = read.2.rows; same = refl } }))

pub returns-in_ok-add-in_default-clause-item : goal.returns-in_ok-add-in_default-clause-item
returns-in_ok-add-in_default-clause-item g c =
    let read = c.in_ok-skip_behind-in_default.ensures.value in
    let other = not_object c.args.first c.args.feed.now read.0 c.requires c.in_default.not-ObjectStart read.1.begins in
    takes_item _ _ _ _ _ read.0 read.1
    (c.in_ok-add-in_default.ensures read.0 (sym other)
    (record { named = any_thread read.0 _ other; rows = record { members = no_members; are = c.in_ok-none.ensures.rows; same = other_cells read.0 other } }))
