use Rattle.std.proofs.Common.{◌≡◌, ◌≢◌, ◌≤◌, ◌<◌, ◌∙◌, refl, sym, ap, subst, arith, inl, inr}
use Rattle.std.specs.Prelude.{codes, is_some, true}
use Rattle.prof_grammar.specs.Value.{Value}
use Rattle.prof_json.specs.declared.answer.Event.TheVariants as event
use Rattle.prof_gather.specs.Feeding.{Gives, IsWithin, Finishes, in_array, in_object, in_member}
use Rattle.prof_gather.proofs.Nests.{Opens, item_opens, member_opens, member_named}
use Rattle.prof_gather.specs.Taking.{ReadsOn, TakesItem}
use Rattle.prof_gather.proofs.Behind.{on_ok_map, if_ok_map, member_passes, value_reads}
use Rattle.prof_gather.proofs.Turnings.{no_member, one_member, object_behind, array_behind, reads_on}
use Rattle.prof_schema.proofs.Slots.{takes, takes_item}
use Rattle.prof_schema.proofs.Begun.{not_object}
use Rattle.prof_processes.specs.Named.{process_name}
use Rattle.prof_processes.specs.Processes.{AreProcessMembers, AreChildrenOf}
use Rattle.prof_processes.specs.declared.process.ProcessMember.TheVariants as member
use Rattle.prof_processes.proofs.Begun.{not_array}
use Rattle.prof_processes.proofs.ChildLists.{no_child, one_child, children_end, children_behind, other_listed}
use Rattle.prof_processes.proofs.ProcessSlots.{process_more}
use Rattle.prof_processes.proofs.process.+reading.Goals as goal

pub read_process-members-init : goal.read_process-members-init
read_process-members-init g t c = record { frames = refl; room = omega arith; taken = no_member (λ ms p. AreProcessMembers ms p) c.args.feed.now _ c.none-found.ensures }

pub read_process-members-preserved : goal.read_process-members-preserved
read_process-members-preserved g t c =
    let so_far = c.members.invariant in
    let named = c.next.new.self in
    let new = c.member.new.feed in
    let gives : Gives c.members.feed event.Name named = subst (λ e. Gives c.members.feed e named) c.in-Name.is c.in_ok-event.ensures.ok in
    let within : IsWithin in_object c.members.feed = record { outer = c.requires.within.outer; frames = so_far.frames ∙ c.requires.within.frames } in
    let behind = member_named c.members.feed named within gives in
    let passes = c.in_ok-member-in-Name.ensures.ok in
    let less : named.room < c.members.feed.room = behind.2 in
    let then : new.room < named.room = passes.room in
    record {
      frames = passes.frames in_member c.members.feed.frames behind.0 ∙ so_far.frames;
      room = omega (arith, so_far.room, less, then);
      taken = one_member (λ ms p. AreProcessMembers ms p) c.args.feed.now c.members.feed named new c.members.found c.member.new.found so_far.taken gives c.in_ok-member-in-Name.ensures.member;
    }

pub child_items-items-init : goal.child_items-items-init
child_items-items-init g t c = record { frames = refl; room = omega arith; taken = no_child c.args.feed.now _ c.none-list.ensures }

pub child_items-items-preserved : goal.child_items-items-preserved
child_items-items-preserved g t c =
    let so_far = c.items.invariant in
    let begun = c.next.new.self in
    let new = c.child.new.feed in
    let first = c.in_ok-event.event in
    let gives : Gives c.items.feed first begun = c.in_ok-event.ensures.ok in
    let within : IsWithin in_array c.items.feed = record { outer = c.requires.within.outer; frames = so_far.frames ∙ c.requires.within.frames } in
    let not_end : first ≢ event.ArrayEnd = c.in_default.not-ArrayEnd in
    let not_over : first ≢ event.End = c.in_default.not-End in
    let opens : Opens first c.items.feed.frames c.items.feed begun = item_opens first c.items.feed begun within not_end gives in
    let finishes : Finishes first begun new = c.in_ok-child-in_default.ensures.ok in
    let less : begun.room < c.items.feed.room = opens.room in
    let then : new.room ≤ begun.room = finishes.room in
    record {
      frames = finishes.frames ∙ opens.outside ∙ so_far.frames;
      room = omega (arith, so_far.room, less, then);
      taken = one_child c.args.feed.now c.items.feed begun new first c.items.list c.child.new.list not_over so_far.taken gives c.in_ok-child-in_default.ensures.item;
    }

pub member-returns-in_ok-found-in-Some-Meta-clause-member : goal.member-returns-in_ok-found-in-Some-Meta-clause-member
member-returns-in_ok-found-in-Some-Meta-clause-member g t c =
    let read = c.in_ok-found-in-Some-Meta.ensures.value in
    takes _ _ _ _ _ c.name.result.now (codes "meta") c.name.ensures (c.in-Some-Meta.ensures.some ∙ ap process_name c.in-Some-Meta.field-0-is) read.0 read.1
    (process_more (codes "meta") read.0 _ _ (inl (refl, read.2)) (inr (refl, refl)) (inr (refl, refl)) (inr (refl, refl)))

pub member-returns-in_ok-found-in-Some-Libs-clause-member : goal.member-returns-in_ok-found-in-Some-Libs-clause-member
member-returns-in_ok-found-in-Some-Libs-clause-member g t c =
    let read = c.in_ok-found-in-Some-Libs.ensures.list in
    takes _ _ _ _ _ c.name.result.now (codes "libs") c.name.ensures (c.in-Some-Libs.ensures.some ∙ ap process_name c.in-Some-Libs.field-0-is) read.0 read.1
    (process_more (codes "libs") read.0 _ _ (inr (refl, refl)) (inl (refl, read.2)) (inr (refl, refl)) (inr (refl, refl)))

pub member-returns-in_ok-found-in-Some-Threads-clause-member : goal.member-returns-in_ok-found-in-Some-Threads-clause-member
member-returns-in_ok-found-in-Some-Threads-clause-member g t c =
    let read = c.in_ok-found-in-Some-Threads.ensures.list in
    takes _ _ _ _ _ c.name.result.now (codes "threads") c.name.ensures (c.in-Some-Threads.ensures.some ∙ ap process_name c.in-Some-Threads.field-0-is) read.0 read.1
    (process_more (codes "threads") read.0 _ _ (inr (refl, refl)) (inr (refl, refl)) (inl (refl, read.2)) (inr (refl, refl)))

pub member-returns-in_ok-found-in-Some-Processes-clause-member : goal.member-returns-in_ok-found-in-Some-Processes-clause-member
member-returns-in_ok-found-in-Some-Processes-clause-member g t c =
    let read = c.in_ok-found-in-Some-Processes.ensures.children in
    takes _ _ _ _ _ c.name.result.now (codes "processes") c.name.ensures (c.in-Some-Processes.ensures.some ∙ ap process_name c.in-Some-Processes.field-0-is) read.0 read.1
    (process_more (codes "processes") read.0 _ _ (inr (refl, refl)) (inr (refl, refl)) (inr (refl, refl)) (inl (refl, read.2)))

pub member-returns-in_ok-skip_member-in-None-clause-member : goal.member-returns-in_ok-skip_member-in-None-clause-member
member-returns-in_ok-skip_member-in-None-clause-member g t c =
    let read = c.in_ok-skip_member-in-None.ensures.value in
    let other = c.in-None.ensures.none in
    takes _ _ _ _ _ c.name.result.now c.name.result.now c.name.ensures refl read.0 read.1
    (process_more c.name.result.now read.0 _ _ (inr (other member.Meta, refl)) (inr (other member.Libs, refl)) (inr (other member.Threads, refl)) (inr (other member.Processes, refl)))

pub child-returns-then-is_some-clause-item : goal.child-returns-then-is_some-clause-item
child-returns-then-is_some-clause-item g t c =
    let broken : is_some c.args.list.now.fault ≡ true = sym c.is_some.ensures ∙ c.if-is_some.true in
    on_ok_map {P = (v : Value) × ReadsOn c.args.feed.now c.skip_behind.new.feed v} {Q = TakesItem (λ a vs b. AreChildrenOf a vs b) c.args.feed.now c.skip_behind.new.feed c.args.list.now c.args.list.now}
    c.skip_behind.result (λ k. takes_item _ _ _ _ _ k.0 k.1 (children_behind c.args.list.now broken k.0)) c.skip_behind.ensures.value

pub child-returns-in_ok-add-in-ObjectStart-clause-item : goal.child-returns-in_ok-add-in-ObjectStart-clause-item
child-returns-in_ok-add-in-ObjectStart-clause-item g t c =
    let read = c.in_ok-process-in-ObjectStart.ensures.process in
    let begun = rw c.in-ObjectStart.is at c.requires in
    takes_item _ _ _ _ _ (Value.object read.0) (object_behind c.args.feed.now c.read_process.new.feed read.0 begun.2 read.1)
    (c.in_ok-add-in-ObjectStart.ensures read.0 read.2)

pub child-returns-in_ok-pass-in_default : goal.child-returns-in_ok-pass-in_default
child-returns-in_ok-pass-in_default g t c =
    let read = c.in_ok-skip_behind-in_default.ensures.value in
    let other = not_object c.args.first c.args.feed.now read.0 c.requires c.in_default.not-ObjectStart read.1.begins in
    record {
      ok = c.in_ok-skip_behind-in_default.ensures.ok;
      item = takes_item _ _ _ _ _ read.0 read.1 (c.in_ok-pass-in_default.ensures read.0 other (c.is_null.ensures c.args.feed.now read.0 c.requires read.1.begins));
      err = tt;
    }

pub child_items-returns-in-ArrayEnd-clause-items : goal.child_items-returns-in-ArrayEnd-clause-items
child_items-returns-in-ArrayEnd-clause-items g t c =
    let over = c.next.new.self in
    let gives : Gives c.items.feed event.ArrayEnd over = subst (λ e. Gives c.items.feed e over) c.in-ArrayEnd.is c.in_ok-event.ensures.ok in
    children_end c.args.feed.now c.items.feed over c.items.list c.items.invariant.taken gives

pub child_list-returns-in-ArrayStart-clause-children : goal.child_list-returns-in-ArrayStart-clause-children
child_list-returns-in-ArrayStart-clause-children g t c =
    let begun = c.next.new.self in
    let new = c.child_items.new.feed in
    let gives : Gives c.args.feed.now event.ArrayStart begun = subst (λ e. Gives c.args.feed.now e begun) c.in-ArrayStart.is c.in_ok-first.ensures.ok in
    if_ok_map c.child_items.result (λ list read. (Value.array read.0, reads_on event.ArrayStart c.args.feed.now begun new (Value.array read.0) (λ h. cc) gives (array_behind begun new read.0 gives.last read.1), read.2)) c.child_items.ensures.items

pub child_list-returns-in_ok-skip_behind-in_default : goal.child_list-returns-in_ok-skip_behind-in_default
child_list-returns-in_ok-skip_behind-in_default g t c =
    let begun = c.next.new.self in
    let new = c.skip_behind.new.feed in
    let first = c.in_ok-first.first in
    let gives : Gives c.args.feed.now first begun = c.in_ok-first.ensures.ok in
    let opens : Opens first c.requires.outer c.args.feed.now begun = member_opens first c.args.feed.now begun c.requires gives in
    let read = c.in_ok-skip_behind-in_default.ensures.value in
    record {
      ok = member_passes first c.args.feed.now begun new c.requires opens c.in_ok-skip_behind-in_default.ensures.ok;
      children = (read.0, value_reads first c.args.feed.now begun new c.requires.outer read.0 opens gives read.1, other_listed read.0 c.other.result (not_array first begun read.0 opens.begun c.in_default.not-ArrayStart read.1.begins) c.other.ensures.list c.other.ensures.fault);
      err = tt;
    }
