use Rattle.std.proofs.Common.{◌<◌, ◌≤◌, sym, arith, length}
use Rattle.prof_raw.specs.declared.limits.TheConstants.{MOST_THREADS}
use Rattle.prof_grammar.specs.Value.{Value}
use Rattle.prof_gather.specs.Taking.{ReadsOn, TakesItem}
use Rattle.prof_gather.proofs.Behind.{on_ok_map}
use Rattle.prof_gather.proofs.Turnings.{object_behind}
use Rattle.prof_schema.proofs.Slots.{takes_item}
use Rattle.prof_schema.proofs.Begun.{not_object}
use Rattle.prof_processes.specs.Processes.{AreThreadsOf}
use Rattle.prof_processes.proofs.Options.{or_none}
use Rattle.prof_processes.proofs.ThreadLists.{threads_full, thread_added}
use Rattle.prof_processes.proofs.list.ThreadListFromItems.take_item.Goals as goal

pub returns-in_ok-push-in-ObjectStart-clause-item : goal.returns-in_ok-push-in-ObjectStart-clause-item
returns-in_ok-push-in-ObjectStart-clause-item g c =
    let read = c.in_ok-members-in-ObjectStart.ensures.members in
    let begun = rw c.in-ObjectStart.is at c.requires in
    let few : length c.args.self.now.threads.items ≤ MOST_THREADS = let l = c.len.ensures in let t = c.if-len.false in omega arith in
    takes_item _ _ _ _ _ (Value.object read.0) (object_behind c.args.feed.now c.members.new.feed read.0 begun.2 read.1)
    (thread_added c.args.self.now _ (Value.object read.0) _ few c.in_ok-push-in-ObjectStart.ensures.items (c.in_ok-thread-in-ObjectStart.ensures read.0 read.2) (sym (or_none c.args.self.now.bad)))

pub returns-then-len-clause-item : goal.returns-then-len-clause-item
returns-then-len-clause-item g c =
    let many : MOST_THREADS < length c.args.self.now.threads.items = let l = c.len.ensures in let t = c.if-len.true in omega arith in
    on_ok_map {P = (v : Value) × ReadsOn c.args.feed.now c.skip_behind.new.feed v} {Q = TakesItem (λ a vs b. AreThreadsOf a vs b) c.args.feed.now c.skip_behind.new.feed c.args.self.now c.args.self.now}
    c.skip_behind.result (λ k. takes_item _ _ _ _ _ k.0 k.1 (threads_full c.args.self.now many k.0)) c.skip_behind.ensures.value

pub returns-in_ok-add_other-in_default-clause-item : goal.returns-in_ok-add_other-in_default-clause-item
returns-in_ok-add_other-in_default-clause-item g c =
    let read = c.in_ok-skip_behind-in_default.ensures.value in
    let other = not_object c.args.first c.args.feed.now read.0 c.requires c.in_default.not-ObjectStart read.1.begins in
    takes_item _ _ _ _ _ read.0 read.1 (c.in_ok-add_other-in_default.ensures read.0 other)
