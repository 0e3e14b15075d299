use Rattle.std.proofs.Common.{◌≡◌, ◌<◌, ◌≤◌, ◌∙◌, sym, ap, arith, Option, Some, None, Bool, ℕ, length}
use Rattle.prof_raw.specs.declared.limits.TheConstants.{MOST_THREADS}
use Rattle.std.specs.Prelude.{if◌then◌else◌}
use Rattle.std.specs.Option.{option_or}
use Rattle.prof_grammar.specs.Value.{Value}
use Rattle.prof_gather.specs.Taking.{ReadsOn, TakesItem}
use Rattle.prof_members.specs.Columns.{IsThreadListOf}
use Rattle.prof_members.proofs.Begun.{ok_more, takes_item, reads_object, not_object}
use Rattle.prof_members.proofs.MoreItems.{or-none, threads_full, threads_added, any_thread}
use Rattle.prof_members.proofs.threads.ThreadListFromItems.take_item.Goals as goal

pub returns-then-len-clause-item : goal.returns-then-len-clause-item
returns-then-len-clause-item g c =
    let many : MOST_THREADS < length c.args.self.now.threads.items = let l = c.len.ensures in let t = c.if-len.true in omega arith in
    ok_more ((v : Value) × ReadsOn c.args.feed.now c.skip_behind.new.feed v) (TakesItem (λ a vs b. IsThreadListOf a vs b) c.args.feed.now c.skip_behind.new.feed c.args.self.now c.args.self.now)
    (λ k. takes_item _ _ _ _ _ k.0 k.1 (threads_full c.args.self.now many k.0)) c.skip_behind.result c.skip_behind.ensures.value

pub returns-in_ok-push-in-ObjectStart-clause-item : goal.returns-in_ok-push-in-ObjectStart-clause-item
returns-in_ok-push-in-ObjectStart-clause-item g c =
    let read = c.in_ok-thread-in-ObjectStart.ensures.members in
    let begun = rw c.in-ObjectStart.is at c.requires in
    let few : length c.args.self.now.threads.items ≤ MOST_THREADS = let l = c.len.ensures in let t = c.if-len.false in omega arith in
    takes_item _ _ _ _ _ (Value.object read.0) (reads_object c.args.feed.now c.members.new.feed read.0 begun.2 read.1)
    (threads_added c.args.self.now _ (Value.object read.0) c.in_ok-thread-in-ObjectStart.thread few c.in_ok-push-in-ObjectStart.ensures.items read.2 (sym (or-none c.args.self.now.bad)))

pub returns-in_ok-push-in_default : goal.returns-in_ok-push-in_default
returns-in_ok-push-in_default g c =
    let read = c.in_ok-skip_behind-in_default.ensures.value in
    let few : length c.args.self.now.threads.items ≤ MOST_THREADS = let l = c.len.ensures in let t = c.if-len.false in omega arith in
    let other = not_object c.args.first c.args.feed.now read.0 c.requires c.in_default.not-ObjectStart read.1.begins in
    let row : c.len-in_default.result ≡ length c.args.self.now.threads.items = let l = c.len-in_default.ensures in omega arith in
    let bad =
    c.or-self.ensures
    ∙ ap (λ (n : ℕ). option_or c.args.self.now.bad (Some n)) row
    ∙ ap (λ (b : Bool). option_or c.args.self.now.bad (let o : Option ℕ = if b then None else Some (length c.args.self.now.threads.items) in o)) (sym other) in
    record {
      ok = c.in_ok-skip_behind-in_default.ensures.ok;
      item = takes_item _ _ _ _ _ read.0 read.1 (threads_added c.args.self.now _ read.0 c.none-in_default.result few c.in_ok-push-in_default.ensures.items (any_thread read.0 c.none-in_default.result other) bad);
      err = tt;
    }
