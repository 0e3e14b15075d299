use Rattle.std.proofs.Common.{◌≡◌, suc, [], ◌∷◌, ◌++◌, length, map, sym, subst, ◌∙◌, ap, arith}
use Rattle.std.proofs.lemmas.Iterator.Adapters.{YieldsList-from_vec}
use Rattle.std.proofs.lemmas.Iterator.Consumers.{YieldsList-turn, YieldsList-end}
use Rattle.std.proofs.lemmas.List.{length_push, map-append}
use Rattle.std.specs.declared.rc.Rc.{Rc}
use Rattle.std.specs.declared.alloc.Global.{Global}
use Rattle.prof_grammar.specs.Value.{Value}
use Rattle.prof_tables.specs.declared.thread.Thread.{Thread}
use Rattle.prof_tables.specs.Profiles.{CountsIn}
use Rattle.prof_tables.specs.Threads.{ThreadTables}
use Rattle.prof_layout.specs.Profile.{thread_fails, thread_tables, first_thread}
use Rattle.prof_read.proofs.Built.{all_more}
use Rattle.prof_read.proofs.Listing.{row_at, built_none, built_more, built_fails, built_all}
use Rattle.prof_read.proofs.Refusing.{no_memory, names-on}
use Rattle.prof_read.proofs.building.threads_of.Goals as goal

pub loop-parts-init : goal.loop-parts-init
loop-parts-init c = rw c.new-built.ensures.items (record {
  count = c.new-built.ensures.len;
  most = (let e = c.new-built.ensures.len in omega arith);
  counts = λ k d below. absurd (omega arith);
  built = λ v vs stands fit are. built_none v vs;
})

pub loop-parts-preserved : goal.loop-parts-preserved
loop-parts-preserved c =
    let inv = c.loop-parts.invariant in
    let made = c.into_iter-parts-iterator.ensures.into_iter_gives in
    let turn = YieldsList-turn (YieldsList-from_vec c.args.threads.items made.0 (made.1 ∙ c.args.threads.ok.0)) c.loop-parts.yielded c.loop-parts.parts-iterator c.loop-parts.yielded_by c.next.result c.next.new.self c.in-Some.parts c.in-Some.is c.next.ensures.steps in
    let one = length_push c.loop-parts.yielded c.in-Some.parts in
    let there = c.args.threads.ok.0 in
    let pushed = c.in_ok-push.ensures.len in
    record {
      count = omega (arith, inv.count);
      most = omega (arith, inv.count, turn.0);
      counts = all_more (CountsIn c.args.categories c.args.default) (λ t. t.value) c.loop-parts.built.items c.push.new.self.items c.in_ok-thread-2.thread c.in_ok-push.ensures.items inv.counts
          (subst (CountsIn c.args.categories c.args.default) (sym c.in_ok-thread-2.ensures.ok) c.in_ok-thread.ensures.ok);
      built = λ v vs stands fit are.
          let row = row_at 0 vs c.args.threads.items (length c.loop-parts.yielded) c.in-Some.parts fit are turn.0 turn.1 in
          let thread = c.in_ok-thread.ensures.thread v row.members stands row.are in
          let at : c.len-number.result ≡ length c.loop-parts.yielded = c.len-number.ensures ∙ inv.count in
          let next : length (c.loop-parts.yielded ++ c.in-Some.parts ∷ []) ≡ suc (length c.loop-parts.yielded) = omega arith in
          rw (c.in_ok-push.ensures.items, map-append (λ (t : Rc Thread Global). t.value) c.loop-parts.built.items (c.in_ok-thread-2.thread ∷ []))
          (built_more v (length c.loop-parts.yielded) _ vs c.in-Some.parts (map (λ t. t.value) c.loop-parts.built.items) c.in_ok-thread-2.thread.value row next (inv.built v vs stands fit are)
          (ap (λ n. thread_fails v n (Value.object row.members)) (sym at) ∙ thread.0) (c.in_ok-thread-2.ensures.ok ∙ thread.1));
    }

pub returns-in_err-thread-clause-threads : goal.returns-in_err-thread-clause-threads
returns-in_err-thread-clause-threads c = λ v vs stands fit are.
    let inv = c.loop-parts.invariant in
    let made = c.into_iter-parts-iterator.ensures.into_iter_gives in
    let turn = YieldsList-turn (YieldsList-from_vec c.args.threads.items made.0 (made.1 ∙ c.args.threads.ok.0)) c.loop-parts.yielded c.loop-parts.parts-iterator c.loop-parts.yielded_by c.next.result c.next.new.self c.in-Some.parts c.in-Some.is c.next.ensures.steps in
    let row = row_at 0 vs c.args.threads.items (length c.loop-parts.yielded) c.in-Some.parts fit are turn.0 turn.1 in
    let at : c.len-number.result ≡ length c.loop-parts.yielded = c.len-number.ensures ∙ inv.count in
    let o = Value.object row.members in
    names-on (λ (t : ThreadTables). t ≡ thread_tables v o) _ c.in_err-thread.field-0.0 c.from_residual.result (thread_fails v c.len-number.result o) (first_thread (thread_fails v) 0 vs)
    (c.in_err-thread.ensures.thread v row.members stands row.are)
    (λ b e. built_fails v (length c.loop-parts.yielded) vs c.in-Some.parts (map (λ t. t.value) c.loop-parts.built.items) b row (inv.built v vs stands fit are) (ap (λ n. thread_fails v n o) (sym at) ∙ e))
    c.from_residual.ensures.1

pub returns-in_err-thread-2-clause-threads : goal.returns-in_err-thread-2-clause-threads
returns-in_err-thread-2-clause-threads c = λ v vs stands fit are. no_memory _ c.from_residual-in_err-thread-2.result _ c.from_residual-in_err-thread-2.ensures.1

pub returns-in_err-push-clause-threads : goal.returns-in_err-push-clause-threads
returns-in_err-push-clause-threads c = λ v vs stands fit are. no_memory _ c.from_residual-in_err-push.result _ c.from_residual-in_err-push.ensures.1

pub returns-clause-threads : goal.returns-clause-threads
returns-clause-threads c = λ v vs stands fit are.
    let made = c.into_iter-parts-iterator.ensures.into_iter_gives in
    let end = YieldsList-end (YieldsList-from_vec c.args.threads.items made.0 (made.1 ∙ c.args.threads.ok.0)) c.loop-parts.yielded c.loop-parts.parts-iterator c.loop-parts.yielded_by c.next.result c.next.new.self c.in-None.is c.next.ensures.steps in
    built_all v (length c.loop-parts.yielded) vs c.args.threads.items (map (λ t. t.value) c.loop-parts.built.items) end.1 are (c.loop-parts.invariant.built v vs stands fit are)
