use Rattle.std.proofs.Common.{◌≡◌, ℕ, ◌+◌, [], ◌∷◌, ◌++◌, length, map, drop, sym, ◌∙◌, ap, subst, arith}
use Rattle.std.proofs.lemmas.Iterator.Adapters.{YieldsList-from_vec}
use Rattle.std.proofs.lemmas.Iterator.Consumers.{YieldsList-turn, YieldsList-end}
use Rattle.std.proofs.lemmas.List.{length_push, length-map}
use Rattle.prof_tables.specs.Threads.{ThreadTables}
use Rattle.prof_gecko.specs.Gathered.{GeckoCells}
use Rattle.prof_gecko.specs.Columns.{shift_of}
use Rattle.prof_gecko.specs.Converted.{gecko_thread}
use Rattle.prof_gecko.specs.Checks.{gecko_thread_broken}
use Rattle.prof_gecko.specs.Processes.{ThreadHasRanges, first_thread}
use Rattle.prof_gecko.proofs.Adding.{front, none_left, grown}
use Rattle.prof_gecko.proofs.Refusing.{names-on}
use Rattle.prof_gecko.proofs.Walking.{added_none, added_more, added_fails, added_all}
use Rattle.prof_gecko.proofs.process.add_threads.Goals as goal

pub loop-cells-init : goal.loop-cells-init
loop-cells-init c = record {
  count = omega arith;
  most = (let few = c.requires.few in omega arith);
  added = added_none _ _ _ _;
}

pub build_thread-requires : goal.build_thread-requires
build_thread-requires c =
    let made = c.into_iter-cells-iterator.ensures.into_iter_gives in
    let turn = YieldsList-turn (YieldsList-from_vec c.args.gathered.items made.0 (made.1 ∙ c.args.gathered.ok.0)) c.loop-cells.yielded c.loop-cells.cells-iterator c.loop-cells.yielded_by c.next.result c.next.new.self c.in-Some.cells c.in-Some.is c.next.ensures.steps in
    record {
      default = c.requires.default;
      ranges = subst ThreadHasRanges (sym turn.1) (c.requires.ranges (length c.loop-cells.yielded) c.in-Some.cells turn.0);
    }

pub loop-cells-preserved : goal.loop-cells-preserved
loop-cells-preserved c =
    let inv = c.loop-cells.invariant in
    let made = c.into_iter-cells-iterator.ensures.into_iter_gives in
    let turn = YieldsList-turn (YieldsList-from_vec c.args.gathered.items made.0 (made.1 ∙ c.args.gathered.ok.0)) c.loop-cells.yielded c.loop-cells.cells-iterator c.loop-cells.yielded_by c.next.result c.next.new.self c.in-Some.cells c.in-Some.is c.next.ensures.steps in
    let one = length_push c.loop-cells.yielded c.in-Some.cells in
    let there = c.args.gathered.ok.0 in
    let pushed = c.in_ok-push.ensures.len in
    let few = c.requires.few in
    let x = c.in-Some.cells in
    let n = length c.loop-cells.yielded in
    let all = c.args.gathered.items in
    let old = c.loop-cells.threads.items in
    let fails = λ (k : ℕ) (g : GeckoCells). gecko_thread_broken k c.args.common.categories c.args.libs.now (shift_of c.args.shift) g in
    let at : c.len-number.result ≡ length (map (λ t. t.value) old) = c.len-number.ensures ∙ c.loop-cells.threads.ok.0 ∙ sym (length-map old (λ t. t.value)) in
    record {
      count = omega (arith, inv.count);
      most = omega (arith, inv.count, turn.0);
      added = added_more fails (gecko_thread c.args.common.categories c.args.common.default c.args.libs.now (shift_of c.args.shift)) _ all (drop n all) (drop (length (c.loop-cells.yielded ++ x ∷ [])) all)
          (map (λ t. t.value) old) (map (λ t. t.value) c.push.new.self.items) x c.in_ok-thread-2.thread.value
          (front all n (length (c.loop-cells.yielded ++ x ∷ [])) x turn.0 turn.1 one)
          (grown (λ t. t.value) old c.push.new.self.items c.in_ok-thread-2.thread c.in_ok-push.ensures.items)
          (ap (λ k. fails k x) (sym at) ∙ c.in_ok-thread.ensures.0)
          (c.in_ok-thread-2.ensures.ok ∙ c.in_ok-thread.ensures.1)
          inv.added;
    }

pub returns-in_err-thread : goal.returns-in_err-thread
returns-in_err-thread c =
    let inv = c.loop-cells.invariant in
    let made = c.into_iter-cells-iterator.ensures.into_iter_gives in
    let turn = YieldsList-turn (YieldsList-from_vec c.args.gathered.items made.0 (made.1 ∙ c.args.gathered.ok.0)) c.loop-cells.yielded c.loop-cells.cells-iterator c.loop-cells.yielded_by c.next.result c.next.new.self c.in-Some.cells c.in-Some.is c.next.ensures.steps in
    let x = c.in-Some.cells in
    let n = length c.loop-cells.yielded in
    let all = c.args.gathered.items in
    let old = c.loop-cells.threads.items in
    let before = c.args.threads.now in
    let fails = λ (k : ℕ) (g : GeckoCells). gecko_thread_broken k c.args.common.categories c.args.libs.now (shift_of c.args.shift) g in
    let tables = gecko_thread c.args.common.categories c.args.common.default c.args.libs.now (shift_of c.args.shift) in
    let at : c.len-number.result ≡ length (map (λ t. t.value) old) = c.len-number.ensures ∙ c.loop-cells.threads.ok.0 ∙ sym (length-map old (λ t. t.value)) in
    let from = before.ok.0 ∙ sym (length-map before.items (λ t. t.value)) in
    names-on (λ (t : ThreadTables). t) _ c.in_err-thread.field-0.0 c.from_residual.result (fails c.len-number.result x) (first_thread fails _ all) (tables x) _
    c.in_err-thread.ensures
    (λ b e. ap (λ k. first_thread fails k all) from
    ∙ added_fails fails tables _ all (drop n all) (drop (n + 1) all) (map (λ t. t.value) old) x b (front all n (n + 1) x turn.0 turn.1 (omega arith)) (ap (λ k. fails k x) (sym at) ∙ e) inv.added)
    c.from_residual.ensures.1

pub returns : goal.returns
returns c =
    let made = c.into_iter-cells-iterator.ensures.into_iter_gives in
    let end = YieldsList-end (YieldsList-from_vec c.args.gathered.items made.0 (made.1 ∙ c.args.gathered.ok.0)) c.loop-cells.yielded c.loop-cells.cells-iterator c.loop-cells.yielded_by c.next.result c.next.new.self c.in-None.is c.next.ensures.steps in
    let all = c.args.gathered.items in
    let before = c.args.threads.now in
    let fails = λ (k : ℕ) (g : GeckoCells). gecko_thread_broken k c.args.common.categories c.args.libs.now (shift_of c.args.shift) g in
    let from = before.ok.0 ∙ sym (length-map before.items (λ t. t.value)) in
    let done = added_all fails _ _ all (drop (length c.loop-cells.yielded) all) _ (none_left all (length c.loop-cells.yielded) end.1) c.loop-cells.invariant.added in
    (ap (λ k. first_thread fails k all) from ∙ done.0, done.1)
