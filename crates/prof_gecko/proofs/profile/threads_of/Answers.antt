use Rattle.std.proofs.Common.{◌≡◌, suc, List, [], ◌∷◌, ◌++◌, length, map, sym, ◌∙◌, ap, arith}
use Rattle.std.proofs.lemmas.List.{length-map}
use Rattle.prof_tables.specs.Threads.{ThreadTables}
use Rattle.prof_gecko.specs.declared.work.Work.{Work}
use Rattle.prof_gecko.specs.declared.work.Work.TheVariants as work
use Rattle.prof_gecko.specs.Gathered.{Entry}
use Rattle.prof_gecko.specs.Work.{entries_left}
use Rattle.prof_gecko.specs.Processes.{process_broken, entries_broken}
use Rattle.prof_gecko.proofs.Refusing.{names, names-on}
use Rattle.prof_gecko.proofs.Walking.{no_items, next_opened, walked_none, walked_more, walked_fails, walked_ranges, walked_next, walked_all}
use Rattle.prof_gecko.proofs.profile.threads_of.Goals as goal

pub walk-init : goal.walk-init
walk-init c = rw c.new-threads.ensures.items (walked_none c.args.common.categories c.args.common.default c.args.common.root c.args.root (entries_left c.push.new.self.items)
    (ap entries_left (c.in_ok-push.ensures.items ∙ ap (λ (ws : List Work). ws ++ work.Process c.args.root ∷ []) c.new-work.ensures.items)) c.requires.ranges)

pub add_process-requires : goal.add_process-requires
add_process-requires c =
    let inv = c.walk.invariant in
    let most = inv.few in
    let many = length-map c.walk.threads.items (λ t. t.value) in
    let there = c.walk.threads.ok.0 in
    let left = next_opened c.walk.work.items c.pop.new.self.items c.take_apart.new.work.items c.in-Some.next c.in_ok-process.process c.in_ok-one.one c.in-Some.ensures.items c.in_ok-process.ensures.entries c.in_ok-one.ensures in
    record {
      default = c.requires.default;
      few = omega arith;
      ranges = walked_ranges c.args.common.categories c.args.common.default c.args.common.root c.args.root (entries_left c.walk.work.items) (entries_left c.take_apart.new.work.items) (map (λ t. t.value) c.walk.threads.items) c.in_ok-one.one left inv;
    }

pub walk-preserved : goal.walk-preserved
walk-preserved c =
    let built = map (λ t. t.value) c.walk.threads.items in
    let at = c.walk.threads.ok.0 ∙ sym (length-map c.walk.threads.items (λ t. t.value)) in
    let left = next_opened c.walk.work.items c.pop.new.self.items c.take_apart.new.work.items c.in-Some.next c.in_ok-process.process c.in_ok-one.one c.in-Some.ensures.items c.in_ok-process.ensures.entries c.in_ok-one.ensures in
    walked_more c.args.common.categories c.args.common.default c.args.common.root c.args.root (entries_left c.walk.work.items) (entries_left c.take_apart.new.work.items) built (map (λ t. t.value) c.add_process.new.threads.items) c.in_ok-one.one left
    (ap (λ k. process_broken c.args.common.categories c.args.common.root k c.in_ok-one.one) (sym at) ∙ c.in_ok-add_process.ensures.0) c.in_ok-add_process.ensures.1 c.walk.invariant

pub walk-smaller : goal.walk-smaller
walk-smaller c =
    let left = next_opened c.walk.work.items c.pop.new.self.items c.take_apart.new.work.items c.in-Some.next c.in_ok-process.process c.in_ok-one.one c.in-Some.ensures.items c.in_ok-process.ensures.entries c.in_ok-one.ensures in
    let one : length (entries_left c.walk.work.items) ≡ suc (length (entries_left c.take_apart.new.work.items)) = ap (λ (es : List Entry). length es) left in
    omega arith

pub returns-in_err-process-clause-built : goal.returns-in_err-process-clause-built
returns-in_err-process-clause-built c = names _ c.from_residual-in_err-process.result c.in_err-process.field-0.0 (entries_broken c.args.common.categories c.args.common.root 0 c.args.root) _
    (walked_next c.args.common.categories c.args.common.default c.args.common.root c.args.root c.walk.work.items c.pop.new.self.items c.in-Some.next (map (λ t. t.value) c.walk.threads.items) c.in_err-process.field-0.0
    c.in-Some.ensures.items c.in_err-process.ensures.broken c.walk.invariant)
    c.from_residual-in_err-process.ensures.1

pub returns-in_err-add_process-clause-built : goal.returns-in_err-add_process-clause-built
returns-in_err-add_process-clause-built c =
    let built = map (λ t. t.value) c.walk.threads.items in
    let at = c.walk.threads.ok.0 ∙ sym (length-map c.walk.threads.items (λ t. t.value)) in
    let left = next_opened c.walk.work.items c.pop.new.self.items c.take_apart.new.work.items c.in-Some.next c.in_ok-process.process c.in_ok-one.one c.in-Some.ensures.items c.in_ok-process.ensures.entries c.in_ok-one.ensures in
    names-on (λ (ts : List ThreadTables). ts) _ c.in_err-add_process.field-0.0 c.from_residual-in_err-add_process.result (process_broken c.args.common.categories c.args.common.root _ c.in_ok-one.one)
    (entries_broken c.args.common.categories c.args.common.root 0 c.args.root) _ _ c.in_err-add_process.ensures
    (λ b e. walked_fails c.args.common.categories c.args.common.default c.args.common.root c.args.root (entries_left c.walk.work.items) (entries_left c.take_apart.new.work.items) built c.in_ok-one.one b left
    (ap (λ k. process_broken c.args.common.categories c.args.common.root k c.in_ok-one.one) (sym at) ∙ e) c.walk.invariant)
    c.from_residual-in_err-add_process.ensures.1

pub returns : goal.returns
returns c =
    let inv = c.walk.invariant in
    let none = no_items c.walk.work.items (sym c.walk.work.ok.0 ∙ c.in_default.ensures.cases.0) in
    let done = walked_all c.args.common.categories c.args.common.default c.args.common.root c.args.root (entries_left c.walk.work.items) (map (λ t. t.value) c.walk.threads.items) (ap entries_left none) inv in
    let most = inv.few in
    let many = length-map c.walk.threads.items (λ t. t.value) in
    let there = c.walk.threads.ok.0 in
    record { built = (done.0, done.1); few = omega arith }
