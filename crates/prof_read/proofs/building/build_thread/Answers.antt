use Rattle.std.proofs.Common.{sym, ◌∙◌}
use Rattle.prof_grammar.specs.Value.{Value}
use Rattle.prof_tables.specs.Threads.{ThreadTables}
use Rattle.prof_layout.specs.Profile.{common_of, common_member}
use Rattle.prof_read.proofs.Refusing.{no_memory, names-unbuilt}
use Rattle.prof_read.proofs.Threading.{thread_counting, few_common, own_base, shared_base, own_fails, own_tables, shared_fails, shared_stands_on, building_memory, building_unbuilt}
use Rattle.prof_read.proofs.building.build_thread.Goals as goal

pub returns-in_err-thread-in-Own-clause-thread : goal.returns-in_err-thread-in-Own-clause-thread
returns-in_err-thread-in-Own-clause-thread c = λ v ms stands are.
    let b = own_base v c.args.base.now c.in-Own.common c.in-Own.is stands.base_is in
    let common = common_of (common_member v) in
    let own = c.in_ok-own.ensures.own ms are.name are.samples are.markers in
    let tables = c.in_ok-tables-in-Own.ensures common ms b.1 (few_common v b.0 stands.whole) are.shared in
    let raw = thread_counting common (Value.object ms) _ _ tables own in
    names-unbuilt (λ (t : ThreadTables). t) _ c.in_err-thread-in-Own.field-0.0 c.from_residual-in_err-thread-in-Own.result _ _ _ c.in_err-thread-in-Own.ensures
    (own_fails v (Value.object ms) c.args.number c.args.categories c.args.default _ stands.counts b.0 stands.whole raw) c.from_residual-in_err-thread-in-Own.ensures.1

pub returns-in_err-shared-in-Shared-clause-err : goal.returns-in_err-shared-in-Shared-clause-err
returns-in_err-shared-in-Shared-clause-err c = building_memory c.from_residual-in_err-shared-in-Shared.result c.from_residual-in_err-shared-in-Shared.ensures.1

pub returns-in_err-shared-in-Shared-clause-thread : goal.returns-in_err-shared-in-Shared-clause-thread
returns-in_err-shared-in-Shared-clause-thread c = λ v ms stands are. no_memory _ c.from_residual-in_err-shared-in-Shared.result _ c.from_residual-in_err-shared-in-Shared.ensures.1

pub returns-in_err-thread-in-Shared-clause-thread : goal.returns-in_err-thread-in-Shared-clause-thread
returns-in_err-thread-in-Shared-clause-thread c = λ v ms stands are.
    let b = shared_base v c.args.base.now c.in-Shared.shared c.in-Shared.is stands.base_is in
    let own = c.in_ok-own.ensures.own ms are.name are.samples are.markers in
    names-unbuilt (λ (t : ThreadTables). t) _ c.in_err-thread-in-Shared.field-0.0 c.from_residual-in_err-thread-in-Shared.result _ _ _ c.in_err-thread-in-Shared.ensures
    (shared_fails v (Value.object ms) c.args.number c.in_ok-shared-in-Shared.shared.value _ b.0 (c.in_ok-shared-in-Shared.ensures.cases ∙ b.1) own) c.from_residual-in_err-thread-in-Shared.ensures.1

pub returns-in_ok-thread-in-Own-clause-thread : goal.returns-in_ok-thread-in-Own-clause-thread
returns-in_ok-thread-in-Own-clause-thread c = λ v ms stands are.
    let b = own_base v c.args.base.now c.in-Own.common c.in-Own.is stands.base_is in
    let common = common_of (common_member v) in
    let own = c.in_ok-own.ensures.own ms are.name are.samples are.markers in
    let tables = c.in_ok-tables-in-Own.ensures common ms b.1 (few_common v b.0 stands.whole) are.shared in
    let raw = thread_counting common (Value.object ms) _ _ tables own in
    let made = c.in_ok-thread-in-Own.ensures in (
      sym (own_fails v (Value.object ms) c.args.number c.args.categories c.args.default _ stands.counts b.0 stands.whole raw) ∙ made.0,
      made.1 ∙ own_tables v (Value.object ms) c.args.number c.args.categories c.args.default _ stands.counts b.0 stands.whole raw made.0,
    )

pub returns-in_ok-thread-in-Shared-clause-thread : goal.returns-in_ok-thread-in-Shared-clause-thread
returns-in_ok-thread-in-Shared-clause-thread c = λ v ms stands are.
    let b = shared_base v c.args.base.now c.in-Shared.shared c.in-Shared.is stands.base_is in
    let own = c.in_ok-own.ensures.own ms are.name are.samples are.markers in
    let made = c.in_ok-thread-in-Shared.ensures in
    let copy = c.in_ok-shared-in-Shared.ensures.cases ∙ b.1 in (
      sym (shared_fails v (Value.object ms) c.args.number c.in_ok-shared-in-Shared.shared.value _ b.0 copy own) ∙ made.0,
      made.1 ∙ shared_stands_on v (Value.object ms) c.args.number c.in_ok-shared-in-Shared.shared.value _ b.0 copy own made.0,
    )

pub returns-in_err-tables-in-Own-clause-thread : goal.returns-in_err-tables-in-Own-clause-thread
returns-in_err-tables-in-Own-clause-thread c = λ v ms stands are. no_memory _ c.from_residual-in_err-tables-in-Own.result _ c.from_residual-in_err-tables-in-Own.ensures.1

pub returns-in_err-thread-in-Shared-clause-err : goal.returns-in_err-thread-in-Shared-clause-err
returns-in_err-thread-in-Shared-clause-err c = building_unbuilt c.in_err-thread-in-Shared.field-0.0 c.from_residual-in_err-thread-in-Shared.result c.from_residual-in_err-thread-in-Shared.ensures.1
