use Rattle.prof_tables.specs.Threads.{ThreadTables}
use Rattle.prof_gecko.proofs.Building.{builds_shared}
use Rattle.prof_gecko.proofs.thread.build_derived.Goals as goal

pub returns : goal.returns
returns c = builds_shared (λ (t : ThreadTables). t) _ c.args.number c.args.common.categories c.args.common.default _ _ c.args.own c.in_ok-shared.ensures c.build_parts.ensures
