use Rattle.prof_tables.specs.Threads.{ThreadTables}
use Rattle.prof_tables.proofs.BuildLemmas.{builds_thread}
use Rattle.prof_tables.proofs.thread.Thread.build_parts.Goals as goal

pub returns : goal.returns
returns c = builds_thread (λ (t : ThreadTables). t) _ c.args.number c.args.categories c.args.default c.args.shared c.args.own _ c.in_ok-shared.ensures c.build_own.ensures
