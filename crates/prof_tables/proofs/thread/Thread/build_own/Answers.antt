use Rattle.std.proofs.Common.{Some}
use Rattle.prof_raw.proofs.CheckLemmas.{own_fit}
use Rattle.prof_tables.proofs.thread.Thread.build_own.Goals as goal

pub of_checked-requires-clause-samples : goal.of_checked-requires-clause-samples
of_checked-requires-clause-samples c = (own_fit (Some c.args.number) c.count-strings.result c.count-stacks.result c.args.own c.in_ok-check_own.ensures).0

pub of_checked-requires-clause-markers : goal.of_checked-requires-clause-markers
of_checked-requires-clause-markers c = (own_fit (Some c.args.number) c.count-strings.result c.count-stacks.result c.args.own c.in_ok-check_own.ensures).1
