use Rattle.prof_raw.proofs.CheckLemmas.{shared_fit}
use Rattle.prof_tables.proofs.shared.Shared.make.Goals as goal

pub of_checked-requires-clause-fit : goal.of_checked-requires-clause-fit
of_checked-requires-clause-fit c = shared_fit c.args.thread c.args.categories c.args.raw c.in_ok-check_shared.ensures
