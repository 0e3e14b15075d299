use Rattle.prof_tables.proofs.PathLemmas.{path-append}
use Rattle.prof_tables.proofs.law.path_of_earlier_row.Goals as goal

pub returns : goal.returns
returns c = path-append
