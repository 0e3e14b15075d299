use Rattle.prof_tables.proofs.PathLemmas.{path-row}
use Rattle.prof_tables.proofs.law.path_of_row.Goals as goal

pub returns : goal.returns
returns c = path-row
