use Rattle.prof_back.proofs.TablesBack.{tables_back}
use Rattle.prof_back.proofs.reads_tables_back.Goals as goal

pub returns : goal.returns
returns c = tables_back
