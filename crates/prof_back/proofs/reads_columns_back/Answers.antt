use Rattle.prof_back.proofs.Columns.{column_back, texts_back, strings_pass}
use Rattle.prof_back.proofs.reads_columns_back.Goals as goal

pub returns : goal.returns
returns c = record { cells = column_back; texts = texts_back; pass = strings_pass }
