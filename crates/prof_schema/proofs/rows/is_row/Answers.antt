use Rattle.prof_schema.proofs.RowLists.{taken_array, taken_other}
use Rattle.prof_schema.proofs.rows.is_row.Goals as goal

pub returns-in-Array : goal.returns-in-Array
returns-in-Array c = λ v first last t. taken_array v first last c.args.kind t c.in-Array.is

pub returns-in_default : goal.returns-in_default
returns-in_default c = λ v first last t. taken_other v first last c.args.kind t c.in_default.not-Array
