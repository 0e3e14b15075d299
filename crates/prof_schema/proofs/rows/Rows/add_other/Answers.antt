use Rattle.prof_schema.proofs.RowLists.{rows_other}
use Rattle.prof_schema.proofs.rows.Rows.add_other.Goals as goal

pub returns : goal.returns
returns c = λ v other. rows_other v c.args.self.now c.end_row.new.self other c.end_row.ensures.same.1 c.end_row.ensures.kept c.in_ok-end_row.ensures.count c.in_ok-end_row.ensures.bad c.in_ok-end_row.ensures.ends
