use Rattle.std.proofs.Common.{refl}
use Rattle.prof_schema.proofs.RowLists.{rows_read}
use Rattle.prof_schema.proofs.rows.read_rows.Goals as goal

pub returns-clause-rows : goal.returns-clause-rows
returns-clause-rows g c =
    let t = c.in_ok-kind.ensures.value in
    (t.0, t.1, rows_read c.args.most t.0 c.absent-rows.result c.array.new.list _ c.in_ok-kind.kind c.absent-rows.ensures.rows c.absent-rows.ensures.count t.2 refl c.state_of-rows.ensures refl refl refl)
