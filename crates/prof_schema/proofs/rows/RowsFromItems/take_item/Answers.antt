use Rattle.std.proofs.Common.{sym}
use Rattle.prof_schema.proofs.Slots.{takes_item}
use Rattle.prof_schema.proofs.RowLists.{rows_item}
use Rattle.prof_schema.proofs.rows.RowsFromItems.take_item.Goals as goal

pub returns-clause-item : goal.returns-clause-item
returns-clause-item g c =
    let read = c.in_ok-kind.ensures.value in
    takes_item _ _ _ _ _ read.0 read.1
    (rows_item read.0 c.in_ok-kind.kind c.args.self.now c.begin_row.new.self c.end_row.new.self c.array_behind.new.list c.is_row.result c.begin_row.ensures.begun c.begin_row.ensures.wanted c.begin_row.ensures.full read.2
    (sym (c.is_row.ensures read.0 c.begin_row.new.self.kept c.array_behind.new.list read.2)) c.end_row.ensures.same.1 c.end_row.ensures.kept c.in_ok-end_row.ensures.count c.in_ok-end_row.ensures.bad c.in_ok-end_row.ensures.ends)
