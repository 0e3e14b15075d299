use Rattle.std.proofs.Common.{sym}
use Rattle.prof_raw.proofs.FirstRowLemmas.{first_row-found}
use Rattle.prof_raw.proofs.column.first_row.Goals as goal

pub returns-in-Some : goal.returns-in-Some
returns-in-Some c =
    let e = c.len-row-end.ensures in
    rw (← e) (sym (first_row-found _ c.loop-row.row _ c.in-Some.rule c.loop-row.invariant (sym c.in-Some.ensures) c.loop-row-test.true))
