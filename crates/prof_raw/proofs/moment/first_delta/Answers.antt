use Rattle.prof_raw.proofs.DeltaLemmas.{delta-cell, delta-sum}
use Rattle.prof_raw.proofs.moment.first_delta.Goals as goal

pub returns-in-Some : goal.returns-in-Some
returns-in-Some c =
    let end = c.len-row-end.ensures in
    rw (← end) (delta-cell c.args.bad c.args.cells.now c.loop-row.row _ c.in-Some.rule c.loop-row.invariant.none c.loop-row-test.true c.in-Some.ensures)

pub returns-in-Err : goal.returns-in-Err
returns-in-Err c =
    let end = c.len-row-end.ensures in
    rw (← end) (delta-sum c.args.bad c.args.cells.now c.loop-row.row _ c.in-Err.rule c.loop-row.sum c.loop-row.invariant.none c.loop-row-test.true
    c.in_default.ensures (let e = c.loop-row.sum-is in let f = c.loop-row.invariant.sum in cc)
    (let e = c.loop-row.sum-is in let f = c.in-Err.ensures in let h = c.get.ensures in rw (← e) (rw (← h) f)))
