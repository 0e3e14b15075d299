use Rattle.std.proofs.Common.{length, ap, arith}
use Rattle.prof_tables.proofs.ColumnLemmas.{length-rows_by}
use Rattle.prof_tables.proofs.samples.SampleList.count.Goals as goal

pub returns : goal.returns
returns c =
    let len = c.len.ensures in
    let all = length-rows_by c.self.inside.stacks.items c.self.inside.times c.self.inside.weights c.self.invariant.0 c.self.invariant.1 in
    let same = ap length c.self.view_is in
    omega arith
