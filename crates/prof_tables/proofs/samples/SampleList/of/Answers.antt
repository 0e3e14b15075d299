use Rattle.prof_tables.proofs.ColumnLemmas.{next_row, longer}
use Rattle.prof_tables.proofs.samples.SampleList.of.Goals as goal

pub loop-row-preserved : goal.loop-row-preserved
loop-row-preserved c =
    let added = c.in_ok-add_row.ensures in record {
      rows = next_row c.args.rows.now c.loop-row.row-index _ c.loop-row.stacks.items _ c.loop-row.times _ c.loop-row.weights _
          c.loop-row.invariant.times c.loop-row.invariant.weights c.loop-row.invariant.rows c.loop-row-test.true added.stacks added.times added.weights;
      times = longer c.loop-row.times _ c.loop-row.stacks.items _ _ _ c.loop-row.invariant.times added.times added.stacks;
      weights = longer c.loop-row.weights _ c.loop-row.stacks.items _ _ _ c.loop-row.invariant.weights added.weights added.stacks;
    }
