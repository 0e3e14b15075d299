use Rattle.std.proofs.Common.{◌≡◌, ◌++◌, ◌∷◌, [], ◌∙◌, w64, length, rules, arith}
use Rattle.std.proofs.lemmas.List.Elements.{All-push}
use Rattle.std.proofs.lemmas.Int.{to_z-of_z}
use Rattle.prof_tables.specs.Rows.{sample_at}
use Rattle.prof_tables.specs.Samples.{rows_by}
use Rattle.prof_tables.specs.Ties.{IsSample}
use Rattle.prof_tables.proofs.RangeLemmas.{in_range-fits}
use Rattle.prof_tables.proofs.SampleLemmas.{next_rows, next_length, next_sum}
use Rattle.prof_tables.proofs.ColumnLemmas.{grown, longer, length-rows_by}
use Rattle.prof_tables.proofs.own.samples_of.Goals as goal

pub loop-k-preserved : goal.loop-k-preserved
loop-k-preserved c =
    let row = c.sample_at-row.result in
    let added = c.in_ok-add_row.ensures in
    let kept = c.loop-k.invariant in
    let more : rows_by c.add_row.new.stacks.items c.add_row.new.times c.add_row.new.weights ≡ rows_by c.loop-k.stacks.items c.loop-k.times c.loop-k.weights ++ row ∷ [] =
    grown c.loop-k.stacks.items _ c.loop-k.times _ c.loop-k.weights _ row kept.times kept.weights added.stacks added.times added.weights in record {
      rows = next_rows (sample_at c.args.raw.now) (rows_by c.loop-k.stacks.items c.loop-k.times c.loop-k.weights) _ c.loop-k.k row kept.rows more c.sample_at-row.ensures.row;
      many = next_length c.loop-k.stacks.items _ c.loop-k.k row.stack kept.many added.stacks;
      times = longer c.loop-k.times _ c.loop-k.stacks.items _ _ _ kept.times added.times added.stacks;
      weights = longer c.loop-k.weights _ c.loop-k.stacks.items _ _ _ kept.weights added.weights added.stacks;
      tied = rw more (All-push (IsSample c.args.count) (rows_by c.loop-k.stacks.items c.loop-k.times c.loop-k.weights) row kept.tied c.sample_at-row.ensures.tied);
      sum = λ deltas. to_z-of_z w64 row.time (in_range-fits row.time c.sample_at-row.ensures.tied.time) ∙ next_sum c.args.raw.now c.loop-k.k row c.sample_at-row.ensures.row deltas;
    }

pub returns-clause-count : goal.returns-clause-count
returns-clause-count c =
    let all = length-rows_by c.loop-k.stacks.items c.loop-k.times c.loop-k.weights c.loop-k.invariant.times c.loop-k.invariant.weights in
    let many = c.loop-k.invariant.many in
    let whole : c.loop-k.k ≡ length c.args.raw.now.sample_stack.cells = search rules in
    omega arith
