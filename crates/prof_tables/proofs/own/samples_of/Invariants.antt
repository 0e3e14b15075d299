use Rattle.std.proofs.Common.{◌≡◌, length, true}
use Rattle.std.specs.Prelude.{All}
use Rattle.prof_raw.specs.Moments.{sum_below}
use Rattle.prof_tables.specs.Rows.{rows_of, sample_at}
use Rattle.prof_tables.specs.Samples.{rows_by}
use Rattle.prof_tables.specs.Ties.{IsSample}
use Rattle.prof_tables.proofs.own.samples_of.Given as goal

abbrev pub invariant-loop-k : goal.invariant-loop-k
invariant-loop-k l = record {
  rows : rows_by l.stacks.items l.times l.weights ≡ rows_of (sample_at l.raw) l.k;
  many : length l.stacks.items ≡ l.k;
  times : length l.times ≡ length l.stacks.items;
  weights : length l.weights ≡ length l.stacks.items;
  tied : All (IsSample l.count) (rows_by l.stacks.items l.times l.weights);
  sum : l.raw.deltas ≡ true → l.sum ≡ sum_below l.raw.sample_time.cells l.k;
}
