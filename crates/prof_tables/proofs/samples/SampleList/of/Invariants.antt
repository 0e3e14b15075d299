use Rattle.std.proofs.Common.{◌≡◌, length}
use Rattle.std.specs.Prelude.{take}
use Rattle.prof_tables.specs.Samples.{rows_by}
use Rattle.prof_tables.proofs.samples.SampleList.of.Given as goal

abbrev pub invariant-loop-row : goal.invariant-loop-row
invariant-loop-row l = record {
  rows : rows_by l.stacks.items l.times l.weights ≡ take l.row-index l.rows;
  times : length l.times ≡ length l.stacks.items;
  weights : length l.weights ≡ length l.stacks.items;
}
