use Rattle.std.proofs.Common.{◌≡◌, length}
use Rattle.prof_tables.specs.Paths.{PrefixesBelow}
use Rattle.prof_tables.specs.Rows.{stacks_below}
use Rattle.prof_tables.proofs.make.stacks_of.Given as goal

abbrev pub invariant-loop-i : goal.invariant-loop-i
invariant-loop-i l = record {
  rows : l.rows.items ≡ stacks_below l.default l.raw l.i;
  many : length l.rows.items ≡ l.i;
  below : PrefixesBelow l.rows.items;
}
