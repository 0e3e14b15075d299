use Rattle.std.proofs.Common.{◌≡◌, ◌+◌, ◌≤◌, take}
use Rattle.prof_view_tree.proofs.own.rows_of.Given as goal

abbrev pub invariant-loop-i : goal.invariant-loop-i
invariant-loop-i g l = record {
  rows : l.rows.items ≡ take l.i l.stacks;
  reads : l.reads ≤ l.fn.reads + l.i;
}
