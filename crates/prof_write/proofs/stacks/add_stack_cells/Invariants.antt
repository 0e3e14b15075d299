-- The cells so far were added, and each row was read once.
use Rattle.std.proofs.Common.{◌≡◌, ◌+◌, take, Ok}
use Rattle.std.specs.Prelude.{map}
use Rattle.std.specs.List.{join_with_byte}
use Rattle.prof_io.specs.Outside.{seen}
use Rattle.prof_page.specs.Gathering.{Gathers}
use Rattle.prof_write.specs.Columns.{stack_cells}
use Rattle.prof_write.specs.Compact.{compact}
use Rattle.prof_write.proofs.stacks.add_stack_cells.Given as goal

abbrev pub invariant-loop-row : goal.invariant-loop-row
invariant-loop-row g l = record {
  text : Gathers {T = Unit {0}} {E = Unit {0}} (seen g.S.Counted l.fn.out) (seen g.S.Counted l.out) (Ok tt) l.fn.page.bytes
      (join_with_byte 44 (take l.row (map compact (stack_cells l.column l.thread.shared)))) l.page.bytes;
  reads : l.reads ≡ l.fn.reads + l.row;
}
