-- The threads so far were added, and each of their stack rows was read at most twice.
use Rattle.std.proofs.Common.{◌≤◌, ◌+◌, ◌*◌, take, Ok}
use Rattle.std.specs.Prelude.{map}
use Rattle.std.specs.List.{join_with_byte}
use Rattle.prof_io.specs.Outside.{seen}
use Rattle.prof_page.specs.Gathering.{Gathers}
use Rattle.prof_write.specs.Cells.{texts_of_cells}
use Rattle.prof_write.specs.Written.{stack_rows, thread_value}
use Rattle.prof_write.proofs.profile.add_threads.Given as goal

abbrev pub invariant-loop-place : goal.invariant-loop-place
invariant-loop-place g l = record {
  text : Gathers {T = Unit {0}} {E = Unit {0}} (seen g.S.Counted l.fn.out) (seen g.S.Counted l.out) (Ok tt) l.fn.page.bytes
      (join_with_byte 44 (take l.place (texts_of_cells thread_value (map (λ t. t.value) l.threads)))) l.page.bytes;
  reads : l.reads ≤ l.fn.reads + 2 * stack_rows (take l.place (map (λ t. t.value) l.threads));
}
