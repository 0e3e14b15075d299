-- The cells so far were written, but for what waits on the page.
use Rattle.std.proofs.Common.{take, Ok}
use Rattle.std.specs.List.{join_with_byte}
use Rattle.prof_io.specs.Outside.{seen}
use Rattle.prof_page.specs.Gathering.{Gathers}
use Rattle.prof_page.proofs.column.add_column.Given as goal

abbrev pub invariant-loop-row : goal.invariant-loop-row
invariant-loop-row g l =
    Gathers {T = Unit {0}} {E = Unit {0}} (seen g.S.Counted l.fn.out) (seen g.S.Counted l.out) (Ok tt) l.fn.page.bytes
    (join_with_byte 44 (take l.row (g.C.Column.cells l.column))) l.page.bytes
