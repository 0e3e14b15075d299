-- The categories so far were added.
use Rattle.std.proofs.Common.{take, Ok}
use Rattle.std.specs.List.{enumerate_from, join_with_byte}
use Rattle.prof_io.specs.Outside.{seen}
use Rattle.prof_page.specs.Gathering.{Gathers}
use Rattle.prof_write.specs.Cells.{category_value, texts_of_cells}
use Rattle.prof_write.proofs.categories.add_categories.Given as goal

abbrev pub invariant-loop-place : goal.invariant-loop-place
invariant-loop-place g l =
    Gathers {T = Unit {0}} {E = Unit {0}} (seen g.S.Counted l.fn.out) (seen g.S.Counted l.out) (Ok tt) l.fn.page.bytes
    (join_with_byte 44 (take l.place (texts_of_cells (category_value l.default) (enumerate_from 0 l.names)))) l.page.bytes
