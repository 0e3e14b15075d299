-- The lines so far were written, but for what waits on the page.
use Rattle.std.proofs.Common.{take, map, [], Ok}
use Rattle.std.specs.List.{enumerate_from, flat_map}
use Rattle.prof_io.specs.Outside.{seen}
use Rattle.prof_desk.specs.Summary.{thread_line}
use Rattle.prof_page.specs.Gathering.{Gathers}
use Rattle.prof_desk.proofs.summary.write_threads.Given as goal

abbrev pub invariant-loop-number : goal.invariant-loop-number
invariant-loop-number g l =
    Gathers {T = Unit {0}} {E = Unit {0}} (seen g.S.Counted l.fn.out) (seen g.S.Counted l.out) (Ok tt) []
    (flat_map thread_line (take l.number (enumerate_from 0 (map (λ t. t.value) l.threads)))) l.page.bytes
