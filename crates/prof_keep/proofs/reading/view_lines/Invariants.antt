use Rattle.std.proofs.Common.{length}
use Rattle.prof_spell.proofs.Chained.{Came}
use Rattle.prof_keep.specs.Reading.{line_chain}
use Rattle.prof_keep.proofs.reading.view_lines.Given as goal

abbrev pub invariant-lines : goal.invariant-lines
invariant-lines l = Came (line_chain l.form l.place) 0 l.fn.cursor l.views.items l.count l.cursor

abbrev pub decreases-lines : goal.decreases-lines
decreases-lines l = length l.cursor
