use Rattle.std.proofs.Common.{List}
use Rattle.prof_grammar.specs.Value.{Value}
use Rattle.prof_schema.specs.Placed.{cell_of, read_placed}
use Rattle.prof_schema.specs.Gathered.{AreKept}
use Rattle.prof_schema.proofs.PlacedCells.{IsColumnSoFar}
use Rattle.prof_schema.proofs.columns.column_at.Given as goal

abbrev pub invariant-loop-end : goal.invariant-loop-end
invariant-loop-end l = (rows : List Value) → AreKept rows l.rows → IsColumnSoFar (λ row. read_placed l.reading (cell_of l.place row)) l.rows.most rows l.end-index l.start l.column
