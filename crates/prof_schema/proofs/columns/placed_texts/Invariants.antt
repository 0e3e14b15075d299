use Rattle.std.proofs.Common.{List}
use Rattle.prof_grammar.specs.Value.{Value}
use Rattle.prof_schema.specs.Gathered.{AreKept}
use Rattle.prof_schema.proofs.PlacedCells.{AreTextsSoFar}
use Rattle.prof_schema.proofs.columns.placed_texts.Given as goal

abbrev pub invariant-loop-end : goal.invariant-loop-end
invariant-loop-end l = (rows : List Value) → AreKept rows l.rows → AreTextsSoFar l.place rows l.end-index l.start l.placed.texts.items l.placed.ranges.items
