use Rattle.std.proofs.Common.{sym, length, subst}
use Rattle.std.specs.Prelude.{All}
use Rattle.prof_raw.specs.Cells.{OwnCells}
use Rattle.prof_tables.specs.Ties.{IsPart}
use Rattle.prof_tables.proofs.thread.Thread.build.Goals as goal

pub build_parts-requires-clause-ranges : goal.build_parts-requires-clause-ranges
build_parts-requires-clause-ranges c = subst (λ (o : OwnCells). All (IsPart (length o.marker_texts)) o.marker_ranges) (sym c.parts-shared.ensures.own) c.requires.ranges
