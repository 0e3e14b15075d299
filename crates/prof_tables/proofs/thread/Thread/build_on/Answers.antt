use Rattle.std.proofs.Common.{sym, length, subst}
use Rattle.std.specs.Prelude.{All}
use Rattle.prof_raw.specs.Cells.{OwnCells}
use Rattle.prof_tables.specs.Ties.{IsPart}
use Rattle.prof_tables.proofs.thread.Thread.build_on.Goals as goal

pub build_own-requires : goal.build_own-requires
build_own-requires c = subst (λ (o : OwnCells). All (IsPart (length o.marker_texts)) o.marker_ranges) (sym c.parts-own.ensures.own) c.requires
