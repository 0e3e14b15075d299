use Rattle.std.proofs.Common.{◌≡◌}
use Rattle.prof_tables.specs.Rows.{rows_of, marker_at}
use Rattle.prof_tables.proofs.own.listed_markers.Given as goal

abbrev pub invariant-loop-m : goal.invariant-loop-m
invariant-loop-m l = l.markers.items ≡ rows_of (marker_at l.raw) l.m
