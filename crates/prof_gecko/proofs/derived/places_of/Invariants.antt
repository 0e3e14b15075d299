use Rattle.std.proofs.Common.{◌≡◌, ◌<◌, length}
use Rattle.std.specs.List.{All}
use Rattle.prof_tables.specs.Rows.{rows_of}
use Rattle.prof_gecko.specs.Converted.{location_at}
use Rattle.prof_gecko.proofs.derived.places_of.Given as goal

abbrev pub invariant-loop-j : goal.invariant-loop-j
invariant-loop-j l = record {
  rows : l.places.items ≡ rows_of (location_at l.frames) l.j;
  many : length l.places.items ≡ l.j;
  within : All (λ p. p < l.strings) l.places.items;
}
