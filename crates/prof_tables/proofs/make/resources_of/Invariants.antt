use Rattle.std.proofs.Common.{◌≡◌, ◌<◌, length}
use Rattle.std.specs.Prelude.{All}
use Rattle.prof_tables.specs.Rows.{rows_of, resource_at}
use Rattle.prof_tables.proofs.make.resources_of.Given as goal

abbrev pub invariant-loop-r : goal.invariant-loop-r
invariant-loop-r l = record { rows : l.resources.items ≡ rows_of (resource_at l.raw) l.r; many : length l.resources.items ≡ l.r; tied : All (λ name. name < length l.raw.strings) l.resources.items }
