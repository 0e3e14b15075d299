use Rattle.std.proofs.Common.{◌≡◌, length}
use Rattle.std.specs.Prelude.{All}
use Rattle.prof_raw.specs.Checks.{resource_count}
use Rattle.prof_tables.specs.Rows.{rows_of, func_at}
use Rattle.prof_tables.specs.Ties.{IsFunc}
use Rattle.prof_tables.proofs.make.funcs_of.Given as goal

abbrev pub invariant-loop-f : goal.invariant-loop-f
invariant-loop-f l = record { rows : l.funcs.items ≡ rows_of (func_at l.raw) l.f; many : length l.funcs.items ≡ l.f; tied : All (IsFunc (length l.raw.strings) (resource_count l.raw)) l.funcs.items }
