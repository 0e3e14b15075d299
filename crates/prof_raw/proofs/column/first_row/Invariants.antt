use Rattle.std.proofs.Common.{◌≡◌, None}
use Rattle.prof_raw.specs.Rules.{row_rule, first_row}
use Rattle.prof_raw.proofs.column.first_row.Given as goal

abbrev pub invariant-loop-row : goal.invariant-loop-row
invariant-loop-row l = first_row (row_rule l.kind l.bad l.cells) l.row ≡ None
