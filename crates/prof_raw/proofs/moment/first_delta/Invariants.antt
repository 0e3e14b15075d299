use Rattle.std.proofs.Common.{◌≡◌, None}
use Rattle.std.specs.Prelude.{true}
use Rattle.prof_raw.specs.Rules.{first_row}
use Rattle.prof_raw.specs.Moments.{time_rule, sum_below}
use Rattle.prof_raw.proofs.moment.first_delta.Given as goal

abbrev pub invariant-loop-row : goal.invariant-loop-row
invariant-loop-row l = record { none : first_row (time_rule true l.bad l.cells) l.row ≡ None; sum : l.sum ≡ sum_below l.cells l.row }
