use Rattle.std.proofs.Common.{◌≡◌, None}
use Rattle.prof_raw.specs.Rules.{first_row}
use Rattle.prof_raw.specs.Moments.{moment_rule}
use Rattle.prof_raw.proofs.moment.Moment.first_row.Given as goal

abbrev pub invariant-loop-row : goal.invariant-loop-row
invariant-loop-row l = first_row (moment_rule l.self l.phases l.bad l.cells) l.row ≡ None
