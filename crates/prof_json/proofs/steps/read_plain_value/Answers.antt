use Rattle.std.proofs.Common.{ap}
use Rattle.std.specs.Prelude.{Ok}
use Rattle.prof_json.specs.Step as s
use Rattle.prof_json.proofs.steps.read_plain_value.Goals as goal

pub returns-then-branch-clause-value : goal.returns-then-branch-clause-value
returns-then-branch-clause-value c = s.string (c.shows_quote_behind.ensures c.if-shows_quote_behind.true) (c.in_ok-read_plain_string.ensures.string (ap Ok c.if-branch.true))

pub returns-then-branch-2-clause-value : goal.returns-then-branch-2-clause-value
returns-then-branch-2-clause-value c = s.number (c.shows.ensures c.if-shows.true) (c.in_ok-read_plain_number.ensures.number (ap Ok c.if-branch-2.true))
