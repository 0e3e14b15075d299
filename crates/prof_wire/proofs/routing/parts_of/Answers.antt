use Rattle.prof_wire.proofs.Targets.{stripped, split_clear, split_none}
use Rattle.prof_wire.proofs.routing.parts_of.Goals as goal

pub returns-clause-first : goal.returns-clause-first
returns-clause-first c = split_clear c.in_ok-rest.rest.now c.split_once.result c.split_once.ensures.cases

pub returns-clause-none : goal.returns-clause-none
returns-clause-none c =
    split_none c.args.target.now c.in_ok-rest.rest.now c.split_once.result (stripped c.args.target.now c.in_ok-rest.rest.now c.in_ok-rest.ensures.cases) c.split_once.ensures.cases
