use Rattle.std.proofs.Common.{ap, arith}
use Rattle.std.specs.Prelude.{Ok}
use Rattle.prof_token.proofs.Journeys.{moves_here, moves_pass}
use Rattle.prof_token.proofs.Strings.{owns_string}
use Rattle.prof_json.proofs.Enclosing.{steps_next_name}
use Rattle.prof_json.proofs.Whole.{name_writes}
use Rattle.prof_json.proofs.steps.read_next_member.Goals as goal

pub returns-then-branch-clause-moves : goal.returns-then-branch-clause-moves
returns-then-branch-clause-moves g c =
    let r = c.in_ok-read_plain_name.ensures.name (ap Ok c.if-branch.true) in
    moves_pass (moves_here _ _) r.1.passed

pub returns-then-branch-clause-ok : goal.returns-then-branch-clause-ok
returns-then-branch-clause-ok g c =
    let r = c.in_ok-read_plain_name.ensures.name (ap Ok c.if-branch.true) in
    let place = r.1.passed.place in
    steps_next_name c.requires.within c.requires.few (omega arith)

pub returns-then-branch-clause-own : goal.returns-then-branch-clause-own
returns-then-branch-clause-own g c =
    let r = c.in_ok-read_plain_name.ensures.name (ap Ok c.if-branch.true) in
    owns_string _ r.1

pub returns-then-branch-clause-exact : goal.returns-then-branch-clause-exact
returns-then-branch-clause-exact g c = λ begun h.
    let r = c.in_ok-read_plain_name.ensures.name (ap Ok c.if-branch.true) in
    name_writes c.requires.within c.requires.few h r.0 r.1
