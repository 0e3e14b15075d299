use Rattle.std.proofs.Common.{[], ◌∷◌, ◌++◌, ap}
use Rattle.std.specs.Prelude.{Ok}
use Rattle.prof_grammar.specs.Machine.{told}
use Rattle.prof_token.proofs.Journeys.{moves_here, moves_pass}
use Rattle.prof_token.proofs.Strings.{goes_string, owns_string}
use Rattle.prof_token.proofs.Texts.{gains_on}
use Rattle.prof_token.proofs.Written.{writes_goes}
use Rattle.prof_token.proofs.string.read_string.Goals as goal

pub returns-then-branch-clause-moves : goal.returns-then-branch-clause-moves
returns-then-branch-clause-moves g c =
    let r = c.in_ok-read_plain_string.ensures.string (ap Ok c.if-branch.true) in
    moves_pass (moves_here _ _) r.passed

pub returns-then-branch-clause-own : goal.returns-then-branch-clause-own
returns-then-branch-clause-own g c = owns_string _ (c.in_ok-read_plain_string.ensures.string (ap Ok c.if-branch.true))

pub returns-then-branch-clause-exact : goal.returns-then-branch-clause-exact
returns-then-branch-clause-exact g c = λ begun k s ps h d.
    let r = c.in_ok-read_plain_string.ensures.string (ap Ok c.if-branch.true) in
    writes_goes (λ t. told k t ∷ []) (λ t. ps) (s ++ r.text) (gains_on h r.kept) (goes_string k s ps r d)
