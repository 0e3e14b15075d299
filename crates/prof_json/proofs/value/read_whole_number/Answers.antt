use Rattle.std.proofs.Common.{◌∷◌, [], ap, arith}
use Rattle.std.specs.Prelude.{Ok}
use Rattle.prof_grammar.specs.Event.{number}
use Rattle.prof_json.specs.Parts.{behind}
use Rattle.prof_token.proofs.Journeys.{moves_here, moves_pass}
use Rattle.prof_token.proofs.Texts.{gains_on}
use Rattle.prof_token.proofs.Written.{writes_goes}
use Rattle.prof_json.proofs.Items.{adds_plain}
use Rattle.prof_json.proofs.Standing.{behind_is, behind_few}
use Rattle.prof_json.proofs.Whole.{number_some, owns_number, goes_shown}
use Rattle.prof_json.proofs.value.read_whole_number.Goals as goal

pub returns-then-branch-clause-moves : goal.returns-then-branch-clause-moves
returns-then-branch-clause-moves g c =
    let r = c.in_ok-read_plain_number.ensures.number (ap Ok c.if-branch.true) in
    moves_pass (moves_here _ _) r.passed

pub returns-then-branch-clause-text : goal.returns-then-branch-clause-text
returns-then-branch-clause-text g c =
    let r = c.in_ok-read_plain_number.ensures.number (ap Ok c.if-branch.true) in
    adds_plain r.plain r.kept

pub returns-then-branch-clause-further : goal.returns-then-branch-clause-further
returns-then-branch-clause-further g c =
    let r = c.in_ok-read_plain_number.ensures.number (ap Ok c.if-branch.true) in
    let some = number_some r.plain in
    let place = r.passed.place in
    omega arith

pub returns-then-branch-clause-own : goal.returns-then-branch-clause-own
returns-then-branch-clause-own g c = owns_number _ (c.in_ok-read_plain_number.ensures.number (ap Ok c.if-branch.true))

pub returns-then-branch-clause-exact : goal.returns-then-branch-clause-exact
returns-then-branch-clause-exact g c = λ begun qs e h few.
    let r = c.in_ok-read_plain_number.ensures.number (ap Ok c.if-branch.true) in
    let ps = behind c.args.brackets.now in
    writes_goes (λ t. number t ∷ []) (λ t. ps) r.text (gains_on h r.kept) (goes_shown ps c.args.first c.requires.next c.requires.begins e (behind_is c.args.brackets.now few) (behind_few c.args.brackets.now few) r)

pub returns-clause-exact : goal.returns-clause-exact
returns-clause-exact g c = λ begun qs e h few.
    let same = c.in_ok-read_plain_number.ensures.none (ap Ok c.if-branch.false) in
    let w = c.read_number_parts.ensures.exact begun qs e (rw same.1 h) few in
    rw same.0 at w
