use Rattle.std.proofs.Common.{◌≡◌, ◌∷◌, [], true, false, refl, sym, ◌∙◌}
use Rattle.std.proofs.lemmas.Result.{err_from_is_err_and}
use Rattle.std.specs.Prelude.{None}
use Rattle.prof_grammar.specs.Event.{number}
use Rattle.prof_token.specs.Stages.{may_come}
use Rattle.prof_json.specs.Parts.{behind}
use Rattle.prof_token.proofs.Machines.{goes_trans}
use Rattle.prof_json.proofs.Standing.{behind_is, behind_few}
use Rattle.prof_token.proofs.Written.{writes_goes, writes_fault}
use Rattle.prof_json.proofs.Closing.{number_told, number_refused}
use Rattle.prof_json.proofs.value.read_number_parts.Goals as goal

pub returns-in_err-behind-clause-exact : goal.returns-in_err-behind-clause-exact
returns-in_err-behind-clause-exact g c = λ begun qs e h few.
    let r = c.from_residual in
    let p = err_from_is_err_and r.result r.ensures.1 in
    let ps = behind c.args.brackets.now in
    let w = c.in_err-behind.ensures.exact begun qs ps e h (behind_few c.args.brackets.now few) in
    rw (p.1, p.2) (writes_fault w.writes.goes)

pub returns-then-may_follow-clause-exact : goal.returns-then-may_follow-clause-exact
returns-then-may_follow-clause-exact g c = λ begun qs e h few.
    let ps = behind c.args.brackets.now in
    let w = c.in_ok-behind.ensures.exact begun qs ps e h (behind_few c.args.brackets.now few) in
    let is : may_come ps c.in_ok-behind.behind ≡ true = sym c.may_follow.ensures ∙ c.if-may_follow.true in
    let told = number_told w.stage w.writes.text c.in_ok-behind.behind (behind_is c.args.brackets.now few) (w.over refl) c.in_ok-behind.ensures.shown is in
    writes_goes (λ t. number t ∷ []) (λ t. ps) w.writes.text (w.writes.kept refl) (goes_trans w.writes.goes told)

pub returns-else-may_follow-clause-exact : goal.returns-else-may_follow-clause-exact
returns-else-may_follow-clause-exact g c = λ begun qs e h few.
    let ps = behind c.args.brackets.now in
    let w = c.in_ok-behind.ensures.exact begun qs ps e h (behind_few c.args.brackets.now few) in
    let no : may_come ps c.in_ok-behind.behind ≡ false = sym c.may_follow.ensures ∙ c.if-may_follow.false in
    let refused = number_refused {b = c.args.input.now} {m = None} {ps = ps} {qs = ps} {es = []} w.stage w.writes.text c.in_ok-behind.behind (w.over refl) c.in_ok-behind.ensures.shown no c.wrong.ensures in
    writes_fault (goes_trans w.writes.goes refused)
