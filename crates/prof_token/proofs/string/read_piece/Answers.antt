use Rattle.std.proofs.lemmas.Result.{err_from_is_err_and}
use Rattle.prof_token.proofs.Journeys.{moves_here, moves_full}
use Rattle.prof_token.proofs.Written.{writes_fault}
use Rattle.prof_token.proofs.string.read_piece.Goals as goal

pub returns-in_err-push_lone-clause-moves : goal.returns-in_err-push_lone-clause-moves
returns-in_err-push_lone-clause-moves g c =
    let r = c.from_residual in
    let p = err_from_is_err_and r.result r.ensures.1 in
    rw (p.1, p.2) (moves_full c.in_err-push_lone.ensures.err (moves_here _ _))

pub returns-in_err-read_themselves-clause-exact : goal.returns-in_err-read_themselves-clause-exact
returns-in_err-read_themselves-clause-exact g c = λ begun k s ps h d.
    let r = c.from_residual-in_err-read_themselves in
    let q = err_from_is_err_and r.result r.ensures.1 in
    let w = c.in_err-read_themselves.ensures.exact begun k s c.args.high ps (c.in_ok-push_lone.ensures.text begun s h) d in
    rw (q.1, q.2) (writes_fault w.goes)

pub returns-clause-exact : goal.returns-clause-exact
returns-clause-exact g c = λ begun k s ps h d.
    c.in_ok-read_themselves.ensures.exact begun k s c.args.high ps (c.in_ok-push_lone.ensures.text begun s h) d
