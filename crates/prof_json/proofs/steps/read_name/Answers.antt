use Rattle.std.proofs.Common.{[]}
use Rattle.std.specs.Prelude.{None}
use Rattle.std.proofs.lemmas.Result.{err_from_is_err_and}
use Rattle.prof_grammar.specs.Machine.{as_name}
use Rattle.prof_json.specs.Parts.{behind, parts_in}
use Rattle.prof_json.specs.declared.nesting.Phase.TheVariants.{AfterName}
use Rattle.prof_token.proofs.Journeys.{moves_trans, moves_pass, moves_here}
use Rattle.prof_token.proofs.Machines.{goes_trans, goes_byte, goes_wrong}
use Rattle.prof_json.proofs.Standing as st
use Rattle.prof_token.proofs.Written.{writes_on, writes_fault}
use Rattle.prof_token.proofs.Owning.{owns_passed}
use Rattle.prof_json.proofs.steps.read_name.Goals as goal

pub returns-in_err-read_string-clause-moves : goal.returns-in_err-read_string-clause-moves
returns-in_err-read_string-clause-moves g c =
    let r = c.from_residual in
    let p = err_from_is_err_and r.result r.ensures.1 in
    rw (p.1, p.2) (moves_trans (moves_pass (moves_here _ _) c.pass.ensures) c.in_err-read_string.ensures.moves)

pub returns-clause-moves : goal.returns-clause-moves
returns-clause-moves g c = moves_trans (moves_pass (moves_here _ _) c.pass.ensures) c.in_ok-read_string.ensures.moves

pub returns-then-first-ne34-clause-exact : goal.returns-then-first-ne34-clause-exact
returns-then-first-ne34-clause-exact g c = λ begun qs xs t h few.
    writes_fault (goes_wrong {b = c.args.input.now} {m = None} {qs = []} {es = []} c.args.first c.requires (t.other c.if-first-ne34.true) c.wrong.ensures)

pub returns-in_err-read_string-clause-exact : goal.returns-in_err-read_string-clause-exact
returns-in_err-read_string-clause-exact g c = λ begun qs xs t h few.
    let r = c.from_residual in
    let q = err_from_is_err_and r.result r.ensures.1 in
    let d = st.behind_few xs few in
    let quote = goes_byte c.args.first c.requires c.pass.ensures (t.quote c.if-first-ne34.false) d in
    rw (q.1, q.2) (writes_fault (goes_trans quote (c.in_err-read_string.ensures.exact begun as_name [] (parts_in AfterName (behind xs)) h d).goes))

pub returns-clause-exact : goal.returns-clause-exact
returns-clause-exact g c = λ begun qs xs t h few.
    let d = st.behind_few xs few in
    let quote = goes_byte c.args.first c.requires c.pass.ensures (t.quote c.if-first-ne34.false) d in
    writes_on quote (c.in_ok-read_string.ensures.exact begun as_name [] (parts_in AfterName (behind xs)) h d)

pub returns-clause-own : goal.returns-clause-own
returns-clause-own g c = owns_passed c.pass.ensures c.in_ok-read_string.ensures.own
