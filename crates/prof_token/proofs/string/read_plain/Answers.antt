use Rattle.std.proofs.Common.{◌≡◌, inl, inr, ℕ, List, [], ◌∷◌, ◌++◌, false, length, take, refl, sym, arith, ◌<◌}
use Rattle.std.specs.Prelude.{None}
use Rattle.std.proofs.lemmas.List.{length-take}
use Rattle.std.proofs.lemmas.Result.{err_from_is_err_and}
use Rattle.prof_grammar.specs.Machine.{chars, nothing, settled}
use Rattle.prof_token.specs.Bytes.{is_plain}
use Rattle.prof_token.specs.Writes.{silent}
use Rattle.prof_token.proofs.Runs.{run_some, run_here, run_fits, run_is}
use Rattle.prof_token.proofs.Texts.{gains_on}
use Rattle.prof_token.proofs.Machines.{goes_wrong, goes_run}
use Rattle.prof_token.proofs.Turns as t
use Rattle.prof_token.proofs.Written.{writes_goes, writes_fault}
use Rattle.prof_token.proofs.Utf8.{plain_utf8}
use Rattle.prof_token.proofs.string.read_plain.Goals as goal

pub push-requires : goal.push-requires
push-requires c = plain_utf8 c.plain_len-run.ensures.run

pub pass-requires-clause-here : goal.pass-requires-clause-here
pass-requires-clause-here c = run_here c.args.input.now c.plain_len-run.result _ c.ahead-ahead.ensures c.plain_len-run.ensures.within

pub pass-requires-clause-within : goal.pass-requires-clause-within
pass-requires-clause-within c =
    let some : 0 < c.plain_len-run.result = omega arith in
    run_fits c.args.input.now c.plain_len-run.result _ c.ahead-ahead.ensures c.plain_len-run.ensures.within some

pub returns-clause-run : goal.returns-clause-run
returns-clause-run c = let some : 0 < c.plain_len-run.result = omega arith in (c.plain_len-run.result, some, c.pass.ensures)

pub returns-then-run-eq0-clause-err : goal.returns-then-run-eq0-clause-err
returns-then-run-eq0-clause-err c = (refl, inr c.wrong.ensures)

pub returns-in_err-push-clause-err : goal.returns-in_err-push-clause-err
returns-in_err-push-clause-err c =
    let r = c.from_residual in
    let p = err_from_is_err_and r.result r.ensures.1 in
    rw (p.1, p.2) (refl, inl c.in_err-push.ensures.err)

pub returns-then-run-eq0-clause-exact : goal.returns-then-run-eq0-clause-exact
returns-then-run-eq0-clause-exact c = λ left begun k s p ps h d.
    let first = c.args.first in
    let no : is_plain first ≡ false = t.not_plain first c.plain_len-run.result (λ is. run_some is_plain c.args.input.now first c.plain_len-run.result _ c.requires.next c.ahead-ahead.ensures c.plain_len-run.ensures.stop is) c.if-run-eq0.true in
    writes_fault (goes_wrong {b = c.args.input.now} {m = None} {qs = ps} {es = []} first c.requires.next
    (t.text_wrong k s p ps first (t.bad_ascii first no c.requires.ascii.0 c.requires.ascii.1 c.requires.ascii.2)) c.wrong.ensures)

pub returns-clause-exact : goal.returns-clause-exact
returns-clause-exact c = λ left begun k s p ps h d.
    let n = c.plain_len-run.result in
    let run = take n c.ahead-ahead.result.now in
    let some : 0 < length run = let many : 0 < n = omega arith in omega (arith, length-take n c.ahead-ahead.result.now, c.plain_len-run.ensures.within) in
    let to = λ (t : List ℕ). chars k t None nothing ∷ ps in
    let went = goes_run {l = left} (t.plain_from k s p ps) [] run n (λ xs b h. t.plain_from_on k s p ps xs b h) (λ xs. t.plain_from_depth k s p ps xs d) c.plain_len-run.ensures.run
    (run_is c.args.input.now n c.ahead-ahead.result.now c.ahead-ahead.ensures c.plain_len-run.ensures.within) c.pass.ensures in
    writes_goes silent to (settled s p ++ run) (gains_on h c.in_ok-push.ensures.ok) (rw (t.plain_from_none k s p ps, sym (t.plain_from_some k s p ps run some)) went)
