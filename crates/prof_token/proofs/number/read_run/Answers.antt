use Rattle.std.proofs.Common.{◌<◌, ℕ, List, ◌∷◌, subst}
use Rattle.prof_token.specs.Bytes.{Each, is_digit}
use Rattle.prof_token.specs.Kept.{Gains}
use Rattle.prof_token.specs.Writes.{silent}
use Rattle.prof_grammar.specs.Machine.{digits}
use Rattle.prof_token.proofs.Digits.{run_begins, each_rest, goes_digits}
use Rattle.prof_token.proofs.Runs.{run_some, run_is}
use Rattle.prof_token.proofs.Texts.{each_digits, gains_on}
use Rattle.prof_token.proofs.Utf8.{digits_utf8}
use Rattle.prof_token.proofs.Written.{writes_goes}
use Rattle.prof_token.proofs.Owning.{any_run}
use Rattle.prof_token.proofs.number.read_run.Goals as goal

pub push-requires : goal.push-requires
push-requires c = digits_utf8 c.digit_len-run.ensures.run

pub returns-clause-text : goal.returns-clause-text
returns-clause-text c =
    let many : 0 < c.digit_len-run.result = run_some is_digit c.args.input.now c.args.first c.digit_len-run.result _ c.requires.next c.ahead-ahead.ensures c.digit_len-run.ensures.stop c.requires.digit in
    let b = run_begins c.args.input.now c.args.first c.digit_len-run.result c.ahead-ahead.result.now c.requires.next c.ahead-ahead.ensures c.digit_len-run.ensures.within many in
    (b.0, each_digits (each_rest is_digit _ b.0 c.args.first b.1 c.digit_len-run.ensures.run), subst (λ x. Gains c.args.text.now x c.push.new.self) b.1 c.in_ok-push.ensures.ok)

pub returns-clause-exact : goal.returns-clause-exact
returns-clause-exact c = λ left begun n s qs ps first runs h d.
    let many : 0 < c.digit_len-run.result = run_some is_digit c.args.input.now c.args.first c.digit_len-run.result _ c.requires.next c.ahead-ahead.ensures c.digit_len-run.ensures.stop c.requires.digit in
    let b = run_begins c.args.input.now c.args.first c.digit_len-run.result c.ahead-ahead.result.now c.requires.next c.ahead-ahead.ensures c.digit_len-run.ensures.within many in
    let to = λ (t : List ℕ). digits n t ∷ ps in
    let gains : Gains c.args.text.now (c.args.first ∷ b.0) c.push.new.self = subst (λ x. Gains c.args.text.now x c.push.new.self) b.1 c.in_ok-push.ensures.ok in
    writes_goes silent to _ (gains_on h gains)
    (goes_digits c.args.input.now c.pass.new.self left c.args.first c.digit_len-run.result b.0 n s qs ps c.requires.next c.pass.ensures many b.2 (each_rest is_digit _ b.0 c.args.first b.1 c.digit_len-run.ensures.run) first runs d)

pub returns-clause-own : goal.returns-clause-own
returns-clause-own c = λ left.
    let is = run_is c.args.input.now c.digit_len-run.result _ c.ahead-ahead.ensures c.digit_len-run.ensures.within in
    any_run left (subst (Each is_digit) is c.digit_len-run.ensures.run) c.pass.ensures
