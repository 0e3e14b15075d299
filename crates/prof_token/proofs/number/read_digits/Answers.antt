use Rattle.std.proofs.Common.{◌≡◌, ℕ, List, ◌<◌, ◌∷◌, true, refl, subst, arith}
use Rattle.std.proofs.lemmas.Grind.{common_steps}
use Rattle.prof_token.specs.Ahead.{IsNext}
use Rattle.prof_token.specs.Bytes.{Each, is_digit}
use Rattle.prof_token.proofs.Journeys.{moves_trans, moves_pass, moves_here, smaller}
use Rattle.prof_token.proofs.Runs.{run_some, run_here, run_within, run_is}
use Rattle.prof_token.proofs.Texts.{adds_none, adds_digits, gains_on}
use Rattle.prof_grammar.specs.Machine.{digits}
use Rattle.prof_token.specs.Writes.{silent}
use Rattle.prof_token.proofs.Machines.{goes_trans, goes_run}
use Rattle.prof_token.proofs.Turns.{digits_on}
use Rattle.prof_token.proofs.Written.{writes_here, writes_goes, writes_on, writes_fault}
use Rattle.prof_token.proofs.Utf8.{digits_utf8}
use Rattle.prof_token.proofs.Owning.{any_here, any_same, any_trans, any_run}
use Rattle.prof_token.proofs.number.read_digits.Goals as goal

pub digits-init : goal.digits-init
digits-init g c = record { moves = moves_here _ _; text = adds_none; own = any_here _ _; exact = λ begun n s ps r h d. writes_here (λ t. digits n t ∷ ps) s h }

pub push-requires : goal.push-requires
push-requires g c = digits_utf8 c.digit_len-run.ensures.run

pub pass-requires-clause-here : goal.pass-requires-clause-here
pass-requires-clause-here g c = run_here c.peek.new.self c.digit_len-run.result _ c.ahead-ahead.ensures c.digit_len-run.ensures.within

pub pass-requires-clause-within : goal.pass-requires-clause-within
pass-requires-clause-within g c =
    let next : IsNext c.in-Ok-Some.byte c.peek.new.self = rw c.in-Ok-Some.field-0-is at c.in-Ok-Some.ensures.shown in
    run_within c.peek.new.self c.in-Ok-Some.byte c.digit_len-run.result _ next c.ahead-ahead.ensures c.digit_len-run.ensures.within

pub digits-smaller : goal.digits-smaller
digits-smaller g c =
    let next : IsNext c.in-Ok-Some.byte c.peek.new.self = rw c.in-Ok-Some.field-0-is at c.in-Ok-Some.ensures.shown in
    let is : is_digit c.in-Ok-Some.byte ≡ true = grind (arith, common_steps, c.is_digit.ensures) in
    let many : 0 < c.digit_len-run.result = run_some is_digit c.peek.new.self c.in-Ok-Some.byte c.digit_len-run.result _ next c.ahead-ahead.ensures c.digit_len-run.ensures.stop is in
    smaller c.digits.input c.peek.new.self c.pass.new.self c.digit_len-run.result c.in-Ok-Some.ensures.moves.on c.in-Ok-Some.ensures.moves.limit many c.pass.ensures

pub digits-preserved : goal.digits-preserved
digits-preserved g c =
    record {
      moves = moves_pass (moves_trans c.digits.invariant.moves c.in-Ok-Some.ensures.moves) c.pass.ensures;
      text = adds_digits c.digits.invariant.text c.digit_len-run.ensures.run c.in_default.ensures.ok;
      own =
          let is = run_is c.peek.new.self c.digit_len-run.result _ c.ahead-ahead.ensures c.digit_len-run.ensures.within in
          any_trans (any_trans c.digits.invariant.own (any_same c.in-Ok-Some.ensures.same)) (any_run _ (subst (Each is_digit) is c.digit_len-run.ensures.run) c.pass.ensures);
      exact = λ begun n s ps r h d.
          let w = c.digits.invariant.exact begun n s ps r h d in
          let to = λ (t : List ℕ). digits n t ∷ ps in
          let peeked = goes_trans w.goes (c.in-Ok-Some.ensures.exact (to w.text)) in
          let run = goes_run to w.text _ c.digit_len-run.result (λ s b h. digits_on r ps s b h) (λ s. d) c.digit_len-run.ensures.run
          (run_is c.peek.new.self c.digit_len-run.result _ c.ahead-ahead.ensures c.digit_len-run.ensures.within) c.pass.ensures in
          writes_goes silent to _ (gains_on (w.kept refl) c.in_default.ensures.ok) (goes_trans peeked run);
    }

pub returns-in-Err-clause-exact : goal.returns-in-Err-clause-exact
returns-in-Err-clause-exact g c = λ begun n s ps r h d.
    let w = c.digits.invariant.exact begun n s ps r h d in
    writes_on w.goes (writes_fault (c.in-Err.ensures.exact (digits n w.text ∷ ps)))

pub returns-in-Ok-None-clause-exact : goal.returns-in-Ok-None-clause-exact
returns-in-Ok-None-clause-exact g c = λ begun n s ps r h d.
    let w = c.digits.invariant.exact begun n s ps r h d in
    writes_goes silent (λ t. digits n t ∷ ps) w.text (w.kept refl) (goes_trans w.goes (c.in-Ok-None.ensures.exact (digits n w.text ∷ ps)))

pub returns-then-not-is_digit-clause-exact : goal.returns-then-not-is_digit-clause-exact
returns-then-not-is_digit-clause-exact g c = λ begun n s ps r h d.
    let w = c.digits.invariant.exact begun n s ps r h d in
    writes_goes silent (λ t. digits n t ∷ ps) w.text (w.kept refl) (goes_trans w.goes (c.in-Ok-Some.ensures.exact (digits n w.text ∷ ps)))

pub returns-in-Ok-None-clause-own : goal.returns-in-Ok-None-clause-own
returns-in-Ok-None-clause-own g c = any_trans c.digits.invariant.own (any_same c.in-Ok-None.ensures.same)

pub returns-then-not-is_digit-clause-own : goal.returns-then-not-is_digit-clause-own
returns-then-not-is_digit-clause-own g c = any_trans c.digits.invariant.own (any_same c.in-Ok-Some.ensures.same)
