use Rattle.std.proofs.Common.{◌≡◌, ◌<◌, true, arith, [], ◌∷◌}
use Rattle.std.proofs.lemmas.Grind.{common_steps}
use Rattle.prof_token.specs.Ahead.{IsNext}
use Rattle.prof_token.specs.Bytes.{is_space}
use Rattle.prof_token.proofs.Journeys.{moves_trans, moves_pass, moves_here, smaller}
use Rattle.prof_token.proofs.Runs.{run_some, run_here, run_within, run_is}
use Rattle.prof_grammar.specs.Machine.{blank}
use Rattle.prof_token.proofs.Machines.{goes_trans, goes_here, goes_run}
use Rattle.prof_token.proofs.Turns.{blank_on}
use Rattle.prof_token.proofs.token.skip_blank.Goals as goal

pub pass-requires-clause-here : goal.pass-requires-clause-here
pass-requires-clause-here g c = run_here c.peek.new.self c.blank_len-run.result _ c.ahead.ensures c.blank_len-run.ensures.within

pub pass-requires-clause-within : goal.pass-requires-clause-within
pass-requires-clause-within g c =
    let next : IsNext c.in-Ok-Some.byte c.peek.new.self = rw c.in-Ok-Some.field-0-is at c.in-Ok-Some.ensures.shown in
    run_within c.peek.new.self c.in-Ok-Some.byte c.blank_len-run.result _ next c.ahead.ensures c.blank_len-run.ensures.within

pub blanks-smaller : goal.blanks-smaller
blanks-smaller g c =
    let next : IsNext c.in-Ok-Some.byte c.peek.new.self = rw c.in-Ok-Some.field-0-is at c.in-Ok-Some.ensures.shown in
    let is : is_space c.in-Ok-Some.byte ≡ true = grind (arith, common_steps, c.is_blank.ensures) in
    let many : 0 < c.blank_len-run.result = run_some is_space c.peek.new.self c.in-Ok-Some.byte c.blank_len-run.result _ next c.ahead.ensures c.blank_len-run.ensures.stop is in
    smaller c.blanks.input c.peek.new.self c.pass.new.self c.blank_len-run.result c.in-Ok-Some.ensures.moves.on c.in-Ok-Some.ensures.moves.limit many c.pass.ensures

pub blanks-init : goal.blanks-init
blanks-init g c = record { moves = moves_here _ _; exact = λ ps d. goes_here _ _ _ }

pub blanks-preserved : goal.blanks-preserved
blanks-preserved g c = record {
  moves = moves_pass (moves_trans c.blanks.invariant.moves c.in-Ok-Some.ensures.moves) c.pass.ensures;
  exact = λ ps d.
      goes_trans (c.blanks.invariant.exact ps d) (goes_trans (c.in-Ok-Some.ensures.exact (blank ∷ ps))
      (goes_run (λ _. blank ∷ ps) [] _ c.blank_len-run.result (λ s b h. blank_on ps b h) (λ s. d) c.blank_len-run.ensures.run
      (run_is c.peek.new.self c.blank_len-run.result _ c.ahead.ensures c.blank_len-run.ensures.within) c.pass.ensures));
}

pub returns-in-Err-clause-moves : goal.returns-in-Err-clause-moves
returns-in-Err-clause-moves g c = moves_trans c.blanks.invariant.moves c.in-Err.ensures.moves

pub returns-in-Err-clause-exact : goal.returns-in-Err-clause-exact
returns-in-Err-clause-exact g c = λ ps d. goes_trans (c.blanks.invariant.exact ps d) (c.in-Err.ensures.exact (blank ∷ ps))

pub returns-in-Ok-None-clause-moves : goal.returns-in-Ok-None-clause-moves
returns-in-Ok-None-clause-moves g c = moves_trans c.blanks.invariant.moves c.in-Ok-None.ensures.moves

pub returns-in-Ok-None-clause-exact : goal.returns-in-Ok-None-clause-exact
returns-in-Ok-None-clause-exact g c = λ ps d. goes_trans (c.blanks.invariant.exact ps d) (c.in-Ok-None.ensures.exact (blank ∷ ps))

pub returns-then-not-is_blank-clause-moves : goal.returns-then-not-is_blank-clause-moves
returns-then-not-is_blank-clause-moves g c = moves_trans c.blanks.invariant.moves c.in-Ok-Some.ensures.moves

pub returns-then-not-is_blank-clause-exact : goal.returns-then-not-is_blank-clause-exact
returns-then-not-is_blank-clause-exact g c = λ ps d. goes_trans (c.blanks.invariant.exact ps d) (c.in-Ok-Some.ensures.exact (blank ∷ ps))
