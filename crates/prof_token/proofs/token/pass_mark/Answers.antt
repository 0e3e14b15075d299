use Rattle.std.proofs.Common.{◌∷◌}
use Rattle.prof_grammar.specs.Machine.{mark, a_mark}
use Rattle.prof_token.specs.Ahead.{IsNext}
use Rattle.prof_token.proofs.Journeys.{moves_trans, moves_pass}
use Rattle.prof_token.proofs.Machines.{goes_trans, goes_ended, goes_over, goes_byte}
use Rattle.prof_token.proofs.Turns.{mark_on, mark_over, mark_end}
use Rattle.prof_token.proofs.token.pass_mark.Goals as goal

pub returns-in-None-clause-exact : goal.returns-in-None-clause-exact
returns-in-None-clause-exact g c = λ ps d.
    let shown = rw c.in-None.is at c.in_ok-peek.ensures.shown in
    goes_trans (c.in_ok-peek.ensures.exact (mark ∷ ps)) (goes_ended shown (mark_end ps))

pub returns-in-Some-eq239-clause-moves : goal.returns-in-Some-eq239-clause-moves
returns-in-Some-eq239-clause-moves g c = moves_trans (moves_pass c.in_ok-peek.ensures.moves c.pass.ensures) c.pass_word.ensures.moves

pub returns-in-Some-eq239-clause-exact : goal.returns-in-Some-eq239-clause-exact
returns-in-Some-eq239-clause-exact g c = λ ps d.
    let shown : IsNext c.in-Some-eq239.field-0 c.peek.new.self = rw c.in-Some-eq239.is at c.in_ok-peek.ensures.shown in
    let next : IsNext 239 c.peek.new.self = rw c.in-Some-eq239.field-0-test at shown in
    goes_trans (goes_trans (c.in_ok-peek.ensures.exact (mark ∷ ps)) (goes_byte 239 next c.pass.ensures (mark_on ps) d)) (c.pass_word.ensures.exact a_mark ps d)

pub returns-in-Some-clause-exact : goal.returns-in-Some-clause-exact
returns-in-Some-clause-exact g c = λ ps d.
    let shown : IsNext c.in-Some.field-0 c.peek.new.self = rw c.in-Some.is at c.in_ok-peek.ensures.shown in
    goes_trans (c.in_ok-peek.ensures.exact (mark ∷ ps)) (goes_over c.in-Some.field-0 shown (mark_over ps c.in-Some.field-0 c.in-Some.field-0-test.1))
