use Rattle.std.proofs.Common.{[], ◌∷◌, arith}
use Rattle.prof_grammar.specs.Machine.{blank}
use Rattle.prof_grammar.specs.Reading.{finished}
use Rattle.prof_token.specs.Ahead.{IsNext}
use Rattle.prof_token.proofs.Machines.{goes_trans, goes_wrong, stops_behind, stops_finished}
use Rattle.prof_json.proofs.Standing as st
use Rattle.prof_json.proofs.steps.read_end.Goals as goal

pub returns-in-None-clause-finished : goal.returns-in-None-clause-finished
returns-in-None-clause-finished g c =
    let shown = rw c.in-None.is at c.in_ok-skip_blank.ensures.shown in
    stops_behind finished (c.in_ok-skip_blank.ensures.exact [] (omega arith)) (stops_finished _ _ (blank ∷ []) shown st.end_finish)

pub returns-in-Some-clause-exact : goal.returns-in-Some-clause-exact
returns-in-Some-clause-exact g c =
    let byte = c.in-Some.field-0 in
    let shown : IsNext byte c.skip_blank.new.input = rw c.in-Some.is at c.in_ok-skip_blank.ensures.shown in
    let other = rw c.in-Some.is at c.in_ok-skip_blank.ensures.behind in
    goes_trans (c.in_ok-skip_blank.ensures.exact [] (omega arith)) (goes_wrong byte shown (st.end_wrong byte other) c.wrong.ensures)
