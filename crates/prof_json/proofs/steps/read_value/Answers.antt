use Rattle.std.proofs.Common.{List, ◌∷◌, ◌∙◌}
use Rattle.std.proofs.lemmas.Result.{err_from_is_err_and}
use Rattle.prof_grammar.specs.Grammar.{value}
use Rattle.prof_grammar.specs.Machine.{Part, blank, symbol}
use Rattle.prof_json.specs.Parts.{behind}
use Rattle.prof_token.proofs.Journeys.{moves_trans}
use Rattle.prof_json.proofs.Standing as st
use Rattle.prof_token.proofs.Turns.{blank_over, value_cut}
use Rattle.prof_token.proofs.Written.{writes_on, writes_fault}
use Rattle.prof_token.proofs.Journeys.{on_ok_map}
use Rattle.prof_token.proofs.Owning.{owns_behind}
use Rattle.prof_json.proofs.steps.read_value.Goals as goal

pub returns-clause-moves : goal.returns-clause-moves
returns-clause-moves g c = moves_trans c.in_ok-first.ensures.moves c.begin_value.ensures.moves

pub returns-in_err-first-clause-exact : goal.returns-in_err-first-clause-exact
returns-in_err-first-clause-exact g c = λ begun h.
    let r = c.from_residual in
    let q = err_from_is_err_and r.result r.ensures.1 in
    let xs = c.args.brackets.now.items in
    rw (q.1, q.2) (writes_fault (c.in_err-first.ensures.exact (symbol value ∷ behind xs) (st.behind_few xs c.requires.few) (value_cut value (behind xs))))

pub returns-clause-exact : goal.returns-clause-exact
returns-clause-exact g c = λ begun h.
    let xs = c.args.brackets.now.items in
    let ps : List Part = symbol value ∷ behind xs in
    let first = c.in_ok-first.first in
    writes_on (c.in_ok-first.ensures.exact ps (st.behind_few xs c.requires.few) (value_cut value (behind xs)))
    (c.begin_value.ensures.exact begun (blank ∷ ps) (blank_over ps first c.in_ok-first.ensures.behind ∙ st.value_step (behind xs) first) h)

pub returns-clause-own : goal.returns-clause-own
returns-clause-own g c = on_ok_map c.begin_value.result (λ k. owns_behind c.in_ok-first.ensures.moves k) c.begin_value.ensures.own
