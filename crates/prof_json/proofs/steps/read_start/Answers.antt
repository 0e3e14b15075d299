use Rattle.std.proofs.Common.{◌∷◌}
use Rattle.prof_grammar.specs.Grammar.{value}
use Rattle.prof_grammar.specs.Machine.{blank, symbol}
use Rattle.prof_json.specs.Nest as nest
use Rattle.prof_json.specs.Parts.{behind}
use Rattle.prof_token.proofs.Journeys.{moves_trans}
use Rattle.prof_json.proofs.Standing as st
use Rattle.prof_token.proofs.Written.{writes_on}
use Rattle.prof_json.proofs.Enclosing.{value_steps}
use Rattle.prof_token.proofs.Journeys.{on_ok_map}
use Rattle.prof_token.proofs.Owning.{owns_behind}
use Rattle.prof_json.proofs.steps.read_start.Goals as goal

pub returns-clause-moves : goal.returns-clause-moves
returns-clause-moves g c = moves_trans c.in_ok-pass_mark.ensures.moves c.read_value.ensures.moves

pub returns-clause-ok : goal.returns-clause-ok
returns-clause-ok g c = value_steps _ _ _ _ c.pass_mark.new.input _ _ _ c.read_value.result nest.top c.in_ok-pass_mark.ensures.moves.on c.read_value.ensures.ok

pub returns-clause-exact : goal.returns-clause-exact
returns-clause-exact g c = λ begun h.
    let xs = c.args.brackets.now.items in
    writes_on (c.in_ok-pass_mark.ensures.exact (blank ∷ symbol value ∷ behind xs) (st.behind_few xs c.requires.few)) (c.read_value.ensures.exact begun h)

pub returns-clause-own : goal.returns-clause-own
returns-clause-own g c = on_ok_map c.read_value.result (λ k. owns_behind c.in_ok-pass_mark.ensures.moves k) c.read_value.ensures.own
