use Rattle.std.proofs.Common.{[], ◌∷◌, refl, ◌∙◌, arith}
use Rattle.std.specs.Prelude.{None, Ok}
use Rattle.std.proofs.lemmas.Result.{err_from_is_err_and}
use Rattle.prof_grammar.specs.Grammar.{more_items}
use Rattle.prof_grammar.specs.Machine.{symbol}
use Rattle.prof_token.specs.Ahead.{IsNext}
use Rattle.prof_json.specs.Gives.{told_by}
use Rattle.prof_json.specs.Parts.{behind}
use Rattle.prof_json.specs.declared.answer.Event.TheVariants.{ArrayEnd}
use Rattle.prof_token.proofs.Journeys.{moves_trans, moves_pass}
use Rattle.prof_token.proofs.Machines.{goes_trans, goes_byte, goes_wrong}
use Rattle.prof_json.proofs.Standing as st
use Rattle.prof_token.proofs.Turns.{blank_over, value_cut}
use Rattle.prof_token.proofs.Written.{writes_goes, writes_on, writes_fault}
use Rattle.prof_json.proofs.Enclosing.{steps_last_item, value_steps, takes_item}
use Rattle.prof_token.proofs.Journeys.{on_ok_map}
use Rattle.prof_token.proofs.Owning.{owns_byte, owns_behind}
use Rattle.prof_json.proofs.steps.read_any_item.Goals as goal

pub returns-then-first-eq93-clause-moves : goal.returns-then-first-eq93-clause-moves
returns-then-first-eq93-clause-moves g c = moves_pass c.in_ok-first.ensures.moves c.close_bracket.ensures.passed

pub returns-then-first-eq93-clause-ok : goal.returns-then-first-eq93-clause-ok
returns-then-first-eq93-clause-ok g c =
    let w = c.requires.within in
    let p = c.in_ok-first.ensures.moves.on in
    let q = c.close_bracket.ensures.passed.place in
    steps_last_item w c.requires.few (omega arith) (c.close_bracket.ensures.closed _ w.outer w.is)

pub returns-clause-moves : goal.returns-clause-moves
returns-clause-moves g c = moves_trans (moves_pass c.in_ok-first.ensures.moves c.pass.ensures) c.read_value.ensures.moves

pub returns-clause-ok : goal.returns-clause-ok
returns-clause-ok g c =
    let p = c.in_ok-first.ensures.moves.on in
    let q = c.pass.ensures.place in
    value_steps _ _ _ _ c.pass.new.self _ _ _ c.read_value.result (takes_item c.requires.within) (omega arith) c.read_value.ensures.ok

pub returns-in_err-first-clause-exact : goal.returns-in_err-first-clause-exact
returns-in_err-first-clause-exact g c = λ begun h.
    let r = c.from_residual in
    let q = err_from_is_err_and r.result r.ensures.1 in
    let w = c.requires.within in
    let outer = behind w.outer in
    let few = st.outer_few w c.requires.few in
    rw (q.1, q.2, st.in_array w) (writes_fault (c.in_err-first.ensures.exact (symbol more_items ∷ outer) few (value_cut more_items outer)))

pub returns-then-first-eq93-clause-exact : goal.returns-then-first-eq93-clause-exact
returns-then-first-eq93-clause-exact g c = λ begun h.
    let w = c.requires.within in
    let outer = behind w.outer in
    let few = st.outer_few w c.requires.few in
    let needed = c.in_ok-first.ensures.exact (symbol more_items ∷ outer) few (value_cut more_items outer) in
    let next : IsNext 93 c.need_behind_blank.new.input = rw c.if-first-eq93.true at c.in_ok-first.ensures.byte in
    let closed = goes_byte 93 next c.close_bracket.ensures.passed (blank_over (symbol more_items ∷ outer) 93 refl ∙ st.more_items_close outer) (st.closed_few w c.requires.few) in
    let is = c.close_bracket.ensures.closed _ w.outer w.is in
    rw (st.in_array w) (writes_goes (told_by (Ok ArrayEnd)) (λ t. behind c.close_bracket.new.brackets.items) [] h (rw is (goes_trans needed closed)))

pub returns-then-first-ne44-clause-exact : goal.returns-then-first-ne44-clause-exact
returns-then-first-ne44-clause-exact g c = λ begun h.
    let w = c.requires.within in
    let outer = behind w.outer in
    let few = st.outer_few w c.requires.few in
    let first = c.in_ok-first.first in
    let needed = c.in_ok-first.ensures.exact (symbol more_items ∷ outer) few (value_cut more_items outer) in
    let wrong = blank_over (symbol more_items ∷ outer) first c.in_ok-first.ensures.behind ∙ st.more_items_wrong outer first c.if-first-eq93.false c.if-first-ne44.true in
    rw (st.in_array w) (writes_fault (goes_trans needed (goes_wrong {b = c.args.input.now} {m = None} {qs = []} {es = []} first c.in_ok-first.ensures.byte wrong c.wrong.ensures)))

pub returns-clause-exact : goal.returns-clause-exact
returns-clause-exact g c = λ begun h.
    let w = c.requires.within in
    let outer = behind w.outer in
    let few = st.outer_few w c.requires.few in
    let needed = c.in_ok-first.ensures.exact (symbol more_items ∷ outer) few (value_cut more_items outer) in
    let next : IsNext 44 c.need_behind_blank.new.input = rw c.if-first-ne44.false at c.in_ok-first.ensures.byte in
    let comma = goes_byte 44 next c.pass.ensures (blank_over (symbol more_items ∷ outer) 44 refl ∙ st.more_items_comma outer) few in
    let value = rw (st.in_array w) at c.read_value.ensures.exact begun h in
    rw (st.in_array w) (writes_on (goes_trans needed comma) value)

pub returns-then-first-eq93-clause-own : goal.returns-then-first-eq93-clause-own
returns-then-first-eq93-clause-own g c =
    let next : IsNext 93 c.need_behind_blank.new.input = rw c.if-first-eq93.true at c.in_ok-first.ensures.byte in
    owns_behind c.in_ok-first.ensures.moves (owns_byte _ next refl c.close_bracket.ensures.passed)

pub returns-clause-own : goal.returns-clause-own
returns-clause-own g c = on_ok_map c.read_value.result (λ k. owns_behind (moves_pass c.in_ok-first.ensures.moves c.pass.ensures) k) c.read_value.ensures.own
