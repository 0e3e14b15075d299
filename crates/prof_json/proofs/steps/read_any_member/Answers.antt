use Rattle.std.proofs.Common.{List, [], ◌∷◌, refl, ◌∙◌, arith}
use Rattle.std.specs.Prelude.{None, Ok}
use Rattle.std.proofs.lemmas.Result.{err_from_is_err_and}
use Rattle.prof_grammar.specs.Grammar.{more_members, member}
use Rattle.prof_grammar.specs.Machine.{Part, blank, symbol}
use Rattle.prof_token.specs.Ahead.{IsNext}
use Rattle.prof_json.specs.Gives.{told_by}
use Rattle.prof_json.specs.Parts.{behind}
use Rattle.prof_json.specs.declared.answer.Event.TheVariants.{ObjectEnd}
use Rattle.prof_token.proofs.Journeys.{moves_trans, moves_pass}
use Rattle.prof_token.proofs.Machines.{goes_trans, goes_byte, goes_wrong}
use Rattle.prof_json.proofs.Standing as st
use Rattle.prof_token.proofs.Turns.{blank_over, value_cut}
use Rattle.prof_token.proofs.Written.{writes_goes, writes_on, writes_fault}
use Rattle.prof_json.proofs.Enclosing.{steps_last_member, next_names}
use Rattle.prof_token.proofs.Journeys.{on_ok_map}
use Rattle.prof_token.proofs.Owning.{owns_byte, owns_behind}
use Rattle.prof_json.proofs.steps.read_any_member.Goals as goal

pub returns-then-first-eq125-clause-moves : goal.returns-then-first-eq125-clause-moves
returns-then-first-eq125-clause-moves g c = moves_pass c.in_ok-first.ensures.moves c.close_bracket.ensures.passed

pub returns-then-first-eq125-clause-ok : goal.returns-then-first-eq125-clause-ok
returns-then-first-eq125-clause-ok g c =
    let w = c.requires.within in
    let p = c.in_ok-first.ensures.moves.on in
    let q = c.close_bracket.ensures.passed.place in
    steps_last_member w c.requires.few (omega arith) (c.close_bracket.ensures.closed _ w.outer w.is)

pub returns-in_err-quote-clause-moves : goal.returns-in_err-quote-clause-moves
returns-in_err-quote-clause-moves g c =
    let r = c.from_residual-in_err-quote in
    let p = err_from_is_err_and r.result r.ensures.1 in
    rw (p.1, p.2) (moves_trans (moves_pass c.in_ok-first.ensures.moves c.pass.ensures) c.in_err-quote.ensures.moves)

pub returns-clause-moves : goal.returns-clause-moves
returns-clause-moves g c = moves_trans (moves_trans (moves_pass c.in_ok-first.ensures.moves c.pass.ensures) c.in_ok-quote.ensures.moves) c.read_name.ensures.moves

pub returns-clause-ok : goal.returns-clause-ok
returns-clause-ok g c =
    let p = c.in_ok-first.ensures.moves.on in
    let q = c.pass.ensures.place in
    let r = c.in_ok-quote.ensures.moves.on in
    next_names _ _ c.need_behind_blank-2.new.input _ _ _ c.read_name.result c.requires.within c.requires.few (omega arith) c.read_name.ensures.ok

pub returns-in_err-first-clause-exact : goal.returns-in_err-first-clause-exact
returns-in_err-first-clause-exact g c = λ begun h.
    let r = c.from_residual in
    let q = err_from_is_err_and r.result r.ensures.1 in
    let w = c.requires.within in
    let outer = behind w.outer in
    let few = st.outer_few w c.requires.few in
    rw (q.1, q.2, st.in_object w) (writes_fault (c.in_err-first.ensures.exact (symbol more_members ∷ outer) few (value_cut more_members outer)))

pub returns-then-first-eq125-clause-exact : goal.returns-then-first-eq125-clause-exact
returns-then-first-eq125-clause-exact g c = λ begun h.
    let w = c.requires.within in
    let outer = behind w.outer in
    let few = st.outer_few w c.requires.few in
    let needed = c.in_ok-first.ensures.exact (symbol more_members ∷ outer) few (value_cut more_members outer) in
    let next : IsNext 125 c.need_behind_blank.new.input = rw c.if-first-eq125.true at c.in_ok-first.ensures.byte in
    let closed = goes_byte 125 next c.close_bracket.ensures.passed (blank_over (symbol more_members ∷ outer) 125 refl ∙ st.more_members_close outer) (st.closed_few w c.requires.few) in
    let is = c.close_bracket.ensures.closed _ w.outer w.is in
    rw (st.in_object w) (writes_goes (told_by (Ok ObjectEnd)) (λ t. behind c.close_bracket.new.brackets.items) [] h (rw is (goes_trans needed closed)))

pub returns-then-first-ne44-clause-exact : goal.returns-then-first-ne44-clause-exact
returns-then-first-ne44-clause-exact g c = λ begun h.
    let w = c.requires.within in
    let outer = behind w.outer in
    let few = st.outer_few w c.requires.few in
    let first = c.in_ok-first.first in
    let needed = c.in_ok-first.ensures.exact (symbol more_members ∷ outer) few (value_cut more_members outer) in
    let wrong = blank_over (symbol more_members ∷ outer) first c.in_ok-first.ensures.behind ∙ st.more_members_wrong outer first c.if-first-eq125.false c.if-first-ne44.true in
    rw (st.in_object w) (writes_fault (goes_trans needed (goes_wrong {b = c.args.input.now} {m = None} {qs = []} {es = []} first c.in_ok-first.ensures.byte wrong c.wrong.ensures)))

pub returns-in_err-quote-clause-exact : goal.returns-in_err-quote-clause-exact
returns-in_err-quote-clause-exact g c = λ begun h.
    let r = c.from_residual-in_err-quote in
    let q = err_from_is_err_and r.result r.ensures.1 in
    let w = c.requires.within in
    let outer = behind w.outer in
    let few = st.outer_few w c.requires.few in
    let needed = c.in_ok-first.ensures.exact (symbol more_members ∷ outer) few (value_cut more_members outer) in
    let next : IsNext 44 c.need_behind_blank.new.input = rw c.if-first-ne44.false at c.in_ok-first.ensures.byte in
    let comma = goes_byte 44 next c.pass.ensures (blank_over (symbol more_members ∷ outer) 44 refl ∙ st.more_members_comma outer) few in
    let ps : List Part = symbol more_members ∷ outer in
    rw (q.1, q.2, st.in_object w) (writes_fault (goes_trans (goes_trans needed comma) (c.in_err-quote.ensures.exact (symbol member ∷ ps) few (value_cut member ps))))

pub returns-clause-exact : goal.returns-clause-exact
returns-clause-exact g c = λ begun h.
    let w = c.requires.within in
    let outer = behind w.outer in
    let few = st.outer_few w c.requires.few in
    let xs = c.args.brackets.now.items in
    let needed = c.in_ok-first.ensures.exact (symbol more_members ∷ outer) few (value_cut more_members outer) in
    let next : IsNext 44 c.need_behind_blank.new.input = rw c.if-first-ne44.false at c.in_ok-first.ensures.byte in
    let comma = goes_byte 44 next c.pass.ensures (blank_over (symbol more_members ∷ outer) 44 refl ∙ st.more_members_comma outer) few in
    let ps : List Part = symbol more_members ∷ outer in
    let quote = goes_trans (goes_trans needed comma) (c.in_ok-quote.ensures.exact (symbol member ∷ ps) few (value_cut member ps)) in
    let named = st.takes_next_name w c.in_ok-quote.quote c.in_ok-quote.ensures.behind in
    rw (st.in_object w) (writes_on quote (c.read_name.ensures.exact begun (blank ∷ symbol member ∷ ps) xs named h c.requires.few))

pub returns-then-first-eq125-clause-own : goal.returns-then-first-eq125-clause-own
returns-then-first-eq125-clause-own g c =
    let next : IsNext 125 c.need_behind_blank.new.input = rw c.if-first-eq125.true at c.in_ok-first.ensures.byte in
    owns_behind c.in_ok-first.ensures.moves (owns_byte _ next refl c.close_bracket.ensures.passed)

pub returns-clause-own : goal.returns-clause-own
returns-clause-own g c = on_ok_map c.read_name.result (λ k. owns_behind (moves_trans (moves_pass c.in_ok-first.ensures.moves c.pass.ensures) c.in_ok-quote.ensures.moves) k) c.read_name.ensures.own
