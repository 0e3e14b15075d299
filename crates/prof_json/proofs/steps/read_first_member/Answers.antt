use Rattle.std.proofs.Common.{[], ◌∷◌, refl, ◌∙◌, arith}
use Rattle.std.specs.Prelude.{Ok}
use Rattle.std.proofs.lemmas.Result.{err_from_is_err_and}
use Rattle.prof_grammar.specs.Grammar.{members}
use Rattle.prof_grammar.specs.Machine.{blank, symbol}
use Rattle.prof_token.specs.Ahead.{IsNext}
use Rattle.prof_json.specs.Gives.{told_by}
use Rattle.prof_json.specs.Parts.{behind}
use Rattle.prof_json.specs.declared.answer.Event.TheVariants.{ObjectEnd}
use Rattle.prof_token.proofs.Journeys.{moves_trans, moves_pass}
use Rattle.prof_token.proofs.Machines.{goes_trans, goes_byte}
use Rattle.prof_json.proofs.Standing as st
use Rattle.prof_token.proofs.Turns.{blank_over, value_cut}
use Rattle.prof_token.proofs.Written.{writes_goes, writes_on, writes_fault}
use Rattle.prof_json.proofs.Enclosing.{steps_no_members, first_names}
use Rattle.prof_token.proofs.Journeys.{on_ok_map}
use Rattle.prof_token.proofs.Owning.{owns_byte, owns_behind}
use Rattle.prof_json.proofs.steps.read_first_member.Goals as goal

pub returns-then-first-eq125-clause-moves : goal.returns-then-first-eq125-clause-moves
returns-then-first-eq125-clause-moves g c = moves_pass c.in_ok-first.ensures.moves c.close_bracket.ensures.passed

pub returns-then-first-eq125-clause-ok : goal.returns-then-first-eq125-clause-ok
returns-then-first-eq125-clause-ok g c =
    let w = c.requires.occurs in
    let p = c.in_ok-first.ensures.moves.on in
    let q = c.close_bracket.ensures.passed.place in
    steps_no_members w c.requires.few (omega arith) (c.close_bracket.ensures.closed _ w.outer w.is)

pub returns-clause-moves : goal.returns-clause-moves
returns-clause-moves g c = moves_trans c.in_ok-first.ensures.moves c.read_name.ensures.moves

pub returns-clause-ok : goal.returns-clause-ok
returns-clause-ok g c = first_names _ _ c.need_behind_blank.new.input _ _ _ c.read_name.result c.requires.occurs c.requires.few c.in_ok-first.ensures.moves.on c.read_name.ensures.ok

pub returns-in_err-first-clause-exact : goal.returns-in_err-first-clause-exact
returns-in_err-first-clause-exact g c = λ begun h.
    let r = c.from_residual in
    let q = err_from_is_err_and r.result r.ensures.1 in
    let w = c.requires.occurs in
    let outer = behind w.outer in
    let few = st.outer_few w c.requires.few in
    rw (q.1, q.2, st.in_object w) (writes_fault (c.in_err-first.ensures.exact (symbol members ∷ outer) few (value_cut members outer)))

pub returns-then-first-eq125-clause-exact : goal.returns-then-first-eq125-clause-exact
returns-then-first-eq125-clause-exact g c = λ begun h.
    let w = c.requires.occurs in
    let outer = behind w.outer in
    let few = st.outer_few w c.requires.few in
    let needed = c.in_ok-first.ensures.exact (symbol members ∷ outer) few (value_cut members outer) in
    let next : IsNext 125 c.need_behind_blank.new.input = rw c.if-first-eq125.true at c.in_ok-first.ensures.byte in
    let closed = goes_byte 125 next c.close_bracket.ensures.passed (blank_over (symbol members ∷ outer) 125 refl ∙ st.members_close outer) (st.closed_few w c.requires.few) in
    let is = c.close_bracket.ensures.closed _ w.outer w.is in
    rw (st.in_object w) (writes_goes (told_by (Ok ObjectEnd)) (λ t. behind c.close_bracket.new.brackets.items) [] h (rw is (goes_trans needed closed)))

pub returns-clause-exact : goal.returns-clause-exact
returns-clause-exact g c = λ begun h.
    let w = c.requires.occurs in
    let outer = behind w.outer in
    let few = st.outer_few w c.requires.few in
    let first = c.in_ok-first.first in
    let xs = c.args.brackets.now.items in
    let needed = c.in_ok-first.ensures.exact (symbol members ∷ outer) few (value_cut members outer) in
    let named = st.takes_first_name w first c.in_ok-first.ensures.behind c.if-first-eq125.false in
    rw (st.in_object w) (writes_on needed (c.read_name.ensures.exact begun (blank ∷ symbol members ∷ outer) xs named h c.requires.few))

pub returns-then-first-eq125-clause-own : goal.returns-then-first-eq125-clause-own
returns-then-first-eq125-clause-own g c =
    let next : IsNext 125 c.need_behind_blank.new.input = rw c.if-first-eq125.true at c.in_ok-first.ensures.byte in
    owns_behind c.in_ok-first.ensures.moves (owns_byte _ next refl c.close_bracket.ensures.passed)

pub returns-clause-own : goal.returns-clause-own
returns-clause-own g c = on_ok_map c.read_name.result (λ k. owns_behind c.in_ok-first.ensures.moves k) c.read_name.ensures.own
