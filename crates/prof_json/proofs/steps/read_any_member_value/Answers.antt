use Rattle.std.proofs.Common.{List, [], ◌∷◌, refl, ◌∙◌, arith}
use Rattle.std.specs.Prelude.{None}
use Rattle.std.proofs.lemmas.Result.{err_from_is_err_and}
use Rattle.prof_grammar.specs.Grammar.{value}
use Rattle.prof_grammar.specs.Machine.{Part, blank, symbol, word, a_colon}
use Rattle.prof_token.specs.Ahead.{IsNext}
use Rattle.prof_json.specs.Nest as nest
use Rattle.prof_json.specs.Parts.{behind}
use Rattle.prof_token.proofs.Journeys.{moves_trans, moves_pass}
use Rattle.prof_token.proofs.Machines.{goes_trans, goes_byte, goes_wrong}
use Rattle.prof_json.proofs.Standing as st
use Rattle.prof_token.proofs.Turns.{blank_over, word_cut, word_last, word_wrong}
use Rattle.prof_token.proofs.Written.{writes_on, writes_fault}
use Rattle.prof_json.proofs.Enclosing.{value_steps}
use Rattle.prof_token.proofs.Journeys.{on_ok_map}
use Rattle.prof_token.proofs.Owning.{owns_behind}
use Rattle.prof_json.proofs.steps.read_any_member_value.Goals as goal

pub returns-clause-moves : goal.returns-clause-moves
returns-clause-moves g c = moves_trans (moves_pass c.in_ok-first.ensures.moves c.pass.ensures) c.read_value.ensures.moves

pub returns-clause-ok : goal.returns-clause-ok
returns-clause-ok g c =
    let p = c.in_ok-first.ensures.moves.on in
    let q = c.pass.ensures.place in
    value_steps _ _ _ _ c.pass.new.self _ _ _ c.read_value.result nest.named (omega arith) c.read_value.ensures.ok

pub returns-in_err-first-clause-exact : goal.returns-in_err-first-clause-exact
returns-in_err-first-clause-exact g c = λ begun h.
    let r = c.from_residual in
    let q = err_from_is_err_and r.result r.ensures.1 in
    let xs = c.args.brackets.now.items in
    let ps : List Part = blank ∷ symbol value ∷ behind xs in
    rw (q.1, q.2) (writes_fault (c.in_err-first.ensures.exact (word (58 ∷ []) a_colon ∷ ps) (st.behind_few xs c.requires.few) (word_cut (58 ∷ []) a_colon ps)))

pub returns-then-first-ne58-clause-exact : goal.returns-then-first-ne58-clause-exact
returns-then-first-ne58-clause-exact g c = λ begun h.
    let xs = c.args.brackets.now.items in
    let first = c.in_ok-first.first in
    let ps : List Part = blank ∷ symbol value ∷ behind xs in
    let needed = c.in_ok-first.ensures.exact (word (58 ∷ []) a_colon ∷ ps) (st.behind_few xs c.requires.few) (word_cut (58 ∷ []) a_colon ps) in
    let wrong = blank_over (word (58 ∷ []) a_colon ∷ ps) first c.in_ok-first.ensures.behind ∙ word_wrong first 58 [] a_colon ps c.if-first-ne58.true in
    writes_fault (goes_trans needed (goes_wrong {b = c.args.input.now} {m = None} {qs = []} {es = []} first c.in_ok-first.ensures.byte wrong c.wrong.ensures))

pub returns-clause-exact : goal.returns-clause-exact
returns-clause-exact g c = λ begun h.
    let xs = c.args.brackets.now.items in
    let ps : List Part = blank ∷ symbol value ∷ behind xs in
    let needed = c.in_ok-first.ensures.exact (word (58 ∷ []) a_colon ∷ ps) (st.behind_few xs c.requires.few) (word_cut (58 ∷ []) a_colon ps) in
    let next : IsNext 58 c.need_behind_blank.new.input = rw c.if-first-ne58.false at c.in_ok-first.ensures.byte in
    let colon = goes_byte 58 next c.pass.ensures (blank_over (word (58 ∷ []) a_colon ∷ ps) 58 refl ∙ word_last 58 a_colon ps) (st.behind_few xs c.requires.few) in
    writes_on (goes_trans needed colon) (c.read_value.ensures.exact begun h)

pub returns-clause-own : goal.returns-clause-own
returns-clause-own g c = on_ok_map c.read_value.result (λ k. owns_behind (moves_pass c.in_ok-first.ensures.moves c.pass.ensures) k) c.read_value.ensures.own
