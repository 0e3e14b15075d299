use Rattle.std.proofs.Common.{ℕ, List, [], ◌∷◌, ◌++◌, refl, arith}
use Rattle.std.specs.Prelude.{None}
use Rattle.std.proofs.lemmas.Result.{err_from_is_err_and}
use Rattle.prof_grammar.specs.Machine.{chars, nothing, settled, one_more}
use Rattle.prof_token.specs.Writes.{silent}
use Rattle.prof_token.proofs.Journeys.{moves_trans, moves_pass, moves_here, moves_push, on_ok, on_ok_map}
use Rattle.prof_token.proofs.Texts.{gains_on}
use Rattle.prof_token.proofs.Machines.{goes_trans, goes_byte}
use Rattle.prof_token.proofs.Turns as t
use Rattle.prof_token.proofs.Written.{writes_fault, writes_if}
use Rattle.prof_token.proofs.Utf8.{two_utf8}
use Rattle.prof_token.proofs.string.read_two.Goals as goal

pub returns-in_err-second-clause-moves : goal.returns-in_err-second-clause-moves
returns-in_err-second-clause-moves g c =
    let r = c.from_residual in
    let p = err_from_is_err_and r.result r.ensures.1 in
    rw (p.1, p.2) (moves_trans (moves_pass (moves_here _ _) c.pass.ensures) c.in_err-second.ensures.moves)

pub push-requires : goal.push-requires
push-requires g c = two_utf8 c.args.first c.in_ok-second.second c.requires.range.0 c.requires.range.1 c.in_ok-second.ensures.between.0 c.in_ok-second.ensures.between.1

pub returns-clause-moves : goal.returns-clause-moves
returns-clause-moves g c = moves_push c.push.result c.push.ensures.err (moves_trans (moves_pass (moves_here _ _) c.pass.ensures) c.in_ok-second.ensures.moves)

pub returns-clause-further : goal.returns-clause-further
returns-clause-further g c =
    let p = c.pass.ensures.place in
    let q = c.in_ok-second.ensures.moves.on in
    on_ok c.push.result (omega arith)

pub returns-in_err-second-clause-exact : goal.returns-in_err-second-clause-exact
returns-in_err-second-clause-exact g c = λ begun k s p ps h d.
    let r = c.from_residual in
    let q = err_from_is_err_and r.result r.ensures.1 in
    let first = c.args.first in
    let began = goes_byte first c.requires.next c.pass.ensures (t.lead_on k s p ps first one_more (t.leads_two first c.requires.range.0 c.requires.range.1)) d in
    rw (q.1, q.2) (writes_fault (goes_trans began (c.in_err-second.ensures.exact k s p one_more (first ∷ []) ps refl refl d)))

pub returns-clause-exact : goal.returns-clause-exact
returns-clause-exact g c = λ begun k s p ps h d.
    let first = c.args.first in
    let began = goes_byte first c.requires.next c.pass.ensures (t.lead_on k s p ps first one_more (t.leads_two first c.requires.range.0 c.requires.range.1)) d in
    let to = λ (t : List ℕ). chars k t None nothing ∷ ps in
    writes_if silent to (settled s p ++ first ∷ c.in_ok-second.second ∷ []) c.push.result c.push.ensures.err (on_ok_map c.push.result (λ g. gains_on h g) c.push.ensures.ok)
    (goes_trans began (c.in_ok-second.ensures.exact k s p one_more (first ∷ []) ps refl refl d))
