use Rattle.std.proofs.Common.{◌≡◌, ℕ, sym, arith, ◌+◌, ◌*◌}
use Rattle.std.proofs.lemmas.Result.{err_from_is_err_and}
use Rattle.prof_token.proofs.Journeys.{moves_trans}
use Rattle.prof_token.proofs.Machines.{goes_trans, goes_as}
use Rattle.prof_token.proofs.escape.read_unit.Goals as goal

pub returns-in_err-a-clause-exact : goal.returns-in_err-a-clause-exact
returns-in_err-a-clause-exact g c = λ k s p ps d.
    let r = c.from_residual in
    let q = err_from_is_err_and r.result r.ensures.1 in
    rw (q.1, q.2) (goes_as (c.in_err-a.ensures.exact k s p 3 0 ps d))

pub returns-in_err-b-clause-moves : goal.returns-in_err-b-clause-moves
returns-in_err-b-clause-moves g c =
    let r = c.from_residual-in_err-b in
    let p = err_from_is_err_and r.result r.ensures.1 in
    rw (p.1, p.2) (moves_trans c.in_ok-a.ensures.moves c.in_err-b.ensures.moves)

pub returns-in_err-b-clause-exact : goal.returns-in_err-b-clause-exact
returns-in_err-b-clause-exact g c = λ k s p ps d.
    let r = c.from_residual-in_err-b in
    let q = err_from_is_err_and r.result r.ensures.1 in
    rw (q.1, q.2) (goes_as (goes_trans (c.in_ok-a.ensures.exact k s p 3 0 ps d) (c.in_err-b.ensures.exact k s p 2 (0 * 16 + c.in_ok-a.a) ps d)))

pub returns-in_err-c-clause-moves : goal.returns-in_err-c-clause-moves
returns-in_err-c-clause-moves g c =
    let r = c.from_residual-in_err-c in
    let p = err_from_is_err_and r.result r.ensures.1 in
    rw (p.1, p.2) (moves_trans (moves_trans c.in_ok-a.ensures.moves c.in_ok-b.ensures.moves) c.in_err-c.ensures.moves)

pub returns-in_err-c-clause-exact : goal.returns-in_err-c-clause-exact
returns-in_err-c-clause-exact g c = λ k s p ps d.
    let r = c.from_residual-in_err-c in
    let q = err_from_is_err_and r.result r.ensures.1 in
    let two = goes_trans (c.in_ok-a.ensures.exact k s p 3 0 ps d) (c.in_ok-b.ensures.exact k s p 2 (0 * 16 + c.in_ok-a.a) ps d) in
    rw (q.1, q.2) (goes_as (goes_trans two (c.in_err-c.ensures.exact k s p 1 ((0 * 16 + c.in_ok-a.a) * 16 + c.in_ok-b.b) ps d)))

pub returns-in_err-d-clause-moves : goal.returns-in_err-d-clause-moves
returns-in_err-d-clause-moves g c =
    let r = c.from_residual-in_err-d in
    let p = err_from_is_err_and r.result r.ensures.1 in
    rw (p.1, p.2) (moves_trans (moves_trans (moves_trans c.in_ok-a.ensures.moves c.in_ok-b.ensures.moves) c.in_ok-c.ensures.moves) c.in_err-d.ensures.moves)

pub returns-in_err-d-clause-exact : goal.returns-in_err-d-clause-exact
returns-in_err-d-clause-exact g c = λ k s p ps d.
    let r = c.from_residual-in_err-d in
    let q = err_from_is_err_and r.result r.ensures.1 in
    let two = goes_trans (c.in_ok-a.ensures.exact k s p 3 0 ps d) (c.in_ok-b.ensures.exact k s p 2 (0 * 16 + c.in_ok-a.a) ps d) in
    let three = goes_trans two (c.in_ok-c.ensures.exact k s p 1 ((0 * 16 + c.in_ok-a.a) * 16 + c.in_ok-b.b) ps d) in
    rw (q.1, q.2) (goes_as (goes_trans three (c.in_err-d.ensures.exact k s p 0 (((0 * 16 + c.in_ok-a.a) * 16 + c.in_ok-b.b) * 16 + c.in_ok-c.c) ps d)))

pub returns-clause-moves : goal.returns-clause-moves
returns-clause-moves g c = moves_trans (moves_trans (moves_trans c.in_ok-a.ensures.moves c.in_ok-b.ensures.moves) c.in_ok-c.ensures.moves) c.in_ok-d.ensures.moves

value_is : (a b c d : ℕ) → (((0 * 16 + a) * 16 + b) * 16 + c) * 16 + d ≡ a * 4096 + b * 256 + c * 16 + d
value_is a b c d = omega arith

pub returns-clause-exact : goal.returns-clause-exact
returns-clause-exact g c = λ k s p ps d.
    let two = goes_trans (c.in_ok-a.ensures.exact k s p 3 0 ps d) (c.in_ok-b.ensures.exact k s p 2 (0 * 16 + c.in_ok-a.a) ps d) in
    let three = goes_trans two (c.in_ok-c.ensures.exact k s p 1 ((0 * 16 + c.in_ok-a.a) * 16 + c.in_ok-b.b) ps d) in
    let four = goes_trans three (c.in_ok-d.ensures.exact k s p 0 (((0 * 16 + c.in_ok-a.a) * 16 + c.in_ok-b.b) * 16 + c.in_ok-c.c) ps d) in
    rw (sym (value_is c.in_ok-a.a c.in_ok-b.b c.in_ok-c.c c.in_ok-d.d)) four
