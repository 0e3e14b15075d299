use Rattle.std.proofs.Common.{refl, arith}
use Rattle.std.proofs.lemmas.Result.{err_from_is_err_and}
use Rattle.prof_token.specs.Stages.{whole_stage, behind_fraction, behind_exponent}
use Rattle.prof_token.proofs.Journeys.{moves_trans, on_ok, on_ok_map, if_ok_map}
use Rattle.prof_token.proofs.Texts.{adds_unsigned}
use Rattle.prof_token.proofs.Machines.{goes_trans}
use Rattle.prof_token.proofs.Turns as t
use Rattle.prof_token.proofs.Written.{writes_on, counts_fault, counts_on, counts_of}
use Rattle.prof_token.proofs.Owning.{owns_then}
use Rattle.prof_token.proofs.number.read_unsigned.Goals as goal

pub returns-in_err-behind_whole-clause-exact : goal.returns-in_err-behind_whole-clause-exact
returns-in_err-behind_whole-clause-exact g c = λ begun s qs ps e h d.
    let r = c.from_residual in
    let p = err_from_is_err_and r.result r.ensures.1 in
    let w = c.in_err-behind_whole.ensures.exact begun s qs ps e h d in
    rw (p.1, p.2) (counts_fault w.goes)

pub returns-in_err-behind_fraction-clause-moves : goal.returns-in_err-behind_fraction-clause-moves
returns-in_err-behind_fraction-clause-moves g c =
    let r = c.from_residual-in_err-behind_fraction in
    let p = err_from_is_err_and r.result r.ensures.1 in
    rw (p.1, p.2) (moves_trans c.in_ok-behind_whole.ensures.moves c.in_err-behind_fraction.ensures.moves)

pub returns-in_err-behind_fraction-clause-exact : goal.returns-in_err-behind_fraction-clause-exact
returns-in_err-behind_fraction-clause-exact g c = λ begun s qs ps e h d.
    let r = c.from_residual-in_err-behind_fraction in
    let p = err_from_is_err_and r.result r.ensures.1 in
    let first = c.args.first in
    let w = c.in_ok-behind_whole.ensures.exact begun s qs ps e h d in
    let v = c.in_err-behind_fraction.ensures.exact begun (whole_stage first) w.text ps (t.takes_fraction first) (w.kept refl) d in
    rw (p.1, p.2) (counts_on w.goes (counts_fault v.goes))

pub returns-clause-moves : goal.returns-clause-moves
returns-clause-moves g c = moves_trans (moves_trans c.in_ok-behind_whole.ensures.moves c.in_ok-behind_fraction.ensures.moves) c.read_exponent.ensures.moves

pub returns-clause-text : goal.returns-clause-text
returns-clause-text g c = on_ok_map c.read_exponent.result (adds_unsigned c.in_ok-behind_whole.ensures.text c.in_ok-behind_fraction.ensures.text) c.read_exponent.ensures.text

pub returns-clause-further : goal.returns-clause-further
returns-clause-further g c =
    let p = c.in_ok-behind_whole.ensures.further in
    let q = c.in_ok-behind_fraction.ensures.moves.on in
    let r = c.read_exponent.ensures.moves.on in
    on_ok c.read_exponent.result (omega arith)

pub returns-clause-exact : goal.returns-clause-exact
returns-clause-exact g c = λ begun s qs ps e h d.
    let first = c.args.first in
    let whole = c.in_ok-behind_whole.behind_whole in
    let fraction = c.in_ok-behind_fraction.behind_fraction in
    let n = behind_fraction whole (whole_stage first) in
    let w = c.in_ok-behind_whole.ensures.exact begun s qs ps e h d in
    let v = c.in_ok-behind_fraction.ensures.exact begun (whole_stage first) w.text ps (t.takes_fraction first) (w.kept refl) d in
    let u = c.read_exponent.ensures.exact begun n v.text ps (t.takes_exponent whole first) (v.kept refl) d in
    let over = c.in_ok-behind_fraction.ensures.over (whole_stage first) c.in_ok-behind_whole.ensures.over in
    counts_of (behind_exponent fraction n) c.read_exponent.result
    (if_ok_map c.read_exponent.result (λ o k. k n over) c.read_exponent.ensures.over)
    (writes_on (goes_trans w.goes v.goes) u)

pub returns-clause-own : goal.returns-clause-own
returns-clause-own g c = on_ok_map c.read_exponent.result (λ k. owns_then (owns_then c.in_ok-behind_whole.ensures.own c.in_ok-behind_fraction.ensures.own) k) c.read_exponent.ensures.own
