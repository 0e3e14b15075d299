use Rattle.std.proofs.Common.{◌≡◌, ◌∷◌, true, false, refl, sym, ◌∙◌, ◌+◌, ◌*◌}
use Rattle.std.specs.Char.{is_ascii_hexdigit, digit_value}
use Rattle.std.proofs.lemmas.Result.{err_from_is_err_and}
use Rattle.prof_grammar.specs.Machine.{chars, hex}
use Rattle.prof_token.proofs.Journeys.{moves_pass, moves_wrong}
use Rattle.prof_token.proofs.Machines.{goes_trans, goes_byte, goes_wrong, goes_as}
use Rattle.prof_token.proofs.Turns as t
use Rattle.prof_token.proofs.escape.read_hex.Goals as goal

pub returns-in-None-clause-moves : goal.returns-in-None-clause-moves
returns-in-None-clause-moves g c = moves_wrong c.wrong.ensures c.in_ok-byte.ensures.moves

pub returns-in-Some-clause-moves : goal.returns-in-Some-clause-moves
returns-in-Some-clause-moves g c = moves_pass c.in_ok-byte.ensures.moves c.pass.ensures

pub returns-in_err-byte-clause-exact : goal.returns-in_err-byte-clause-exact
returns-in_err-byte-clause-exact g c = λ k s p n v ps d.
    let r = c.from_residual in
    let q = err_from_is_err_and r.result r.ensures.1 in
    rw (q.1, q.2) (goes_as (c.in_err-byte.ensures.exact (chars k s p (hex n v) ∷ ps) (t.chars_cut k s p (hex n v) ps)))

pub returns-in-None-clause-exact : goal.returns-in-None-clause-exact
returns-in-None-clause-exact g c = λ k s p n v ps d.
    let byte = c.in_ok-byte.byte in
    let no : is_ascii_hexdigit byte ≡ false = sym (c.hex_value.ensures.test) ∙ rw c.in-None.is refl in
    goes_trans (c.in_ok-byte.ensures.exact (chars k s p (hex n v) ∷ ps) (t.chars_cut k s p (hex n v) ps)) (goes_wrong byte c.in_ok-byte.ensures.byte (t.hex_wrong k s p n v ps byte no) c.wrong.ensures)

pub returns-in-Some-clause-exact : goal.returns-in-Some-clause-exact
returns-in-Some-clause-exact g c = λ k s p n v ps d.
    let byte = c.in_ok-byte.byte in
    let is : is_ascii_hexdigit byte ≡ true = sym (c.hex_value.ensures.test) ∙ rw c.in-Some.is refl in
    let value : c.in-Some.digit ≡ digit_value byte = (rw c.in-Some.is at c.hex_value.ensures.value).0 in
    rw value (goes_trans (c.in_ok-byte.ensures.exact (chars k s p (hex n v) ∷ ps) (t.chars_cut k s p (hex n v) ps))
    (goes_byte byte c.in_ok-byte.ensures.byte c.pass.ensures (t.hex_on k s p n v ps byte is) (t.hex_depth k s p n (v * 16 + digit_value byte) ps d)))
