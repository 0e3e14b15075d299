use Rattle.std.proofs.Common.{◌≡◌, ℕ, List, [], ◌∷◌, ◌++◌, sym, ◌∙◌, arith}
use Rattle.std.specs.Prelude.{Some, None}
use Rattle.std.proofs.lemmas.Result.{err_from_is_err_and}
use Rattle.prof_grammar.specs.Machine.{chars, nothing, escape, settled, escaped}
use Rattle.prof_token.specs.Ahead.{IsNext}
use Rattle.prof_token.specs.Writes.{silent}
use Rattle.prof_token.proofs.Journeys.{moves_trans, moves_pass, moves_here, moves_wrong, moves_push, moves_full, on_ok, if_ok_map}
use Rattle.prof_token.proofs.Texts.{gains_on}
use Rattle.prof_token.proofs.Machines.{goes_trans, goes_byte, goes_wrong}
use Rattle.prof_token.proofs.Turns as t
use Rattle.prof_token.proofs.Written.{writes_goes, writes_fault, writes_full, writes_unit}
use Rattle.prof_token.proofs.escape.read_escape.Goals as goal

pub returns-in_err-letter-clause-moves : goal.returns-in_err-letter-clause-moves
returns-in_err-letter-clause-moves g c =
    let r = c.from_residual in
    let p = err_from_is_err_and r.result r.ensures.1 in
    rw (p.1, p.2) (moves_trans (moves_pass (moves_here _ _) c.pass.ensures) c.in_err-letter.ensures.moves)

pub returns-in_err-unit-clause-moves : goal.returns-in_err-unit-clause-moves
returns-in_err-unit-clause-moves g c =
    let r = c.from_residual-in_err-unit in
    let p = err_from_is_err_and r.result r.ensures.1 in
    rw (p.1, p.2) (moves_trans (moves_pass (moves_trans (moves_pass (moves_here _ _) c.pass.ensures) c.in_ok-letter.ensures.moves) c.pass-then-letter-eq117.ensures) c.in_err-unit.ensures.moves)

pub returns-then-letter-eq117-clause-moves : goal.returns-then-letter-eq117-clause-moves
returns-then-letter-eq117-clause-moves g c =
    moves_push c.push_unit.result c.push_unit.ensures.err
    (moves_trans (moves_pass (moves_trans (moves_pass (moves_here _ _) c.pass.ensures) c.in_ok-letter.ensures.moves) c.pass-then-letter-eq117.ensures) c.in_ok-unit.ensures.moves)

pub returns-then-letter-eq117-clause-further : goal.returns-then-letter-eq117-clause-further
returns-then-letter-eq117-clause-further g c =
    let p = c.pass.ensures.place in
    let q = c.in_ok-letter.ensures.moves.on in
    let r = c.pass-then-letter-eq117.ensures.place in
    let s = c.in_ok-unit.ensures.moves.on in
    on_ok c.push_unit.result (omega arith)

pub returns-in-None-clause-moves : goal.returns-in-None-clause-moves
returns-in-None-clause-moves g c = moves_wrong c.wrong.ensures (moves_trans (moves_pass (moves_here _ _) c.pass.ensures) c.in_ok-letter.ensures.moves)

pub returns-in_err-push_lone-in-Some-clause-moves : goal.returns-in_err-push_lone-in-Some-clause-moves
returns-in_err-push_lone-in-Some-clause-moves g c =
    let r = c.from_residual-in_err-push_lone-in-Some in
    let p = err_from_is_err_and r.result r.ensures.1 in
    rw (p.1, p.2) (moves_full c.in_err-push_lone-in-Some.ensures.err (moves_pass (moves_trans (moves_pass (moves_here _ _) c.pass.ensures) c.in_ok-letter.ensures.moves) c.pass-in-Some.ensures))

pub returns-in_err-push_char-in-Some-clause-moves : goal.returns-in_err-push_char-in-Some-clause-moves
returns-in_err-push_char-in-Some-clause-moves g c =
    let r = c.from_residual-in_err-push_char-in-Some in
    let p = err_from_is_err_and r.result r.ensures.1 in
    rw (p.1, p.2) (moves_full c.in_err-push_char-in-Some.ensures.err (moves_pass (moves_trans (moves_pass (moves_here _ _) c.pass.ensures) c.in_ok-letter.ensures.moves) c.pass-in-Some.ensures))

pub returns-in_ok-push_char-in-Some-clause-moves : goal.returns-in_ok-push_char-in-Some-clause-moves
returns-in_ok-push_char-in-Some-clause-moves g c = moves_pass (moves_trans (moves_pass (moves_here _ _) c.pass.ensures) c.in_ok-letter.ensures.moves) c.pass-in-Some.ensures

pub returns-in_err-letter-clause-exact : goal.returns-in_err-letter-clause-exact
returns-in_err-letter-clause-exact g c = λ begun k s ps h d.
    let r = c.from_residual in
    let q = err_from_is_err_and r.result r.ensures.1 in
    let high = c.args.high in
    let began = goes_byte 92 c.requires.next c.pass.ensures (t.escape_on k s high ps) d in
    rw (q.1, q.2) (writes_fault (goes_trans began (c.in_err-letter.ensures.exact (chars k s high escape ∷ ps) (t.chars_cut k s high escape ps))))

pub returns-in_err-unit-clause-exact : goal.returns-in_err-unit-clause-exact
returns-in_err-unit-clause-exact g c = λ begun k s ps h d.
    let r = c.from_residual-in_err-unit in
    let q = err_from_is_err_and r.result r.ensures.1 in
    let high = c.args.high in
    let began = goes_byte 92 c.requires.next c.pass.ensures (t.escape_on k s high ps) d in
    let needed = goes_trans began (c.in_ok-letter.ensures.exact (chars k s high escape ∷ ps) (t.chars_cut k s high escape ps)) in
    let next : IsNext 117 c.need.new.self = rw c.if-letter-eq117.true at c.in_ok-letter.ensures.byte in
    let unit = goes_trans needed (goes_byte 117 next c.pass-then-letter-eq117.ensures (t.u_on k s high ps) d) in
    rw (q.1, q.2) (writes_fault (goes_trans unit (c.in_err-unit.ensures.exact k s high ps d)))

pub returns-then-letter-eq117-clause-exact : goal.returns-then-letter-eq117-clause-exact
returns-then-letter-eq117-clause-exact g c = λ begun k s ps h d.
    let high = c.args.high in
    let began = goes_byte 92 c.requires.next c.pass.ensures (t.escape_on k s high ps) d in
    let needed = goes_trans began (c.in_ok-letter.ensures.exact (chars k s high escape ∷ ps) (t.chars_cut k s high escape ps)) in
    let next : IsNext 117 c.need.new.self = rw c.if-letter-eq117.true at c.in_ok-letter.ensures.byte in
    let unit = goes_trans needed (goes_byte 117 next c.pass-then-letter-eq117.ensures (t.u_on k s high ps) d) in
    writes_unit k s high c.in_ok-unit.unit c.push_unit.result c.push_unit.ensures.err (if_ok_map c.push_unit.result (λ o q. q begun s h) c.push_unit.ensures.text)
    (goes_trans unit (c.in_ok-unit.ensures.exact k s high ps d))

pub returns-in-None-clause-exact : goal.returns-in-None-clause-exact
returns-in-None-clause-exact g c = λ begun k s ps h d.
    let high = c.args.high in
    let letter = c.in_ok-letter.letter in
    let began = goes_byte 92 c.requires.next c.pass.ensures (t.escape_on k s high ps) d in
    let needed = goes_trans began (c.in_ok-letter.ensures.exact (chars k s high escape ∷ ps) (t.chars_cut k s high escape ps)) in
    let no : escaped letter ≡ None = sym c.short_escape.ensures ∙ c.in-None.is in
    writes_fault (goes_trans needed (goes_wrong {b = c.args.input.now} {m = None} {qs = ps} {es = []} letter c.in_ok-letter.ensures.byte (t.escape_wrong k s high ps letter c.if-letter-eq117.false no) c.wrong.ensures))

pub returns-in_err-push_lone-in-Some-clause-exact : goal.returns-in_err-push_lone-in-Some-clause-exact
returns-in_err-push_lone-in-Some-clause-exact g c = λ begun k s ps h d.
    let r = c.from_residual-in_err-push_lone-in-Some in
    let q = err_from_is_err_and r.result r.ensures.1 in
    rw (q.1, q.2) (writes_full c.in_err-push_lone-in-Some.ensures.err)

pub returns-in_err-push_char-in-Some-clause-exact : goal.returns-in_err-push_char-in-Some-clause-exact
returns-in_err-push_char-in-Some-clause-exact g c = λ begun k s ps h d.
    let r = c.from_residual-in_err-push_char-in-Some in
    let q = err_from_is_err_and r.result r.ensures.1 in
    rw (q.1, q.2) (writes_full c.in_err-push_char-in-Some.ensures.err)

pub returns-in_ok-push_char-in-Some-clause-exact : goal.returns-in_ok-push_char-in-Some-clause-exact
returns-in_ok-push_char-in-Some-clause-exact g c = λ begun k s ps h d.
    let high = c.args.high in
    let letter = c.in_ok-letter.letter in
    let char = c.in-Some.c in
    let began = goes_byte 92 c.requires.next c.pass.ensures (t.escape_on k s high ps) d in
    let needed = goes_trans began (c.in_ok-letter.ensures.exact (chars k s high escape ∷ ps) (t.chars_cut k s high escape ps)) in
    let is : escaped letter ≡ Some char = sym c.short_escape.ensures ∙ c.in-Some.is in
    let added = rw (t.escaped_utf8 letter char is) at c.in_ok-push_char-in-Some.ensures.ok in
    let to = λ (t : List ℕ). chars k t None nothing ∷ ps in
    writes_goes silent to (settled s high ++ char ∷ []) (gains_on (c.in_ok-push_lone-in-Some.ensures.text begun s h) added)
    (goes_trans needed (goes_byte letter c.in_ok-letter.ensures.byte c.pass-in-Some.ensures (t.short_on k s high ps letter char c.if-letter-eq117.false is) d))
