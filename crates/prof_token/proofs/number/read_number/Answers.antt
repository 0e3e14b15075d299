use Rattle.std.proofs.Common.{◌≡◌, [], ◌∷◌, true, false, refl, ◌∙◌, arith}
use Rattle.std.specs.Prelude.{None}
use Rattle.std.proofs.lemmas.Grind.{common_steps}
use Rattle.std.proofs.lemmas.Result.{err_from_is_err_and}
use Rattle.prof_grammar.specs.Machine.{digits, after_minus}
use Rattle.prof_token.specs.Bytes.{is_digit}
use Rattle.prof_token.specs.Stages.{whole_stage}
use Rattle.prof_token.proofs.Journeys.{moves_trans, moves_pass, moves_here, moves_wrong, on_ok, on_ok_map}
use Rattle.prof_token.proofs.Texts.{adds_number, adds_negative, gains_on}
use Rattle.prof_token.proofs.Machines.{goes_trans, goes_byte, goes_wrong, goes_full}
use Rattle.prof_token.proofs.Turns as t
use Rattle.prof_token.proofs.Written.{counts_fault, counts_on}
use Rattle.prof_token.proofs.Owning.{owns_behind}
use Rattle.prof_token.proofs.number.read_number.Goals as goal

pub returns-then-first-ne45-clause-text : goal.returns-then-first-ne45-clause-text
returns-then-first-ne45-clause-text g c = on_ok_map c.read_unsigned.result adds_number c.read_unsigned.ensures.text

pub returns-then-first-ne45-clause-exact : goal.returns-then-first-ne45-clause-exact
returns-then-first-ne45-clause-exact g c = λ begun qs ps e h d.
    let is : is_digit c.args.first ≡ true = t.not_minus c.args.first c.requires.begins c.if-first-ne45.true in
    c.read_unsigned.ensures.exact begun [] qs ps (e ∙ t.begins_digit c.args.first ps is) h d

pub returns-in_err-read_byte-clause-exact : goal.returns-in_err-read_byte-clause-exact
returns-in_err-read_byte-clause-exact g c = λ begun qs ps e h d.
    let r = c.from_residual in
    let p = err_from_is_err_and r.result r.ensures.1 in
    rw (p.1, p.2) (counts_fault (goes_full {b = c.args.input.now} {m = None} {qs = ps} {es = []} c.in_err-read_byte.ensures.err.0))

pub returns-in_err-digit-clause-moves : goal.returns-in_err-digit-clause-moves
returns-in_err-digit-clause-moves g c =
    let r = c.from_residual-in_err-digit in
    let p = err_from_is_err_and r.result r.ensures.1 in
    rw (p.1, p.2) (moves_trans (moves_pass (moves_here _ _) c.in_ok-read_byte.ensures.passed) c.in_err-digit.ensures.moves)

pub returns-in_err-digit-clause-exact : goal.returns-in_err-digit-clause-exact
returns-in_err-digit-clause-exact g c = λ begun qs ps e h d.
    let r = c.from_residual-in_err-digit in
    let p = err_from_is_err_and r.result r.ensures.1 in
    let first = c.args.first in
    let minus = goes_byte first c.requires.next c.in_ok-read_byte.ensures.passed (e ∙ t.begins_minus first ps c.if-first-ne45.false) d in
    rw (p.1, p.2) (counts_on minus (counts_fault (c.in_err-digit.ensures.exact (digits after_minus (first ∷ []) ∷ ps) (t.number_cut after_minus (first ∷ []) ps refl))))

pub returns-then-not-is_digit-clause-moves : goal.returns-then-not-is_digit-clause-moves
returns-then-not-is_digit-clause-moves g c = moves_wrong c.wrong.ensures (moves_trans (moves_pass (moves_here _ _) c.in_ok-read_byte.ensures.passed) c.in_ok-digit.ensures.moves)

pub returns-then-not-is_digit-clause-exact : goal.returns-then-not-is_digit-clause-exact
returns-then-not-is_digit-clause-exact g c = λ begun qs ps e h d.
    let first = c.args.first in
    let digit = c.in_ok-digit.digit in
    let no : is_digit digit ≡ false = grind (arith, common_steps, c.is_digit.ensures) in
    let minus = goes_byte first c.requires.next c.in_ok-read_byte.ensures.passed (e ∙ t.begins_minus first ps c.if-first-ne45.false) d in
    let needed = c.in_ok-digit.ensures.exact (digits after_minus (first ∷ []) ∷ ps) (t.number_cut after_minus (first ∷ []) ps refl) in
    counts_on (goes_trans minus needed)
    (counts_fault (goes_wrong {b = c.args.input.now} {m = None} {qs = ps} {es = []} digit c.in_ok-digit.ensures.byte (t.number_wrong after_minus (first ∷ []) ps digit (t.no_digit_minus digit no) refl) c.wrong.ensures))

pub returns-clause-moves : goal.returns-clause-moves
returns-clause-moves g c = moves_trans (moves_trans (moves_pass (moves_here _ _) c.in_ok-read_byte.ensures.passed) c.in_ok-digit.ensures.moves) c.read_unsigned-2.ensures.moves

pub returns-clause-text : goal.returns-clause-text
returns-clause-text g c = on_ok_map c.read_unsigned-2.result (adds_negative c.if-first-ne45.false c.in_ok-read_byte.ensures.text) c.read_unsigned-2.ensures.text

pub returns-clause-further : goal.returns-clause-further
returns-clause-further g c =
    let p = c.in_ok-read_byte.ensures.passed.place in
    let q = c.in_ok-digit.ensures.moves.on in
    let r = c.read_unsigned-2.ensures.moves.on in
    on_ok c.read_unsigned-2.result (omega arith)

pub returns-clause-exact : goal.returns-clause-exact
returns-clause-exact g c = λ begun qs ps e h d.
    let first = c.args.first in
    let digit = c.in_ok-digit.digit in
    let is : is_digit digit ≡ true = grind (arith, common_steps, c.is_digit.ensures) in
    let minus = goes_byte first c.requires.next c.in_ok-read_byte.ensures.passed (e ∙ t.begins_minus first ps c.if-first-ne45.false) d in
    let needed = c.in_ok-digit.ensures.exact (digits after_minus (first ∷ []) ∷ ps) (t.number_cut after_minus (first ∷ []) ps refl) in
    counts_on (goes_trans minus needed)
    (c.read_unsigned-2.ensures.exact begun (first ∷ []) (digits after_minus (first ∷ []) ∷ ps) ps (t.number_on after_minus (whole_stage digit) (first ∷ []) ps digit (t.minus_on digit is)) (gains_on h c.in_ok-read_byte.ensures.text) d)

pub returns-clause-own : goal.returns-clause-own
returns-clause-own g c = on_ok_map c.read_unsigned-2.result (λ k. owns_behind (moves_trans (moves_pass (moves_here _ _) c.in_ok-read_byte.ensures.passed) c.in_ok-digit.ensures.moves) k) c.read_unsigned-2.ensures.own
