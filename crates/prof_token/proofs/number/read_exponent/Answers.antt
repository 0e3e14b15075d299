use Rattle.std.proofs.Common.{◌≡◌, [], ◌∷◌, ◌++◌, true, refl, arith}
use Rattle.std.proofs.lemmas.Grind.{common_steps}
use Rattle.std.proofs.lemmas.Result.{err_from_is_err_and}
use Rattle.prof_grammar.specs.Machine.{after_e, in_exponent}
use Rattle.prof_token.specs.Ahead.{IsNext}
use Rattle.prof_token.specs.Bytes.{is_e}
use Rattle.prof_token.specs.Stages as gs
use Rattle.prof_token.specs.Stages.{Counts, Signs, MayEnd, whole_stage, behind_fraction, behind_exponent}
use Rattle.prof_token.proofs.Journeys.{moves_trans, moves_pass, moves_here, on_ok_map, if_ok_map}
use Rattle.prof_token.proofs.Texts.{no_exponent, adds_exponent, gains_on, e_of}
use Rattle.prof_token.proofs.Machines.{goes_trans, goes_byte}
use Rattle.prof_token.proofs.Turns as t
use Rattle.prof_token.proofs.Written.{writes_on, writes_fault}
use Rattle.prof_token.proofs.Owning.{any_owns, owns_behind, any_here}
use Rattle.prof_token.proofs.number.read_exponent.Goals as goal

pub returns-in_err-first-in-Some-clause-moves : goal.returns-in_err-first-in-Some-clause-moves
returns-in_err-first-in-Some-clause-moves g c =
    let r = c.from_residual-in_err-first-in-Some in
    let p = err_from_is_err_and r.result r.ensures.1 in
    rw (p.1, p.2) (moves_trans (moves_pass (moves_here _ _) c.in_ok-read_byte-in-Some.ensures.passed) c.in_err-first-in-Some.ensures.moves)

pub returns-in_err-first-in-Some-clause-exact : goal.returns-in_err-first-in-Some-clause-exact
returns-in_err-first-in-Some-clause-exact g c = λ begun n s ps f h d.
    let r = c.from_residual-in_err-first-in-Some in
    let p = err_from_is_err_and r.result r.ensures.1 in
    let letter = c.in-Some.letter in
    let next : IsNext letter c.args.input.now = rw c.in-Some.is at c.requires in
    let is : is_e letter ≡ true = grind (arith, common_steps, c.is_e.ensures) in
    let begin = goes_byte letter next c.in_ok-read_byte-in-Some.ensures.passed (t.number_on n after_e s ps letter (t.e_on letter f is)) d in
    let signed = c.in_err-first-in-Some.ensures.exact begun (s ++ letter ∷ []) ps (gains_on h c.in_ok-read_byte-in-Some.ensures.text) d in
    rw (p.1, p.2) (writes_on begin (writes_fault signed.writes.goes))

pub returns-in_ok-first-in-Some-clause-moves : goal.returns-in_ok-first-in-Some-clause-moves
returns-in_ok-first-in-Some-clause-moves g c =
    moves_trans (moves_trans (moves_pass (moves_here _ _) c.in_ok-read_byte-in-Some.ensures.passed) c.in_ok-first-in-Some.ensures.moves) c.read_some_digits.ensures.moves

pub returns-in_ok-first-in-Some-clause-text : goal.returns-in_ok-first-in-Some-clause-text
returns-in_ok-first-in-Some-clause-text g c =
    let is : is_e c.in-Some.letter ≡ true = grind (arith, common_steps, c.is_e.ensures) in
    on_ok_map c.read_some_digits.result (adds_exponent (e_of c.in-Some.letter is) c.in_ok-read_byte-in-Some.ensures.text c.in_ok-first-in-Some.ensures.text) c.read_some_digits.ensures.text

pub returns-in_ok-first-in-Some-clause-over : goal.returns-in_ok-first-in-Some-clause-over
returns-in_ok-first-in-Some-clause-over g c =
    let is : is_e c.in-Some.letter ≡ true = grind (arith, common_steps, c.is_e.ensures) in
    rw (c.in-Some.is, is) (if_ok_map c.read_some_digits.result (λ o d n h. t.ends_exponent o d) c.read_some_digits.ensures.behind)

pub returns-in_ok-first-in-Some-clause-exact : goal.returns-in_ok-first-in-Some-clause-exact
returns-in_ok-first-in-Some-clause-exact g c = λ begun n s ps f h d.
    let letter = c.in-Some.letter in
    let next : IsNext letter c.args.input.now = rw c.in-Some.is at c.requires in
    let is : is_e letter ≡ true = grind (arith, common_steps, c.is_e.ensures) in
    let begin = goes_byte letter next c.in_ok-read_byte-in-Some.ensures.passed (t.number_on n after_e s ps letter (t.e_on letter f is)) d in
    let signed = c.in_ok-first-in-Some.ensures.exact begun (s ++ letter ∷ []) ps (gains_on h c.in_ok-read_byte-in-Some.ensures.text) d in
    rw (c.in-Some.is, is) (writes_on (goes_trans begin signed.writes.goes)
    (c.read_some_digits.ensures.exact begun signed.stage in_exponent signed.writes.text ps (signed.wants refl) gs.exponent (signed.writes.kept refl) d))

pub returns-in_default-clause-text : goal.returns-in_default-clause-text
returns-in_default-clause-text g c = no_exponent

pub returns-in_default-2-clause-text : goal.returns-in_default-2-clause-text
returns-in_default-2-clause-text g c = no_exponent

pub returns-in_ok-first-in-Some-clause-own : goal.returns-in_ok-first-in-Some-clause-own
returns-in_ok-first-in-Some-clause-own g c = on_ok_map c.read_some_digits.result (λ k. any_owns (owns_behind (moves_trans (moves_pass (moves_here _ _) c.in_ok-read_byte-in-Some.ensures.passed) c.in_ok-first-in-Some.ensures.moves) k)) c.read_some_digits.ensures.own

pub returns-in_default-clause-own : goal.returns-in_default-clause-own
returns-in_default-clause-own g c = any_here _ _

pub returns-in_default-2-clause-own : goal.returns-in_default-2-clause-own
returns-in_default-2-clause-own g c = any_here _ _
