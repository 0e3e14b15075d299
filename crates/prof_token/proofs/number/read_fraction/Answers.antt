use Rattle.std.proofs.Common.{◌≡◌, [], ◌∷◌, ◌++◌, refl}
use Rattle.std.proofs.lemmas.Result.{err_from_is_err_and}
use Rattle.prof_grammar.specs.Machine.{digits, after_point, in_fraction}
use Rattle.prof_token.specs.Ahead.{IsNext}
use Rattle.prof_token.specs.Stages as gs
use Rattle.prof_token.specs.Stages.{Counts, Signs, MayEnd, whole_stage, behind_fraction, behind_exponent}
use Rattle.prof_token.proofs.Journeys.{moves_trans, moves_pass, moves_here, on_ok_map, if_ok_map}
use Rattle.prof_token.proofs.Texts.{no_fraction, adds_fraction, gains_on}
use Rattle.prof_token.proofs.Machines.{goes_trans, goes_byte}
use Rattle.prof_token.proofs.Turns as t
use Rattle.prof_token.proofs.Written.{writes_on, writes_fault}
use Rattle.prof_token.proofs.Owning.{any_owns, owns_behind, any_here}
use Rattle.prof_token.proofs.number.read_fraction.Goals as goal

pub returns-in_err-first-in-Some-eq46-clause-moves : goal.returns-in_err-first-in-Some-eq46-clause-moves
returns-in_err-first-in-Some-eq46-clause-moves g c =
    let r = c.from_residual-in_err-first-in-Some-eq46 in
    let p = err_from_is_err_and r.result r.ensures.1 in
    rw (p.1, p.2) (moves_trans (moves_pass (moves_here _ _) c.in_ok-read_byte-in-Some-eq46.ensures.passed) c.in_err-first-in-Some-eq46.ensures.moves)

pub returns-in_err-first-in-Some-eq46-clause-exact : goal.returns-in_err-first-in-Some-eq46-clause-exact
returns-in_err-first-in-Some-eq46-clause-exact g c = λ begun n s ps f h d.
    let r = c.from_residual-in_err-first-in-Some-eq46 in
    let p = err_from_is_err_and r.result r.ensures.1 in
    let shown : IsNext c.in-Some-eq46.field-0 c.args.input.now = rw c.in-Some-eq46.is at c.requires in
    let test : c.in-Some-eq46.field-0 ≡ 46 = rw c.in-Some-eq46.is at c.in-Some-eq46.field-0-test in
    let next : IsNext 46 c.args.input.now = rw test at shown in
    let point = goes_byte 46 next c.in_ok-read_byte-in-Some-eq46.ensures.passed (t.number_on n after_point s ps 46 (t.point_on f)) d in
    rw (p.1, p.2) (writes_on point (writes_fault (c.in_err-first-in-Some-eq46.ensures.exact (digits after_point (s ++ 46 ∷ []) ∷ ps) (t.number_cut after_point (s ++ 46 ∷ []) ps refl))))

pub returns-in_ok-first-in-Some-eq46-clause-moves : goal.returns-in_ok-first-in-Some-eq46-clause-moves
returns-in_ok-first-in-Some-eq46-clause-moves g c = moves_trans (moves_trans (moves_pass (moves_here _ _) c.in_ok-read_byte-in-Some-eq46.ensures.passed) c.in_ok-first-in-Some-eq46.ensures.moves) c.read_some_digits.ensures.moves

pub returns-in_ok-first-in-Some-eq46-clause-text : goal.returns-in_ok-first-in-Some-eq46-clause-text
returns-in_ok-first-in-Some-eq46-clause-text g c = on_ok_map c.read_some_digits.result (adds_fraction c.in_ok-read_byte-in-Some-eq46.ensures.text) c.read_some_digits.ensures.text

pub returns-in_ok-first-in-Some-eq46-clause-over : goal.returns-in_ok-first-in-Some-eq46-clause-over
returns-in_ok-first-in-Some-eq46-clause-over g c = let test : c.in-Some-eq46.field-0 ≡ 46 = rw c.in-Some-eq46.is at c.in-Some-eq46.field-0-test in
    rw (c.in-Some-eq46.is, test) (if_ok_map c.read_some_digits.result (λ o d n h. t.ends_fraction o d) c.read_some_digits.ensures.behind)

pub returns-in_ok-first-in-Some-eq46-clause-exact : goal.returns-in_ok-first-in-Some-eq46-clause-exact
returns-in_ok-first-in-Some-eq46-clause-exact g c = λ begun n s ps f h d.
    let shown : IsNext c.in-Some-eq46.field-0 c.args.input.now = rw c.in-Some-eq46.is at c.requires in
    let test : c.in-Some-eq46.field-0 ≡ 46 = rw c.in-Some-eq46.is at c.in-Some-eq46.field-0-test in
    let next : IsNext 46 c.args.input.now = rw test at shown in
    let point = goes_byte 46 next c.in_ok-read_byte-in-Some-eq46.ensures.passed (t.number_on n after_point s ps 46 (t.point_on f)) d in
    let needed = c.in_ok-first-in-Some-eq46.ensures.exact (digits after_point (s ++ 46 ∷ []) ∷ ps) (t.number_cut after_point (s ++ 46 ∷ []) ps refl) in
    rw (c.in-Some-eq46.is, test) (writes_on (goes_trans point needed)
    (c.read_some_digits.ensures.exact begun after_point in_fraction (s ++ 46 ∷ []) ps (t.wants_point _) gs.fraction (gains_on h c.in_ok-read_byte-in-Some-eq46.ensures.text) d))

pub returns-in_default-clause-text : goal.returns-in_default-clause-text
returns-in_default-clause-text g c = no_fraction

pub returns-in_default-2-clause-text : goal.returns-in_default-2-clause-text
returns-in_default-2-clause-text g c = no_fraction

pub returns-in_ok-first-in-Some-eq46-clause-own : goal.returns-in_ok-first-in-Some-eq46-clause-own
returns-in_ok-first-in-Some-eq46-clause-own g c = on_ok_map c.read_some_digits.result (λ k. any_owns (owns_behind (moves_trans (moves_pass (moves_here _ _) c.in_ok-read_byte-in-Some-eq46.ensures.passed) c.in_ok-first-in-Some-eq46.ensures.moves) k)) c.read_some_digits.ensures.own

pub returns-in_default-clause-own : goal.returns-in_default-clause-own
returns-in_default-clause-own g c = any_here _ _

pub returns-in_default-2-clause-own : goal.returns-in_default-2-clause-own
returns-in_default-2-clause-own g c = any_here _ _
