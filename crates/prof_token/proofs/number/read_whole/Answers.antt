use Rattle.prof_token.specs.Bytes.{is_space}
use Rattle.std.proofs.Common.{◌≡◌, false, ℕ, List, [], ◌∷◌, ◌++◌, refl, arith}
use Rattle.prof_grammar.specs.Machine.{digits}
use Rattle.prof_token.specs.Writes.{silent}
use Rattle.prof_token.specs.Stages.{whole_stage}
use Rattle.prof_token.proofs.Journeys.{moves_trans, moves_pass, moves_here, on_ok, on_ok_map, if_ok_map, if_ok_all}
use Rattle.prof_token.proofs.Texts.{adds_zero, adds_int, gains_on}
use Rattle.prof_token.proofs.Machines.{goes_byte}
use Rattle.prof_token.proofs.Turns as t
use Rattle.prof_token.proofs.Written.{writes_goes, writes_on}
use Rattle.prof_token.proofs.Utf8.{digit_small}
use Rattle.prof_token.proofs.Owning.{any_same, any_trans, owns_any, owns_then, owns_byte}
use Rattle.prof_token.proofs.number.read_whole.Goals as goal

pub read_byte-requires-clause-small : goal.read_byte-requires-clause-small
read_byte-requires-clause-small g c = digit_small c.args.first c.requires.digit

pub returns-then-first-eq48-clause-moves : goal.returns-then-first-eq48-clause-moves
returns-then-first-eq48-clause-moves g c = moves_trans (moves_pass (moves_here _ _) c.in_ok-read_byte.ensures.passed) c.peek.ensures.moves

pub returns-then-first-eq48-clause-text : goal.returns-then-first-eq48-clause-text
returns-then-first-eq48-clause-text g c = on_ok c.peek.result (adds_zero c.if-first-eq48.true c.in_ok-read_byte.ensures.text)

pub returns-then-first-eq48-clause-further : goal.returns-then-first-eq48-clause-further
returns-then-first-eq48-clause-further g c =
    let p = c.in_ok-read_byte.ensures.passed.place in
    let q = c.peek.ensures.moves.on in
    on_ok c.peek.result (omega arith)

pub returns-then-first-eq48-clause-over : goal.returns-then-first-eq48-clause-over
returns-then-first-eq48-clause-over g c = if_ok_all c.peek.result (λ o. t.ends_zero c.args.first o c.if-first-eq48.true)

pub returns-then-first-eq48-clause-exact : goal.returns-then-first-eq48-clause-exact
returns-then-first-eq48-clause-exact g c = λ begun s qs ps e h d.
    let to = λ (t : List ℕ). digits (whole_stage c.args.first) t ∷ ps in
    writes_on (goes_byte c.args.first c.requires.next c.in_ok-read_byte.ensures.passed e d)
    (writes_goes silent to (s ++ c.args.first ∷ []) (gains_on h c.in_ok-read_byte.ensures.text) (c.peek.ensures.exact (to (s ++ c.args.first ∷ []))))

pub returns-clause-moves : goal.returns-clause-moves
returns-clause-moves g c = moves_trans (moves_pass (moves_here _ _) c.in_ok-read_run.ensures.run.2) c.read_digits.ensures.moves

pub returns-clause-text : goal.returns-clause-text
returns-clause-text g c =
    let t = c.in_ok-read_run.ensures.text in
    on_ok_map c.read_digits.result (adds_int t.0 c.if-first-eq48.false c.requires.digit t.1 t.2) c.read_digits.ensures.text

pub returns-clause-further : goal.returns-clause-further
returns-clause-further g c =
    let some = c.in_ok-read_run.ensures.run.1 in
    let p = c.in_ok-read_run.ensures.run.2.place in
    let q = c.read_digits.ensures.moves.on in
    on_ok c.read_digits.result (omega arith)

pub returns-clause-over : goal.returns-clause-over
returns-clause-over g c = if_ok_map c.read_digits.result (λ o d. t.ends_whole c.args.first o c.if-first-eq48.false d) c.read_digits.ensures.behind

pub returns-clause-exact : goal.returns-clause-exact
returns-clause-exact g c = λ begun s qs ps e h d.
    let n = whole_stage c.args.first in
    let runs = t.whole_runs c.args.first c.if-first-eq48.false in
    let w = c.in_ok-read_run.ensures.exact (g.S.Counted.left c.args.src.now) begun n s qs ps e runs h d in
    writes_on w.goes (c.read_digits.ensures.exact begun n w.text ps runs (w.kept refl) d)

pub returns-then-first-eq48-clause-own : goal.returns-then-first-eq48-clause-own
returns-then-first-eq48-clause-own g c =
    let own : is_space c.args.first ≡ false = rw c.if-first-eq48.true refl in
    on_ok c.peek.result (owns_then (owns_byte _ c.requires.next own c.in_ok-read_byte.ensures.passed) (any_same c.peek.ensures.same))

pub returns-clause-own : goal.returns-clause-own
returns-clause-own g c =
    let some = c.in_ok-read_run.ensures.run.1 in
    let p = c.in_ok-read_run.ensures.run.2.place in
    let q = c.read_digits.ensures.moves.on in
    on_ok_map c.read_digits.result (λ k. owns_any (moves_trans (moves_pass (moves_here _ _) c.in_ok-read_run.ensures.run.2) c.read_digits.ensures.moves) (omega arith) (any_trans (c.in_ok-read_run.ensures.own _) k)) c.read_digits.ensures.own
