use Rattle.std.proofs.Common.{◌≡◌, ◌⊎◌, inl, inr, ℕ, List, [], ◌∷◌, ◌++◌, refl}
use Rattle.std.specs.Prelude.{None}
use Rattle.std.proofs.lemmas.Result.{err_from_is_err_and}
use Rattle.prof_grammar.specs.Machine.{digits, after_e, after_sign}
use Rattle.prof_token.specs.Writes.{silent}
use Rattle.prof_token.proofs.Journeys.{moves_trans, moves_pass, on_ok}
use Rattle.prof_token.proofs.Texts.{adds_sign, no_sign, gains_on}
use Rattle.prof_token.proofs.Machines.{goes_trans, goes_byte, goes_full}
use Rattle.prof_token.proofs.Turns as t
use Rattle.prof_token.proofs.Written.{writes_goes, signs_fault}
use Rattle.prof_token.proofs.number.read_exponent_sign.Goals as goal
use Rattle.prof_token.proofs.number.read_exponent_sign.Goals.{then-byte-eq43-via-then-byte-eq43, then-byte-eq43-via-else-byte-eq43+then-byte-eq45}

pub returns-in_err-byte-clause-exact : goal.returns-in_err-byte-clause-exact
returns-in_err-byte-clause-exact g c = λ begun s ps h d.
    let r = c.from_residual in
    let p = err_from_is_err_and r.result r.ensures.1 in
    rw (p.1, p.2) (signs_fault (c.in_err-byte.ensures.exact (digits after_e s ∷ ps) (t.number_cut after_e s ps refl)))

pub returns-in_err-read_byte-clause-exact : goal.returns-in_err-read_byte-clause-exact
returns-in_err-read_byte-clause-exact g c = λ begun s ps h d.
    let r = c.from_residual-in_err-read_byte in
    let p = err_from_is_err_and r.result r.ensures.1 in
    rw (p.1, p.2) (signs_fault (goes_full {b = c.args.input.now} {m = None} {qs = ps} {es = []} c.in_err-read_byte.ensures.err.0))

pub returns-then-byte-eq43-clause-moves : goal.returns-then-byte-eq43-clause-moves
returns-then-byte-eq43-clause-moves g c = moves_trans (moves_pass c.in_ok-byte.ensures.moves c.in_ok-read_byte.ensures.passed) c.need-then-byte-eq43.ensures.moves

pub returns-then-byte-eq43-clause-text : goal.returns-then-byte-eq43-clause-text
returns-then-byte-eq43-clause-text g c =
    let is : (c.in_ok-byte.byte ≡ 43) ⊎ (c.in_ok-byte.byte ≡ 45) = elim c.then-byte-eq43.branch [
      | then-byte-eq43-via-then-byte-eq43 w ↦ inl w.if-byte-eq43.true
      | then-byte-eq43-via-else-byte-eq43+then-byte-eq45 w ↦ inr w.if-byte-eq45.true
    ] in
    on_ok c.need-then-byte-eq43.result (adds_sign is c.in_ok-read_byte.ensures.text)

pub returns-then-byte-eq43-clause-exact : goal.returns-then-byte-eq43-clause-exact
returns-then-byte-eq43-clause-exact g c = λ begun s ps h d.
    let byte = c.in_ok-byte.byte in
    let is : (byte ≡ 43) ⊎ (byte ≡ 45) = elim c.then-byte-eq43.branch [
      | then-byte-eq43-via-then-byte-eq43 w ↦ inl w.if-byte-eq43.true
      | then-byte-eq43-via-else-byte-eq43+then-byte-eq45 w ↦ inr w.if-byte-eq45.true
    ] in
    let to = λ (t : List ℕ). digits after_sign t ∷ ps in
    let peeked = c.in_ok-byte.ensures.exact (digits after_e s ∷ ps) (t.number_cut after_e s ps refl) in
    let signed = goes_trans peeked (goes_byte byte c.in_ok-byte.ensures.byte c.in_ok-read_byte.ensures.passed (t.number_on after_e after_sign s ps byte (t.sign_on byte is)) d) in
    let next = c.need-then-byte-eq43.ensures.exact (to (s ++ byte ∷ [])) (t.number_cut after_sign (s ++ byte ∷ []) ps refl) in
    record {
      stage = after_sign;
      wants = λ _. t.wants_sign _;
      writes = writes_goes silent to (s ++ byte ∷ []) (gains_on h c.in_ok-read_byte.ensures.text) (goes_trans signed next);
    }

pub returns-clause-text : goal.returns-clause-text
returns-clause-text g c = no_sign

pub returns-clause-exact : goal.returns-clause-exact
returns-clause-exact g c = λ begun s ps h d.
    record {
      stage = after_e;
      wants = λ _. t.wants_e c.in_ok-byte.byte c.if-byte-eq43.false c.if-byte-eq45.false;
      writes = writes_goes silent (λ t. digits after_e t ∷ ps) s h (c.in_ok-byte.ensures.exact (digits after_e s ∷ ps) (t.number_cut after_e s ps refl));
    }
