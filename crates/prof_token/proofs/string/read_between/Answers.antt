use Rattle.std.proofs.Common.{◌⊎◌, inl, inr, [], ◌∷◌, ◌++◌, ◌<◌, ◌≤◌}
use Rattle.std.proofs.lemmas.Result.{err_from_is_err_and}
use Rattle.prof_grammar.specs.Machine.{chars, lead, tail_low, tail_high, tail_next}
use Rattle.prof_token.proofs.Journeys.{moves_pass}
use Rattle.prof_token.proofs.Machines.{goes_trans, goes_byte, goes_wrong, goes_as}
use Rattle.prof_token.proofs.Turns as t
use Rattle.prof_token.proofs.string.read_between.Goals.{then-byte-low-via-then-byte-low, then-byte-low-via-else-byte-low+then-byte-high}
use Rattle.prof_token.proofs.string.read_between.Goals as goal

pub returns-clause-moves : goal.returns-clause-moves
returns-clause-moves g c = moves_pass c.in_ok-byte.ensures.moves c.pass.ensures

pub returns-in_err-byte-clause-exact : goal.returns-in_err-byte-clause-exact
returns-in_err-byte-clause-exact g c = λ k s p x bytes ps lo hi d.
    let r = c.from_residual in
    let q = err_from_is_err_and r.result r.ensures.1 in
    rw (q.1, q.2) (goes_as (c.in_err-byte.ensures.exact (chars k s p (lead x bytes) ∷ ps) (t.chars_cut k s p (lead x bytes) ps)))

pub returns-then-byte-low-clause-exact : goal.returns-then-byte-low-clause-exact
returns-then-byte-low-clause-exact g c = λ k s p x bytes ps lo hi d.
    let byte = c.in_ok-byte.byte in
    let out : (byte < c.args.low) ⊎ (c.args.high < byte) = elim c.then-byte-low.branch [
      | then-byte-low-via-then-byte-low w ↦ inl w.if-byte-low.true
      | then-byte-low-via-else-byte-low+then-byte-high w ↦ inr w.if-byte-high.true
    ] in
    let beside : (byte < tail_low x) ⊎ (tail_high x < byte) = rw (lo, hi) out in
    goes_trans (c.in_ok-byte.ensures.exact (chars k s p (lead x bytes) ∷ ps) (t.chars_cut k s p (lead x bytes) ps)) (goes_wrong byte c.in_ok-byte.ensures.byte (t.tail_wrong k s p ps x bytes byte beside) c.wrong.ensures)

pub returns-clause-exact : goal.returns-clause-exact
returns-clause-exact g c = λ k s p x bytes ps lo hi d.
    let byte = c.in_ok-byte.byte in
    let low : tail_low x ≤ byte = rw lo c.if-byte-low.false in
    let high : byte ≤ tail_high x = rw hi c.if-byte-high.false in
    goes_trans (c.in_ok-byte.ensures.exact (chars k s p (lead x bytes) ∷ ps) (t.chars_cut k s p (lead x bytes) ps))
    (goes_byte byte c.in_ok-byte.ensures.byte c.pass.ensures (t.tail_on k s p ps x bytes byte low high) (t.byte_depth k s p (tail_next x) (bytes ++ byte ∷ []) ps d))
