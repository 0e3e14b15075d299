use Rattle.std.proofs.Common.{◌≡◌, ◌<◌, ℕ, List, [], ◌∷◌, suc, length, take, drop, get_or, sym, subst, arith, add-one}
use Rattle.std.specs.Prelude.{None, Option}
use Rattle.std.proofs.Math.Seq.{drop-cons}
use Rattle.std.proofs.lemmas.Grind.{common_steps}
use Rattle.prof_grammar.specs.Machine.{Part, Literal, word}
use Rattle.prof_token.specs.Ahead.{Ahead}
use Rattle.prof_token.specs.Goes.{Goes, behind_word}
use Rattle.prof_token.proofs.Journeys.{moves_trans, moves_pass, moves_here, moves_wrong}
use Rattle.prof_token.proofs.Machines.{goes_trans, goes_here, goes_byte, goes_wrong, goes_as}
use Rattle.prof_token.proofs.Turns.{told_up, told_up_all, told_up_next, letter_on, letter_depth, word_cut, word_wrong}
use Rattle.prof_token.proofs.Owning.{off_none, off_more}
use Rattle.prof_token.proofs.token.pass_word.Goals as goal

-- where a letter is still to come
at_letter : {a b : Ahead} {l m : Option (List ℕ)} (whole : List ℕ) (i : ℕ) (w : Literal) (ps : List Part) → i < length whole → Goes None a l (behind_word whole w ps) (told_up whole (drop i whole) w) b m (behind_word (drop i whole) w ps) →
    Goes None a l (behind_word whole w ps) [] b m (word (get_or whole i 0 ∷ drop (suc i) whole) w ∷ ps)
at_letter {a} {b} {l} {m} whole i w ps h g =
    subst (λ (xs : List ℕ). Goes None a l (behind_word whole w ps) (told_up whole xs w) b m (behind_word xs w ps)) (drop-cons whole i 0 h) g

pub loop-letter-init : goal.loop-letter-init
loop-letter-init g c = record {
  moves = moves_here _ _;
  exact = λ w ps d. rw (told_up_all c.args.word.now w) (goes_here _ _ _);
  read = off_none _ _;
  count = omega arith;
}

pub returns-in-Err-clause-moves : goal.returns-in-Err-clause-moves
returns-in-Err-clause-moves g c = moves_trans c.loop-letter.invariant.moves c.in-Err.ensures.moves

pub returns-in-Err-clause-exact : goal.returns-in-Err-clause-exact
returns-in-Err-clause-exact g c = λ w ps d.
    let i = c.loop-letter.letter-index in
    let whole = c.args.word.now in
    let here : i < length whole = omega arith in
    goes_as (goes_trans (at_letter whole i w ps here (c.loop-letter.invariant.exact w ps d)) (c.in-Err.ensures.exact (word (get_or whole i 0 ∷ drop (suc i) whole) w ∷ ps) (word_cut _ w ps)))

pub returns-then-byte-letter-clause-moves : goal.returns-then-byte-letter-clause-moves
returns-then-byte-letter-clause-moves g c = moves_wrong c.wrong.ensures (moves_trans c.loop-letter.invariant.moves c.in-Ok.ensures.moves)

pub returns-then-byte-letter-clause-exact : goal.returns-then-byte-letter-clause-exact
returns-then-byte-letter-clause-exact g c = λ w ps d.
    let i = c.loop-letter.letter-index in
    let whole = c.args.word.now in
    let here : i < length whole = omega arith in
    let next = word (get_or whole i 0 ∷ drop (suc i) whole) w ∷ ps in
    goes_trans (at_letter whole i w ps here (c.loop-letter.invariant.exact w ps d))
    (goes_trans (c.in-Ok.ensures.exact next (word_cut _ w ps)) (goes_wrong c.in-Ok.byte c.in-Ok.ensures.byte (word_wrong c.in-Ok.byte (get_or whole i 0) (drop (suc i) whole) w ps c.if-byte-letter.true) c.wrong.ensures))

pub loop-letter-preserved : goal.loop-letter-preserved
loop-letter-preserved g c =
    let p = c.pass.ensures.place in
    let q = c.in-Ok.ensures.same.place in
    let r = c.loop-letter.invariant.count in
    let i = c.loop-letter.letter-index in
    let whole = c.args.word.now in
    let here : i < length whole = omega arith in
    let is : c.in-Ok.byte ≡ get_or whole i 0 = c.if-byte-letter.false in
    record {
      moves = moves_pass (moves_trans c.loop-letter.invariant.moves c.in-Ok.ensures.moves) c.pass.ensures;
      exact = λ w ps d.
          let next = word (get_or whole i 0 ∷ drop (suc i) whole) w ∷ ps in
          let shown = rw is at c.in-Ok.ensures.byte in
          let went = goes_trans (at_letter whole i w ps here (c.loop-letter.invariant.exact w ps d))
          (goes_trans (c.in-Ok.ensures.exact next (word_cut _ w ps)) (goes_byte (get_or whole i 0) shown c.pass.ensures (letter_on (get_or whole i 0) (drop (suc i) whole) w ps) (letter_depth (drop (suc i) whole) w ps d))) in
          rw (add-one, sym (told_up_next whole i (get_or whole i 0) (drop (suc i) whole) w (drop-cons whole i 0 here))) went;
      read = off_more whole i here c.loop-letter.invariant.read c.in-Ok.ensures.same (rw is at c.in-Ok.ensures.byte) c.pass.ensures;
      count = omega arith;
    }

pub returns-clause-exact : goal.returns-clause-exact
returns-clause-exact g c = λ w ps d.
    let all : drop c.loop-letter.letter-index c.args.word.now ≡ [] = grind (arith, common_steps) in
    rw all at (c.loop-letter.invariant.exact w ps d)

pub returns-clause-read : goal.returns-clause-read
returns-clause-read g c =
    let all : take c.loop-letter.letter-index c.args.word.now ≡ c.args.word.now = grind (arith, common_steps) in
    rw all at c.loop-letter.invariant.read
