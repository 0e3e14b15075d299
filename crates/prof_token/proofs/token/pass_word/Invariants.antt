use Rattle.std.proofs.Common.{◌≡◌, ◌≤◌, ◌+◌, List, take, drop}
use Rattle.std.specs.Prelude.{None}
use Rattle.prof_io.specs.Outside.{seen}
use Rattle.prof_token.specs.Moves.{Moves}
use Rattle.prof_grammar.specs.Machine.{Part, Literal}
use Rattle.prof_grammar.specs.Reading.{max_depth}
use Rattle.prof_grammar.specs.Told.{depth}
use Rattle.prof_token.specs.Goes.{Goes, behind_word}
use Rattle.prof_token.proofs.Turns.{told_up}
use Rattle.prof_token.specs.Own.{ReadsOff}
use Rattle.prof_token.proofs.token.pass_word.Given as goal

abbrev pub invariant-loop-letter : goal.invariant-loop-letter
invariant-loop-letter g l = record {
  moves : Moves None l.fn.input (seen g.S.Counted l.fn.src) l.input (seen g.S.Counted l.src);
  exact : (w : Literal) (ps : List Part) → depth ps ≤ max_depth →
      Goes None l.fn.input (g.S.Counted.left l.fn.src) (behind_word l.word w ps) (told_up l.word (drop l.letter-index l.word) w) l.input (g.S.Counted.left l.src) (behind_word (drop l.letter-index l.word) w ps);
  read : ReadsOff (take l.letter-index l.word) l.fn.input.bytes (g.S.Counted.left l.fn.src) l.input.bytes (g.S.Counted.left l.src);
  count : l.fn.input.place + l.letter-index ≡ l.input.place;
}
