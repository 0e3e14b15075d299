use Rattle.std.proofs.Common.{ℕ, ◌-◌, ◌≤◌, List, ◌∷◌}
use Rattle.prof_grammar.specs.Machine.{Part, Stage, digits}
use Rattle.prof_grammar.specs.Reading.{max_depth}
use Rattle.prof_grammar.specs.Told.{depth}
use Rattle.prof_token.specs.Writes.{Writes, silent}
use Rattle.prof_token.specs.Stages.{IsRunning}
use Rattle.std.specs.Prelude.{None}
use Rattle.prof_time.specs.Numeral.{AreDigits}
use Rattle.prof_token.specs.Kept.{Kept, Adds, Gains}
use Rattle.prof_io.specs.Outside.{seen}
use Rattle.prof_token.specs.Moves.{Moves}
use Rattle.prof_token.specs.Own.{OwnsAny}
use Rattle.prof_token.proofs.number.read_digits.Given as goal

abbrev pub invariant-digits : goal.invariant-digits
invariant-digits g l = record {
  moves : Moves None l.fn.input (seen g.S.Counted l.fn.src) l.input (seen g.S.Counted l.src);
  text : Adds AreDigits l.fn.text l.text;
  own : OwnsAny l.fn.input.bytes (g.S.Counted.left l.fn.src) l.input.bytes (g.S.Counted.left l.src);
  exact : (begun : Kept) (n : Stage) (s : List ℕ) (ps : List Part) → IsRunning n → Gains begun s l.fn.text → depth ps ≤ max_depth →
      Writes None begun l.fn.input (g.S.Counted.left l.fn.src) (digits n s ∷ ps) silent l.input (g.S.Counted.left l.src) l.text (λ t. digits n t ∷ ps);
}

abbrev pub decreases-digits : goal.decreases-digits
decreases-digits g l = l.input.limit - l.input.place
