use Rattle.std.proofs.Common.{◌≡◌, ◌-◌, ◌≤◌, ℕ, List, ◌∷◌, true}
use Rattle.std.specs.Prelude.{None, IfSome}
use Rattle.std.specs.Char.Utf16.{is_high_surrogate}
use Rattle.prof_grammar.specs.Machine.{Part, Role, chars, nothing}
use Rattle.prof_grammar.specs.Reading.{max_depth}
use Rattle.prof_grammar.specs.Told.{depth}
use Rattle.prof_token.specs.Writes.{Writes, silent}
use Rattle.prof_token.specs.Kept.{Kept, Gains}
use Rattle.prof_io.specs.Outside.{seen}
use Rattle.prof_token.specs.Moves.{Moves}
use Rattle.prof_token.proofs.string.read_pieces.Given as goal

abbrev pub invariant-pieces : goal.invariant-pieces
invariant-pieces g l = record {
  moves : Moves None l.fn.input (seen g.S.Counted l.fn.src) l.input (seen g.S.Counted l.src);
  exact : (begun : Kept) (k : Role) (s : List ℕ) (ps : List Part) → Gains begun s l.fn.text → depth ps ≤ max_depth →
      Writes None begun l.fn.input (g.S.Counted.left l.fn.src) (chars k s None nothing ∷ ps) silent l.input (g.S.Counted.left l.src) l.text (λ t. chars k t l.high nothing ∷ ps);
  waits : IfSome l.high (λ u. is_high_surrogate u ≡ true);
}

abbrev pub decreases-pieces : goal.decreases-pieces
decreases-pieces g l = l.input.limit - l.input.place
