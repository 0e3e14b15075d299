use Rattle.std.proofs.Common.{◌-◌, ◌≤◌, List, [], ◌∷◌}
use Rattle.prof_grammar.specs.Machine.{Part, blank}
use Rattle.prof_grammar.specs.Reading.{max_depth}
use Rattle.prof_grammar.specs.Told.{depth}
use Rattle.prof_token.specs.Goes.{Goes}
use Rattle.std.specs.Prelude.{None}
use Rattle.prof_io.specs.Outside.{seen}
use Rattle.prof_token.specs.Moves.{Moves}
use Rattle.prof_token.proofs.token.skip_blank.Given as goal

abbrev pub invariant-blanks : goal.invariant-blanks
invariant-blanks g l = record {
  moves : Moves None l.fn.input (seen g.S.Counted l.fn.src) l.input (seen g.S.Counted l.src);
  exact : (ps : List Part) → depth ps ≤ max_depth → Goes None l.fn.input (g.S.Counted.left l.fn.src) (blank ∷ ps) [] l.input (g.S.Counted.left l.src) (blank ∷ ps);
}

abbrev pub decreases-blanks : goal.decreases-blanks
decreases-blanks g l = l.input.limit - l.input.place
