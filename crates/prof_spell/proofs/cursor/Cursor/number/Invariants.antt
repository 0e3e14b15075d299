use Rattle.std.proofs.Common.{◌≡◌, ◌≤◌, ◌++◌, length}
use Rattle.std.specs.Fmt.{decimal}
use Rattle.prof_spell.proofs.cursor.Cursor.number.Given as goal

abbrev pub invariant-digits : goal.invariant-digits
invariant-digits l = (l.fn.self ≡ decimal l.n ++ l.self) × (l.n ≤ l.most)

abbrev pub decreases-digits : goal.decreases-digits
decreases-digits l = length l.self
