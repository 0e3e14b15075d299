use Rattle.std.proofs.Common.{◌≡◌, List, length}
use Rattle.prof_spell.proofs.Chained.{Came}
use Rattle.prof_address.specs.Parts.{Said, part_chain, filled}
use Rattle.prof_address.proofs.view.next_view.Given as goal

abbrev pub invariant-parts : goal.invariant-parts
invariant-parts l = (done : List Said) × Came (part_chain l.form) 0 l.initial.cursor done l.due l.cursor × (l.view ≡ filled l.initial.view done)

abbrev pub decreases-parts : goal.decreases-parts
decreases-parts l = length l.cursor
