use Rattle.std.proofs.Common.{◌≡◌, ◌++◌, length}
use Rattle.prof_spell.specs.Pieces.{EachFits}
use Rattle.prof_spell.proofs.Parts.{leading}
use Rattle.prof_address.specs.Views.{range_text, IsWrittenRange}
use Rattle.prof_address.proofs.view.some_ranges.Given as goal

abbrev pub invariant-items : goal.invariant-items
invariant-items l = (l.fn.cursor ≡ leading range_text 126 l.list.items ++ l.cursor) × EachFits IsWrittenRange l.list.items

abbrev pub decreases-items : goal.decreases-items
decreases-items l = length l.cursor
