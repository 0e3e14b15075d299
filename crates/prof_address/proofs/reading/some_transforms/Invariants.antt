use Rattle.std.proofs.Common.{◌≡◌, ◌++◌, length}
use Rattle.prof_spell.specs.Pieces.{EachFits}
use Rattle.prof_spell.proofs.Parts.{leading}
use Rattle.prof_address.specs.Transforms.{transform_text, IsOf}
use Rattle.prof_address.proofs.reading.some_transforms.Given as goal

abbrev pub invariant-items : goal.invariant-items
invariant-items l = (l.fn.cursor ≡ leading transform_text 126 l.list.items ++ l.cursor) × EachFits (IsOf l.form) l.list.items

abbrev pub decreases-items : goal.decreases-items
decreases-items l = length l.cursor
