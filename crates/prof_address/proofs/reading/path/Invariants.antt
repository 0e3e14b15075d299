use Rattle.std.proofs.Common.{◌≡◌, ◌++◌, length}
use Rattle.prof_spell.specs.Pieces.{EachFits}
use Rattle.prof_spell.proofs.Parts.{leading}
use Rattle.prof_address.specs.Transforms.{u32s}
use Rattle.prof_address.proofs.reading.path.Given as goal

abbrev pub invariant-funcs : goal.invariant-funcs
invariant-funcs l = (l.fn.cursor ≡ leading u32s.text 46 l.path ++ l.cursor) × EachFits u32s.Fits l.path

abbrev pub decreases-funcs : goal.decreases-funcs
decreases-funcs l = length l.cursor
