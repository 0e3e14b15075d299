use Rattle.std.proofs.Common.{◌≡◌, ◌++◌, take}
use Rattle.prof_spell.specs.Pieces.{joined_text}
use Rattle.prof_address.specs.Views.{range_text}
use Rattle.prof_address.proofs.view_writing.push_ranges.Given as goal

abbrev pub invariant-items : goal.invariant-items
invariant-items l = l.text ≡ l.fn.text ++ joined_text range_text 126 (take l.i l.list)
