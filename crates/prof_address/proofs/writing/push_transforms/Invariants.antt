use Rattle.std.proofs.Common.{◌≡◌, ◌++◌, take}
use Rattle.prof_address.specs.Transforms.{transforms_text}
use Rattle.prof_address.proofs.writing.push_transforms.Given as goal

abbrev pub invariant-items : goal.invariant-items
invariant-items l = l.text ≡ l.fn.text ++ transforms_text (take l.i l.list)
