use Rattle.std.proofs.Common.{◌≡◌, ◌++◌, take}
use Rattle.prof_address.specs.Transforms.{paths}
use Rattle.prof_address.proofs.writing.push_path.Given as goal

abbrev pub invariant-funcs : goal.invariant-funcs
invariant-funcs l = l.text ≡ l.fn.text ++ paths.text (take l.i l.func-items)
