use Rattle.std.proofs.Common.{◌≡◌, take}
use Rattle.prof_path.proofs.transform.View.copy.Given as goal

abbrev pub invariant-loop-transform : goal.invariant-loop-transform
invariant-loop-transform l = l.transforms.items ≡ take l.transform-index l.transform-items
