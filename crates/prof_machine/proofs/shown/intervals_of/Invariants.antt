use Rattle.std.proofs.Common.{◌≡◌, map, take}
use Rattle.prof_machine.specs.Known.{intervals}
use Rattle.prof_machine.proofs.shown.intervals_of.Given as goal

abbrev pub invariant-loop-t : goal.invariant-loop-t
invariant-loop-t l = l.lists.items ≡ map (intervals l.thread) (take l.t-index l.transforms)
