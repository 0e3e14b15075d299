use Rattle.std.proofs.Common.{◌≡◌, map, take}
use Rattle.prof_machine.specs.Known.{marker_at}
use Rattle.prof_machine.proofs.shown.picked.Given as goal

abbrev pub invariant-loop-place : goal.invariant-loop-place
invariant-loop-place l = l.list ≡ map (marker_at l.markers) (take l.place-index l.places)
