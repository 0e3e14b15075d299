use Rattle.std.proofs.Common.{◌≡◌, true, take}
use Rattle.std.specs.List.{list_all}
use Rattle.prof_location.specs.Locations.{is_decimal}
use Rattle.prof_location.proofs.location.are_decimal.Given as goal

abbrev pub invariant-loop-c : goal.invariant-loop-c
invariant-loop-c l = list_all is_decimal (take l.c-index l.text) ≡ true
