use Rattle.std.proofs.Common.{◌≡◌, true, drop, ◌<◌, ◌^◌}
use Rattle.std.specs.List.{list_all}
use Rattle.prof_location.specs.Locations.{is_hexadecimal, hex_behind}
use Rattle.prof_location.proofs.address.hex_value.Given as goal

abbrev pub invariant-loop-c : goal.invariant-loop-c
invariant-loop-c l = record { rest : hex_behind l.value (drop l.c-index l.digits) ≡ hex_behind 0 l.digits; digits : list_all is_hexadecimal (drop l.c-index l.digits) ≡ true; small : l.value < 2 ^ 64 }
