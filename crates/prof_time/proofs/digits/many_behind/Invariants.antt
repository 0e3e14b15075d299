use Rattle.std.proofs.Common.{◌≡◌, ◌-◌, ◌^◌, min, take}
use Rattle.prof_time.proofs.Values.{read_behind}
use Rattle.prof_time.proofs.digits.many_behind.Given as goal

abbrev pub invariant-loop-digit : goal.invariant-loop-digit
invariant-loop-digit l = l.value ≡ min (read_behind l.front (take l.digit-index l.digits)) (2 ^ 128 - 1)
