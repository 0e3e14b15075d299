use Rattle.std.proofs.Common.{◌≡◌, ◌+◌, ◌*◌, ◌^◌, ◌≤◌, take}
use Rattle.prof_time.proofs.Values.{read_behind}
use Rattle.prof_time.proofs.digits.few_value.Given as goal

abbrev pub invariant-loop-digit : goal.invariant-loop-digit
invariant-loop-digit l = record {
  value : l.value ≡ read_behind 0 (take l.digit-index l.digits);
  small : l.value + 23 ≤ 23 * 10 ^ l.digit-index;
}
