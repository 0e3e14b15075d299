use Rattle.std.proofs.Common.{◌≡◌, ◌+◌, ◌*◌, ◌^◌, ◌≤◌, take_while, length}
use Rattle.std.specs.Char.{is_ascii_digit}
use Rattle.prof_time.specs.TakenApart.{behind_digits}
use Rattle.prof_time.proofs.Values.{read_behind}
use Rattle.prof_time.proofs.digits.read_digits.Given as goal

abbrev pub invariant-loop-rest : goal.invariant-loop-rest
invariant-loop-rest l = record {
  value : read_behind l.value (take_while is_ascii_digit l.rest) ≡ read_behind l.front (take_while is_ascii_digit l.text);
  behind : behind_digits l.rest ≡ behind_digits l.text;
  small : (l.value + 1) * 10 ^ length l.rest ≤ 10 ^ 18;
}

abbrev pub decreases-loop-rest : goal.decreases-loop-rest
decreases-loop-rest l = length l.rest
