use Rattle.std.proofs.Common.{take}
use Rattle.prof_token.specs.Bytes.{Each, is_digit}
use Rattle.prof_token.proofs.scan.digit_len.Given as goal

abbrev pub invariant-loop-i : goal.invariant-loop-i
invariant-loop-i l = Each is_digit (take l.i l.bytes)
