use Rattle.std.proofs.Common.{take}
use Rattle.prof_token.specs.Bytes.{Each, is_plain}
use Rattle.prof_token.proofs.scan.plain_len.Given as goal

abbrev pub invariant-loop-i : goal.invariant-loop-i
invariant-loop-i l = Each is_plain (take l.i l.bytes)
