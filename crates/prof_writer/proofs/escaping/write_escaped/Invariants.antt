use Rattle.std.proofs.Common.{length}
use Rattle.prof_io.specs.Outside.{seen}
use Rattle.prof_writer.proofs.Strings.{IsEscaping}
use Rattle.prof_writer.proofs.escaping.write_escaped.Given as goal

abbrev pub invariant-loop-out : goal.invariant-loop-out
invariant-loop-out g l =
    IsEscaping (seen g.S.Counted l.fn.out) (seen g.S.Counted l.out) l.text l.rest

abbrev pub decreases-loop-out : goal.decreases-loop-out
decreases-loop-out g l = length l.rest
