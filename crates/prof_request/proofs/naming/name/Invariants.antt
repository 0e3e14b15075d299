use Rattle.std.proofs.Common.{length}
use Rattle.prof_request.proofs.NameLemmas.{NameSoFar}
use Rattle.prof_request.proofs.naming.name.Given as goal

abbrev pub invariant-bytes : goal.invariant-bytes
invariant-bytes l = NameSoFar l.fn.cursor l.bytes.items l.cursor

abbrev pub decreases-bytes : goal.decreases-bytes
decreases-bytes l = length l.cursor
