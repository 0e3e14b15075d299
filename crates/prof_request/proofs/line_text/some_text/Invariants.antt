use Rattle.std.proofs.Common.{length}
use Rattle.prof_request.proofs.RestLemmas.{TextSoFar}
use Rattle.prof_request.proofs.line_text.some_text.Given as goal

abbrev pub invariant-bytes : goal.invariant-bytes
invariant-bytes l = TextSoFar l.fn.cursor l.bytes.items l.due l.cursor

abbrev pub decreases-bytes : goal.decreases-bytes
decreases-bytes l = length l.cursor
