use Rattle.prof_view_tree.proofs.FoundRows.{AreSoFar}
use Rattle.prof_view_tree.proofs.finding.found_rows.Given as goal

abbrev pub invariant-loop-term : goal.invariant-loop-term
invariant-loop-term l = AreSoFar l.thread.shared l.terms l.term-index l.rows l.kept.items
