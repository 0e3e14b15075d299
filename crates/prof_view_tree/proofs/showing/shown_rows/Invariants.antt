use Rattle.prof_view_tree.specs.Showing.{AreShown}
use Rattle.prof_view_tree.proofs.showing.shown_rows.Given as goal

abbrev pub invariant-loop-row : goal.invariant-loop-row
invariant-loop-row l = AreShown l.thread.shared l.filter l.rows l.row-index l.shown.items l.outs.items
