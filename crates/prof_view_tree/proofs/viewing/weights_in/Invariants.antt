use Rattle.prof_view_tree.specs.Weighing.{Weighs}
use Rattle.prof_view_tree.proofs.FinalRows.{finals_upto}
use Rattle.prof_view_tree.proofs.viewing.weights_in.Given as goal

abbrev pub invariant-loop-k : goal.invariant-loop-k
invariant-loop-k l = Weighs l.viewed.shown.rows.items (finals_upto l.layers.base l.view l.layers.spans l.k) l.weights
