use Rattle.std.proofs.Common.{ℕ, List, Option, length}
use Rattle.prof_tables.specs.declared.rows.StackRow.{StackRow}
use Rattle.prof_view_tree.specs.Sprouting.{AreSprouted, AreWeighed}
use Rattle.prof_view_tree.proofs.RowByRow.{AreEnded}
use Rattle.prof_view_tree.proofs.sprouting.add_ends.Given as goal

abbrev pub invariant-loop-place : goal.invariant-loop-place
invariant-loop-place l = (stacks : List StackRow) (ks : List (List ℕ)) (look : Option ℕ × ℕ → Option ℕ) → AreWeighed stacks l.own → AreSprouted stacks l.own (length stacks) ks l.fn.rows.items look l.nodes
    → AreEnded stacks l.own l.place ks l.rows.items look l.nodes
