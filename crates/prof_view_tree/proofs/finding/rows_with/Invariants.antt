use Rattle.std.proofs.Common.{◌≡◌, ◌<◌, ℕ, List, length, Some}
use Rattle.std.specs.Prelude.{slice_get}
use Rattle.prof_tables.specs.Threads.{SharedTables}
use Rattle.prof_path.specs.Finals.{occurs_in}
use Rattle.prof_view_tree.specs.Showing.{AreMet}
use Rattle.prof_view_tree.proofs.finding.rows_with.Given as goal

abbrev pub invariant-loop-row : goal.invariant-loop-row
invariant-loop-row l = record {
  count : length l.met.items ≡ l.row-index;
  each : (t : SharedTables) (term : List ℕ) → ((f : ℕ) → f < length l.funcs → slice_get l.funcs f ≡ Some (occurs_in t term f)) → AreMet t term l.rows l.row-index l.met.items;
}
