use Rattle.std.proofs.Common.{◌≡◌, ℕ, List, take}
use Rattle.prof_tables.specs.declared.rows.Step.{Step}
use Rattle.prof_view_tree.specs.Groups.{AreBelow, bulk, bundle}
use Rattle.prof_view_tree.specs.Weighing.{held, mass}
use Rattle.prof_view_tree.proofs.groups.entries_of.Given as goal

abbrev pub invariant-loop-place : goal.invariant-loop-place
invariant-loop-place l = record {
  paths : (path_at : ℕ → List Step) → bundle path_at l.entries.items ≡ held path_at 0 (take l.place l.own);
  rows : AreBelow l.place l.entries.items;
  size : bulk l.entries.items ≡ mass (take l.place l.own);
}
