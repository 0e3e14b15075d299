use Rattle.std.proofs.Common.{◌≡◌, ◌≤◌, ◌+◌, length}
use Rattle.prof_layer.specs.Passing.{IsPassed}
use Rattle.prof_layer.proofs.passing.pass.Given as goal

abbrev pub invariant-loop-i : goal.invariant-loop-i
invariant-loop-i g l = record {
  passed : IsPassed l.thread.shared l.t l.top l.i l.rows.rows l.places.items;
  room : l.rows.room ≡ length l.top;
  funcs : l.rows.funcs ≡ length l.thread.shared.funcs + length l.thread.shared.resources;
  categories : l.rows.categories ≡ l.thread.shared.categories;
  reads : l.reads ≤ l.initial.reads + l.i;
}
