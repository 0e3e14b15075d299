use Rattle.std.proofs.Common.{◌≡◌, ◌≤◌, ◌+◌, length, take}
use Rattle.prof_layer.specs.Focusing.{AreNodes}
use Rattle.prof_layer.proofs.focusing.nodes_of.Given as goal

abbrev pub invariant-loop-i : goal.invariant-loop-i
invariant-loop-i g l = record {
  nodes : AreNodes l.thread.shared l.filter l.top l.i l.nodes.items;
  rows : l.rows.rows ≡ take l.i l.top;
  room : l.rows.room ≡ length l.top;
  funcs : l.rows.funcs ≡ length l.thread.shared.funcs + length l.thread.shared.resources;
  categories : l.rows.categories ≡ l.thread.shared.categories;
  reads : l.reads ≤ l.initial.reads + l.i;
}
