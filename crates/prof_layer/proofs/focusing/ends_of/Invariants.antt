use Rattle.std.proofs.Common.{◌≡◌, ◌<◌, ℕ, length, Some}
use Rattle.prof_layer.specs.Rewritten.{entry_at}
use Rattle.prof_layer.specs.Focusing.{end_above, nearest}
use Rattle.prof_layer.proofs.focusing.ends_of.Given as goal

abbrev pub invariant-loop-row : goal.invariant-loop-row
invariant-loop-row l = record {
  count : length l.ends.items ≡ l.row;
  ends : (r : ℕ) → r < l.row → entry_at l.ends.items r ≡ end_above l.nodes l.funcs (nearest l.nodes (Some r));
}
