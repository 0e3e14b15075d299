use Rattle.std.proofs.Common.{◌≡◌, ℕ, ◌<◌, ◌∷◌, [], ◌++◌, length, Some}
use Rattle.std.specs.Prelude.{slice_get}
use Rattle.prof_tables.specs.declared.rows.SampleRow.{SampleRow}
use Rattle.prof_layer.specs.Kept.{found_of, is_kept}
use Rattle.prof_layer.proofs.layers.Layers.flags_with.Given as goal

abbrev pub invariant-loop-k : goal.invariant-loop-k
invariant-loop-k l = record {
  count : length l.flags.items ≡ l.k;
  each : (j : ℕ) (s : SampleRow) → j < l.k → slice_get l.self.base.samples j ≡ Some s → slice_get l.flags.items j ≡ Some (is_kept (found_of l.self.settled l.self.spans ++ l.spans ∷ []) s.time);
}
