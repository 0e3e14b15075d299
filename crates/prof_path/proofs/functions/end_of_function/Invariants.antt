use Rattle.std.proofs.Common.{◌≡◌, ◌-◌, ◌<◌, ◌≤◌, ℕ, length, get_or, true, false}
use Rattle.prof_tables.specs.declared.rows.Step.{Step}
use Rattle.prof_path.specs.Rewriting.{is_func}
use Rattle.prof_path.proofs.functions.end_of_function.Given as goal

abbrev pub invariant-loop-place : goal.invariant-loop-place
invariant-loop-place l = record {
  low : 0 < l.end;
  high : l.end ≤ length l.path;
  hit : (d : Step) → is_func l.func (get_or l.path (l.end - 1) d) ≡ true;
  none : (k : ℕ) (d : Step) → l.end ≤ k → k < l.place → is_func l.func (get_or l.path k d) ≡ false;
}
