use Rattle.std.proofs.Common.{◌≡◌, ◌<◌, ◌≤◌, ℕ}
use Rattle.std.specs.Prelude.{◌&&◌}
use Rattle.prof_view_tree.specs.Showing.{flag_at}
use Rattle.prof_view_tree.proofs.finding.keep_both.Given as goal

abbrev pub invariant-loop-place : goal.invariant-loop-place
invariant-loop-place l = record {
  done : (r : ℕ) → r < l.place → flag_at l.kept r ≡ (flag_at l.initial.kept r && flag_at l.met r);
  rest : (r : ℕ) → l.place ≤ r → flag_at l.kept r ≡ flag_at l.initial.kept r;
}
