use Rattle.std.proofs.Common.{◌≡◌, [], replicate}
use Rattle.prof_path_calls.proofs.layers.no_spans.Given as goal

abbrev pub invariant-loop-place : goal.invariant-loop-place
invariant-loop-place l = l.list.items ≡ replicate l._place []
