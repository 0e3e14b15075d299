use Rattle.std.proofs.Common.{◌≡◌, None}
use Rattle.std.specs.List.{All}
use Rattle.prof_path.specs.declared.transform.Transform.{Transform}
use Rattle.prof_path.specs.Refusals.{refusal_of}
use Rattle.prof_path_calls.proofs.layers.transforms_of.Given as goal

abbrev pub invariant-loop-change : goal.invariant-loop-change
invariant-loop-change l = All (λ (t : Transform). refusal_of l.thread.shared t ≡ None) l.list.items
