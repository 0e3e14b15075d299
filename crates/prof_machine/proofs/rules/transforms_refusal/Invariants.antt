use Rattle.std.proofs.Common.{◌≡◌, map, drop}
use Rattle.prof_machine.specs.Machine.{first_of, transform_refusal}
use Rattle.prof_machine.proofs.rules.transforms_refusal.Given as goal

abbrev pub invariant-loop-t : goal.invariant-loop-t
invariant-loop-t l = first_of (map (transform_refusal l.thread) l.transforms) ≡ first_of (map (transform_refusal l.thread) (drop l.t-index l.transforms))
