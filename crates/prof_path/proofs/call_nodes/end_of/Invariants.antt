use Rattle.std.proofs.Common.{◌≡◌, ◌+◌, drop}
use Rattle.std.specs.Option.{option_map}
use Rattle.prof_path.specs.Rewriting.{end_of}
use Rattle.prof_path.proofs.call_nodes.end_of.Given as goal

abbrev pub invariant-loop-place : goal.invariant-loop-place
invariant-loop-place l = option_map (λ k. l.place + k) (end_of l.thread.shared l.filter (drop l.met l.funcs) (drop l.place l.path)) ≡ end_of l.thread.shared l.filter l.funcs l.path
