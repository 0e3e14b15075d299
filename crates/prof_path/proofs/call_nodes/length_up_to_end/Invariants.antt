use Rattle.std.proofs.Common.{◌≡◌, take, drop}
use Rattle.prof_path.specs.Rewriting.{up_to_end}
use Rattle.prof_path.proofs.call_nodes.length_up_to_end.Given as goal

abbrev pub invariant-loop-place : goal.invariant-loop-place
invariant-loop-place l = up_to_end l.thread.shared l.filter (drop l.met l.funcs) (take l.place l.path) ≡ up_to_end l.thread.shared l.filter l.funcs l.path
