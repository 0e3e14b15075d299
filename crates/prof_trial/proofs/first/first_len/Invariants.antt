-- No line feed was met so far, and none beyond the text.
use Rattle.std.proofs.Common.{length, drop, take, ◌-◌, ◌≡◌, ◌≤◌, ◌++◌}
use Rattle.prof_trial.specs.Firsts.{first_line}
use Rattle.prof_trial.proofs.first.first_len.Given as goal

abbrev pub invariant-loop-len : goal.invariant-loop-len
invariant-loop-len l = (l.len ≤ length l.text) × (first_line l.text ≡ take l.len l.text ++ first_line (drop l.len l.text))

abbrev pub decreases-loop-len : goal.decreases-loop-len
decreases-loop-len l = length l.text - l.len
