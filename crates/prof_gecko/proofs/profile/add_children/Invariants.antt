use Rattle.std.proofs.Common.{◌≡◌, ◌++◌, vec_len}
use Rattle.prof_gecko.specs.Gathered.{joined}
use Rattle.prof_gecko.specs.Work.{entries_left}
use Rattle.prof_gecko.proofs.profile.add_children.Given as goal

abbrev pub invariant-loop-child : goal.invariant-loop-child
invariant-loop-child l = joined l.children.items ++ entries_left l.work.items ≡ joined l.fn.children.items ++ entries_left l.fn.work.items

abbrev pub decreases-loop-child : goal.decreases-loop-child
decreases-loop-child l = vec_len l.children
