use Rattle.std.proofs.Common.{length, map}
use Rattle.prof_gecko.specs.Work.{entries_left}
use Rattle.prof_gecko.proofs.Walking.{Walked}
use Rattle.prof_gecko.proofs.profile.threads_of.Given as goal

abbrev pub invariant-walk : goal.invariant-walk
invariant-walk l = Walked l.common.categories l.common.default l.common.root l.fn.root (entries_left l.work.items) (map (λ t. t.value) l.threads.items)

abbrev pub decreases-walk : goal.decreases-walk
decreases-walk l = length (entries_left l.work.items)
