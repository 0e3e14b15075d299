use Rattle.std.proofs.Common.{◌≡◌, ◌≤◌}
use Rattle.prof_gather.proofs.Turnings.{MembersSoFar}
use Rattle.prof_gather.proofs.objects.members.Given as goal

abbrev pub invariant-members : goal.invariant-members
invariant-members g l = record { frames : l.feed.frames ≡ l.fn.feed.frames; room : l.feed.room ≤ l.fn.feed.room; taken : MembersSoFar g.T.FromMembers.is l.fn.feed l.feed l.found }

abbrev pub decreases-members : goal.decreases-members
decreases-members g l = l.feed.room
