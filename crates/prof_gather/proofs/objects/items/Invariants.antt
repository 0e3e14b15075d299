use Rattle.std.proofs.Common.{◌≡◌, ◌≤◌}
use Rattle.prof_gather.proofs.Turnings.{ItemsSoFar}
use Rattle.prof_gather.proofs.objects.items.Given as goal

abbrev pub invariant-items : goal.invariant-items
invariant-items g l = record { frames : l.feed.frames ≡ l.fn.feed.frames; room : l.feed.room ≤ l.fn.feed.room; taken : ItemsSoFar g.T.FromItems.is l.fn.list l.fn.feed l.feed l.list }

abbrev pub decreases-items : goal.decreases-items
decreases-items g l = l.feed.room
