use Rattle.std.proofs.Common.{◌≡◌, ◌≤◌, ◌+◌, ◌*◌}
use Rattle.prof_gather.proofs.Turnings.{MembersSoFar}
use Rattle.prof_processes.proofs.ChildLists.{ChildrenSoFar}
use Rattle.prof_processes.specs.Processes.{AreProcessMembers}
use Rattle.prof_processes.proofs.process.+reading.Given as goal

abbrev pub decreases-read_process : goal.decreases-read_process
decreases-read_process g l = 2 * l.feed.now.room

abbrev pub decreases-member : goal.decreases-member
decreases-member g l = 2 * l.feed.now.room + 1

abbrev pub decreases-child_list : goal.decreases-child_list
decreases-child_list g l = 2 * l.feed.now.room

abbrev pub decreases-child_items : goal.decreases-child_items
decreases-child_items g l = 2 * l.feed.now.room

abbrev pub decreases-child : goal.decreases-child
decreases-child g l = 2 * l.feed.now.room + 1

abbrev pub invariant-read_process-members : goal.invariant-read_process-members
invariant-read_process-members g l = record { frames : l.feed.frames ≡ l.fn.feed.frames; room : l.feed.room ≤ l.fn.feed.room; taken : MembersSoFar (λ ms p. AreProcessMembers ms p) l.fn.feed l.feed l.found }

abbrev pub decreases-read_process-members : goal.decreases-read_process-members
decreases-read_process-members g l = l.feed.room

abbrev pub invariant-child_items-items : goal.invariant-child_items-items
invariant-child_items-items g l = record { frames : l.feed.frames ≡ l.fn.feed.frames; room : l.feed.room ≤ l.fn.feed.room; taken : ChildrenSoFar l.fn.feed l.feed l.list }

abbrev pub decreases-child_items-items : goal.decreases-child_items-items
decreases-child_items-items g l = l.feed.room
