-- The lines so far were written, but for what waits on the page.
use Rattle.std.proofs.Common.{take, [], Ok}
use Rattle.std.specs.List.{flat_map}
use Rattle.prof_io.specs.Outside.{seen}
use Rattle.prof_reply.specs.Replies.{node_line}
use Rattle.prof_page.specs.Gathering.{Gathers}
use Rattle.prof_reply.proofs.tree.write_nodes.Given as goal

abbrev pub invariant-loop-node : goal.invariant-loop-node
invariant-loop-node g l =
    Gathers {T = Unit {0}} {E = Unit {0}} (seen g.S.Counted l.fn.out) (seen g.S.Counted l.out) (Ok tt) []
    (flat_map (node_line l.thread.shared) (take l.node-index l.nodes)) l.page.bytes
