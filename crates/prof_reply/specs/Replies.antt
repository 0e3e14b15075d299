-- The texts of replies.
use Rattle.std.specs.Prelude.{ℕ, ℤ, ◌+◌, nat_lt, List, [], ◌++◌, length, codes, Option, Some, None, if◌then◌else◌}
use Rattle.std.specs.Fmt.{decimal}
use Rattle.std.specs.List.{flat_map}
use Rattle.prof_raw.specs.declared.raw.Unit.{Unit}
use Rattle.prof_raw.specs.declared.raw.Unit.TheVariants as unit
use Rattle.prof_marker.specs.declared.list.Marker.{Marker}
use Rattle.prof_marker.specs.Markers.{name_text}
use Rattle.prof_tables.specs.Threads.{SharedTables, ThreadTables, func_name}
use Rattle.prof_tree.specs.declared.node.Node.{Node}
use Rattle.prof_machine.specs.declared.refusal.Reply.{Reply}
use Rattle.prof_machine.specs.declared.refusal.Reply.TheVariants.{Done, Closed, Tree, Inverted, Markers, Address, Refused, NoMemory}
use Rattle.prof_writer.specs.Writing.{quoted}
use Rattle.prof_reply.specs.Lines.{line, marker_head, markers_head, node_head, tree_head}
use Rattle.prof_reply.specs.Refusals.{refusal_text}

abbrev pub unit_text : Unit → List ℕ
unit_text unit.Samples = codes "samples"
unit_text unit.Bytes = codes "bytes"
unit_text unit.Ns = codes "ns"

-- the name of a function, or of a resource collapsed, and none of a number past them
abbrev pub node_name : SharedTables → ℕ → List ℕ
node_name t f = if nat_lt f (length t.funcs + length t.resources) then func_name t f else []

-- a node's line: its numbers, and its function's name as a JSON string
abbrev pub node_line : SharedTables → Node → List ℕ
node_line t node = node_head node ++ (quoted (node_name t node.func) ++ codes "\n")

-- a tree of a kind: the weights, and a line for each node
abbrev pub text_of_tree : List ℕ → ThreadTables → List Node → ℤ → ℤ → List ℕ
text_of_tree kind t nodes selected dropped =
    tree_head kind (unit_text t.unit) (length nodes) selected dropped ++ flat_map (node_line t.shared) nodes

-- a plain tree
abbrev pub tree_text : ThreadTables → List Node → ℤ → ℤ → List ℕ
tree_text t nodes selected dropped = text_of_tree (codes "plain") t nodes selected dropped

-- an inverted tree
abbrev pub inverted_text : ThreadTables → List Node → ℤ → ℤ → List ℕ
inverted_text t nodes selected dropped = text_of_tree (codes "inverted") t nodes selected dropped

-- a marker's line: its times, and its name as a JSON string
abbrev pub marker_line : SharedTables → Marker → List ℕ
marker_line t marker = marker_head marker ++ (quoted (name_text t.strings marker.name) ++ codes "\n")

-- markers: their number, and a line for each
abbrev pub markers_text : SharedTables → List Marker → List ℕ
markers_text t markers = markers_head (length markers) ++ flat_map (marker_line t) markers

-- a reply, where the thread is that of the session's present view
abbrev pub reply_bytes : Option ThreadTables → Reply → List ℕ
reply_bytes thread (Done version) = line (codes "ok " ++ decimal version)
reply_bytes thread Closed = line (codes "ok")
reply_bytes None (Tree tree) = []
reply_bytes (Some t) (Tree tree) = tree_text t tree.nodes tree.selected tree.dropped
reply_bytes None (Inverted tree) = []
reply_bytes (Some t) (Inverted tree) = inverted_text t tree.nodes tree.selected tree.dropped
reply_bytes None (Markers markers) = []
reply_bytes (Some t) (Markers markers) = markers_text t.shared markers
reply_bytes thread (Address view) = line (codes "address " ++ view)
reply_bytes thread (Refused refusal) = line (refusal_text refusal)
reply_bytes thread NoMemory = line (codes "refused S27 NoMemory")
