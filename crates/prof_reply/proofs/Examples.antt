-- Worked replies, by evaluation.
use Rattle.std.proofs.Common.{◌≡◌, ℕ, [], ◌∷◌, codes, false, refl}
use Rattle.std.specs.Prelude.{None, Some, pos}
use Rattle.std.specs.Fmt.{digits}
use Rattle.hex.specs.Hex.{encode_with}
use Rattle.prof_raw.specs.declared.raw.Unit.TheVariants.{Samples}
use Rattle.prof_marker.specs.declared.list.Marker.{Marker}
use Rattle.prof_tables.specs.Threads.{Func, ThreadTables}
use Rattle.prof_tree.specs.declared.node.Node.{Node}
use Rattle.prof_tree.specs.Trees.{TreeLists}
use Rattle.prof_machine.specs.declared.refusal.Refusal.TheVariants.{NoThread, Stale, FuncOut, NothingToRedo, BadAddress, OtherProfile, TooManyNodes, BadText}
use Rattle.prof_machine.specs.declared.refusal.Reply.TheVariants.{Done, Closed, Tree, Inverted, Markers, Address, Refused, NoMemory}
use Rattle.prof_reply.specs.Lines.{marker_head, markers_head, node_head, tree_head}
use Rattle.prof_reply.specs.Replies.{reply_bytes}

-- a thread with the function A and the resource app
abbrev a_function : Func
a_function = record { name = 0; is_js = false; relevant_for_js = false; resource = Some 0; file = None }

abbrev a_thread : ThreadTables
a_thread = record {
  shared = record { strings = codes "A" ∷ codes "app" ∷ []; resources = 1 ∷ []; funcs = a_function ∷ []; frames = []; stacks = []; stack_frames = []; categories = 1; default = 0 };
  name = codes "T";
  unit = Samples;
  samples = [];
  markers = record { rows = []; texts = [] };
}

abbrev a_node : ℕ → ℕ → Node
a_node depth func = record { depth = depth; func = func; total = pos 3; own = pos 2; category = 0 }

abbrev a_tree : TreeLists
a_tree = record { nodes = a_node 0 0 ∷ a_node 1 1 ∷ []; selected = pos 6; dropped = pos 3 }

abbrev a_marker : Marker
a_marker = record { name = 1; start = pos 1000000; end = pos 3000000; texts = (0, 0); more = (0, 0) }

pub done : reply_bytes None (Done 4294967295) ≡ codes "ok 4294967295\n"
unfolding digits
done = refl

pub closed : reply_bytes None Closed ≡ codes "ok\n"
closed = refl

pub plain : reply_bytes (Some a_thread) (Tree a_tree)
    ≡ codes "tree plain unit samples nodes 2 selected 6 dropped 3\n0 3 2 0 0 \"A\"\n1 3 2 0 1 \"app\"\n"
unfolding digits tree_head node_head
plain = refl

pub inverted : reply_bytes (Some a_thread) (Inverted a_tree)
    ≡ codes "tree inverted unit samples nodes 2 selected 6 dropped 3\n0 3 2 0 0 \"A\"\n1 3 2 0 1 \"app\"\n"
unfolding digits tree_head node_head
inverted = refl

pub markers : reply_bytes (Some a_thread) (Markers (a_marker ∷ [])) ≡ codes "markers 1\n1000000 3000000 \"app\"\n"
unfolding digits markers_head marker_head
markers = refl

pub address : reply_bytes None (Address (codes "thread=0")) ≡ codes "address thread=0\n"
address = refl

pub no_thread : reply_bytes None (Refused (NoThread 0)) ≡ codes "refused S4 NoThread 0\n"
unfolding digits
no_thread = refl

pub stale : reply_bytes None (Refused (Stale 1)) ≡ codes "refused S5 Stale 1\n"
unfolding digits
stale = refl

pub func_out : reply_bytes None (Refused (FuncOut 5)) ≡ codes "refused S6 FuncOut 5\n"
unfolding digits
func_out = refl

pub nothing_to_redo : reply_bytes None (Refused NothingToRedo) ≡ codes "refused S16 NothingToRedo\n"
nothing_to_redo = refl

pub bad_address : reply_bytes None (Refused (BadAddress 24)) ≡ codes "refused S17 BadAddress 24\n"
unfolding digits
bad_address = refl

pub other_profile : reply_bytes None (Refused (OtherProfile (171 ∷ []) (5 ∷ []))) ≡ codes "refused S21 OtherProfile ab 05\n"
unfolding encode_with
other_profile = refl

pub too_many_nodes : reply_bytes None (Refused (TooManyNodes 4194304)) ≡ codes "refused S22 TooManyNodes 4194304\n"
unfolding digits
too_many_nodes = refl

pub bad_text : reply_bytes None (Refused (BadText 131072)) ≡ codes "refused S26 BadText 131072\n"
unfolding digits
bad_text = refl

pub no_memory : reply_bytes None NoMemory ≡ codes "refused S27 NoMemory\n"
no_memory = refl
