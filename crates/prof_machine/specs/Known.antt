-- A profile that sessions stand on, and what a view shows of one of its threads
use Rattle.std.specs.Prelude.{ℕ, pos, List, [], length, get_or, map, Option, Some, None, nat_lt, if◌then◌else◌}
use Rattle.std.specs.List.{filter}
use Rattle.prof_raw.specs.declared.raw.Unit.TheVariants.{Samples}
use Rattle.prof_tables.specs.Threads.{ThreadTables}
use Rattle.prof_path.specs.declared.lists.Span.{Span}
use Rattle.prof_path.specs.declared.transform.Transform.{Transform}
use Rattle.prof_path.specs.declared.transform.Transform.TheVariants.{FilterSamples}
use Rattle.prof_path.specs.Terms.{terms_of}
use Rattle.prof_path.specs.Views.{ViewLists}
use Rattle.prof_marker.specs.declared.list.Marker.{Marker}
use Rattle.prof_marker.specs.Markers.{pair}
use Rattle.prof_marker.specs.Found.{is_found, spans}
use Rattle.prof_tree.specs.Nodes.{node_limit}
use Rattle.prof_tree.specs.Trees.{TreeLists}
use Rattle.prof_view_tree.specs.Views.{plain_tree, inverted_tree, selected_weight, dropped_weight}

-- the threads of a profile, and the digest of its text
pub record Known : Type 0 where
  pub threads : List ThreadTables
  pub digest : List ℕ

-- what stands for a thread and for a profile that isn't there
abbrev pub no_thread : ThreadTables
no_thread = record {
  shared = record { strings = []; resources = []; funcs = []; frames = []; stacks = []; stack_frames = []; categories = 0; default = 0 };
  name = [];
  unit = Samples;
  samples = [];
  markers = record { rows = []; texts = [] };
}

abbrev pub no_profile : Known
no_profile = record { threads = []; digest = [] }

abbrev pub thread_at : Known → ℕ → ThreadTables
thread_at p n = get_or p.threads n no_thread

-- the thread of a view
abbrev pub thread_of : Known → ViewLists → ThreadTables
thread_of p v = thread_at p v.thread

-- the intervals in which a transform keeps samples: those of the markers that the search of a FilterSamples finds
abbrev pub intervals : ThreadTables → Transform → List Span
intervals t (FilterSamples search) = spans t search (pair t)
intervals t transform = []

-- the tree that a view shows of its thread, and the inverted one, where that has no more nodes than the limit
abbrev pub tree_of : ThreadTables → ViewLists → TreeLists
tree_of t v =
    let found = map (intervals t) v.transforms in
    record { nodes = plain_tree t v found; selected = selected_weight t v found; dropped = dropped_weight t v found }

abbrev pub inverted_of : ThreadTables → ViewLists → Option TreeLists
inverted_of t v =
    let found = map (intervals t) v.transforms in
    let nodes = inverted_tree t v found in
    if nat_lt node_limit (length nodes)
    then None
    else Some (record { nodes = nodes; selected = selected_weight t v found; dropped = dropped_weight t v found })

-- the markers of a thread that a search finds and that overlap every range of a view
abbrev pub markers_of : ThreadTables → ViewLists → List ℕ → List Marker
markers_of t v search = filter (is_found t.shared.strings t.markers.texts (terms_of search) v.ranges) (pair t)

-- the marker at a place of a list
abbrev pub marker_at : List Marker → ℕ → Marker
marker_at markers k = get_or markers k (record { name = 0; start = pos 0; end = pos 0; texts = (0, 0); more = (0, 0) })
