-- What a view shows of the samples of a thread
use Rattle.std.specs.Prelude.{ℤ, int_le, int_lt, Bool, ◌&&◌, List, map}
use Rattle.std.specs.List.{filter, list_all}
use Rattle.prof_tables.specs.declared.rows.SampleRow.{SampleRow}
use Rattle.prof_tables.specs.Threads.{ThreadTables}
use Rattle.prof_tables.specs.Paths.{path}
use Rattle.prof_path.specs.declared.lists.Span.{Span}
use Rattle.prof_path.specs.declared.transform.Range.{Range}
use Rattle.prof_path.specs.Views.{ViewLists}
use Rattle.prof_path.specs.Terms.{terms_of}
use Rattle.prof_path.specs.Finals.{final}
use Rattle.prof_tree.specs.declared.node.Node.{Node}
use Rattle.prof_tree.specs.Nodes.{Weighed, nodes_of, inverted_of, total, dropped_of}

-- whether a moment lies in a range, which has its start and not its end
abbrev pub is_within : ℤ → Range → Bool
is_within m range = int_le range.start m && int_lt m range.end

-- the samples whose time lies in every range
abbrev pub selected_samples : List Range → List SampleRow → List SampleRow
selected_samples ranges samples = filter (λ (s : SampleRow). list_all (is_within s.time) ranges) samples

-- the selected samples' final paths, with their weights. A sample is kept where its final path has a step. `spans` has
-- one list for each transform: the intervals of the markers that a FilterSamples finds
abbrev pub finals : ThreadTables → ViewLists → List (List Span) → List Weighed
finals t v spans = map (λ (s : SampleRow). record {
  steps = final t.shared v.transforms spans v.implementation (terms_of v.search) (path t.shared.stacks s.stack) s.time;
  weight = s.weight;
}) (selected_samples v.ranges t.samples)

-- the trees that a view shows of a thread
abbrev pub plain_tree : ThreadTables → ViewLists → List (List Span) → List Node
plain_tree t v spans = nodes_of t.shared.default (finals t v spans)

abbrev pub inverted_tree : ThreadTables → ViewLists → List (List Span) → List Node
inverted_tree t v spans = inverted_of t.shared.default (finals t v spans)

-- the weight of the selected samples, and that of those among them that are not kept
abbrev pub selected_weight : ThreadTables → ViewLists → List (List Span) → ℤ
selected_weight t v spans = total (finals t v spans)

abbrev pub dropped_weight : ThreadTables → ViewLists → List (List Span) → ℤ
dropped_weight t v spans = dropped_of (finals t v spans)
