-- Paths that are read from their leaves
use Rattle.std.specs.Prelude.{◌≡◌, ℕ, ◌<◌, ◌==◌, List, [], ◌∷◌, length, Option, Some, None, slice_get, IfSome, if◌then◌else◌}
use Rattle.std.specs.List.{All}
use Rattle.std.specs.Option.{option_map_or}
use Rattle.prof_tables.specs.declared.rows.StackRow.{StackRow}
use Rattle.prof_tables.specs.Threads.{SharedTables}
use Rattle.prof_path.specs.declared.transform.Implementation.{Implementation}
use Rattle.prof_path.specs.Shown.{shown}
use Rattle.prof_layer.specs.declared.focusing.Node.{Node}

-- the nearest row whose step is shown, from a row on
abbrev pub nearest : List Node → Option ℕ → Option ℕ
nearest nodes None = None
nearest nodes (Some r) = option_map_or (λ (node : Node). if node.shown then Some r else node.above) (slice_get nodes r) None

-- the row at which the functions end, read upwards over shown rows from one on
abbrev pub end_above : List Node → List ℕ → Option ℕ → Option ℕ
end_above nodes [] row = None
end_above nodes (f ∷ funcs) None = None
end_above nodes (f ∷ funcs) (Some r) =
    option_map_or (λ (node : Node). if node.func == f then (if length funcs == 0 then Some r else end_above nodes funcs node.above) else None) (slice_get nodes r) None

abbrev pub node_of : SharedTables → Implementation → List Node → StackRow → Node
node_of t i nodes row = record { func = row.func; shown = shown t i row.func; above = nearest nodes row.prefix }

-- the nodes of the first n rows
pub record AreNodes (t : SharedTables) (i : Implementation) (top : List StackRow) (n : ℕ) (nodes : List Node) : Type 0 where
  pub count : length nodes ≡ n
  pub each : (k : ℕ) (row : StackRow) → k < n → slice_get top k ≡ Some row → slice_get nodes k ≡ Some (node_of t i nodes row)

-- each row above is one of the rows
abbrev pub IsLinked : List Node → Type 0
IsLinked nodes = All (λ (node : Node). IfSome node.above (λ a. a < length nodes)) nodes
