-- Rows as a view shows them
use Rattle.std.specs.Prelude.{◌≡◌, ℕ, ◌+◌, ◌<◌, ◌≤◌, Bool, false, List, [], ◌∷◌, ◌++◌, length, Option, Some, slice_index_or, if◌then◌else◌}
use Rattle.std.specs.List.{All, list_any}
use Rattle.prof_tables.specs.declared.rows.StackRow.{StackRow}
use Rattle.prof_tables.specs.declared.rows.SampleRow.{SampleRow}
use Rattle.prof_tables.specs.declared.rows.Step.{Step}
use Rattle.prof_tables.specs.Threads.{SharedTables}
use Rattle.prof_tables.specs.Paths.{path, PrefixesBelow}
use Rattle.prof_path.specs.declared.transform.Implementation.{Implementation}
use Rattle.prof_path.specs.Shown.{seen}
use Rattle.prof_path.specs.Finals.{final, found, occurs}
use Rattle.prof_layer.specs.Rewritten.{IsRowOf, entry_at}
use Rattle.prof_layer.specs.Simulates.{LayerLists}

-- a row goes to one of its own below that of its prefix where it is shown, and else to that of its prefix
abbrev pub rows_with : Bool → Option ℕ → StackRow → List StackRow → List StackRow
rows_with is_shown above row rows = if is_shown then rows ++ record row { prefix = above } ∷ [] else rows

abbrev pub out_with : Bool → Option ℕ → ℕ → Option ℕ
out_with is_shown above place = if is_shown then Some place else above

-- the shown steps of the paths of the first n rows, and where each of these rows went
pub record AreShown (t : SharedTables) (i : Implementation) (rows : List StackRow) (n : ℕ) (shown : List StackRow) (outs : List (Option ℕ)) : Type 0 where
  pub count : length outs ≡ n
  pub few : length shown ≤ n
  pub below : PrefixesBelow shown
  pub funcs : All (λ (row : StackRow). row.func < length t.funcs + length t.resources) shown
  pub each : (r : ℕ) → r < n → IsRowOf shown (entry_at outs r) (seen t i (path rows (Some r)))

-- a flag of a row
abbrev pub flag_at : List Bool → ℕ → Bool
flag_at flags r = slice_index_or flags r false

-- of each of the first n rows, whether a term occurs in some step of its path
pub record AreMet (t : SharedTables) (term : List ℕ) (rows : List StackRow) (n : ℕ) (met : List Bool) : Type 0 where
  pub count : length met ≡ n
  pub each : (r : ℕ) → r < n → flag_at met r ≡ list_any (occurs t term) (path rows (Some r))

-- of each row, whether each term occurs in some step of its path
pub record AreFound (t : SharedTables) (terms : List (List ℕ)) (rows : List StackRow) (kept : List Bool) : Type 0 where
  pub count : length kept ≡ length rows
  pub each : (r : ℕ) → r < length rows → flag_at kept r ≡ found t terms (path rows (Some r))

-- the rows of the top that a view shows, and the ones of these that its search finds
pub record AreViewed (t : SharedTables) (i : Implementation) (terms : List (List ℕ)) (top shown : List StackRow) (outs : List (Option ℕ)) (kept : List Bool) : Type 0 where
  pub rows : AreShown t i top (length top) shown outs
  pub found : AreFound t terms shown kept

-- the final path of a sample of the base
abbrev pub final_of : LayerLists → Implementation → List (List ℕ) → SampleRow → List Step
final_of l i terms s = final l.base.shared l.settled l.spans i terms (path l.base.shared.stacks s.stack) s.time
