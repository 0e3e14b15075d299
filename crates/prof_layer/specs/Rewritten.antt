-- Rows of stacks rewritten by a transform
use Rattle.std.specs.Prelude.{◌≡◌, ℕ, ◌+◌, ◌<◌, ◌≤◌, ℤ, List, [], length, Option, Some, None, MatchOption, slice_index_or}
use Rattle.std.specs.List.{All}
use Rattle.prof_tables.specs.declared.rows.Step.{Step}
use Rattle.prof_tables.specs.declared.rows.StackRow.{StackRow}
use Rattle.prof_tables.specs.Threads.{SharedTables}
use Rattle.prof_tables.specs.Paths.{path, PrefixesBelow}
use Rattle.prof_tables.specs.Ties.{IsStackRow}
use Rattle.prof_path.specs.declared.lists.Span.{Span}
use Rattle.prof_path.specs.declared.transform.Transform.{Transform}
use Rattle.prof_path.specs.Rewriting.{rewrite}

-- no row, where the path is empty, and else a row with exactly that path
abbrev pub IsRowOf : List StackRow → Option ℕ → List Step → Type 0
IsRowOf rows entry x = MatchOption entry (x ≡ []) (λ q. (q < length rows) × (path rows (Some q) ≡ x))

-- where the path of a row went
abbrev pub entry_at : List (Option ℕ) → ℕ → Option ℕ
entry_at entries r = slice_index_or entries r None

-- rows whose functions and categories are the thread's, each with a prefix that is a smaller row
pub record AreRows (t : SharedTables) (rows : List StackRow) : Type 0 where
  pub prefixes : PrefixesBelow rows
  pub steps : All (IsStackRow (length t.funcs + length t.resources) t.categories) rows

-- the rows that a transform makes of rows, and where the path of each of these went
pub record IsRewritten (t : SharedTables) (transform : Transform) (top rows : List StackRow) (outs : List (Option ℕ)) : Type 0 where
  pub fit : AreRows t rows
  pub few : length rows ≤ length top
  pub count : length outs ≡ length top
  pub paths : (i : ℕ) → i < length top → (spans : List Span) (m : ℤ) → IsRowOf rows (entry_at outs i) (rewrite t transform spans (path top (Some i)) m)
