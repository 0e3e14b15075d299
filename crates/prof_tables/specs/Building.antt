-- Stack rows that are being added.
use Rattle.std.specs.Prelude.{ℕ, List}
use Rattle.prof_tables.specs.declared.rows.StackRow.{StackRow}

-- the rows so far, how many may stand, and below what their functions and categories are
pub record Building : Type 0 where
  pub rows : List StackRow
  pub room : ℕ
  pub funcs : ℕ
  pub categories : ℕ
