-- Samples by their columns.
use Rattle.std.specs.Prelude.{ℕ, ℤ, List, [], ◌∷◌, Option}
use Rattle.prof_tables.specs.declared.rows.SampleRow.{SampleRow}
use Rattle.prof_raw.specs.CellValues.{number_of}

-- row by row, as far as all three columns reach
abbrev pub rows_by : List (Option ℕ) → List (Option ℤ) → List (Option ℤ) → List SampleRow
rows_by [] times weights = []
rows_by (s ∷ stacks) [] weights = []
rows_by (s ∷ stacks) (t ∷ times) [] = []
rows_by (s ∷ stacks) (t ∷ times) (w ∷ weights) = record { stack = s; time = number_of t; weight = number_of w } ∷ rows_by stacks times weights
