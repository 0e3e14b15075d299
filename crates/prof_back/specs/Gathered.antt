-- What is gathered of written cells and columns.
use Rattle.std.specs.Prelude.{ℤ, List, Option, None, Ok}
use Rattle.prof_raw.specs.declared.raw.State.TheVariants.{Array}
use Rattle.prof_raw.specs.Cells.{Cells}
use Rattle.prof_layout.specs.Columns.{Cell}

-- a cell that breaks no rule by itself
abbrev pub passed : Option ℤ → Cell
passed value = Ok value

-- an array of such cells
abbrev pub column_with : List (Option ℤ) → Cells
column_with cells = record { state = Array; cells = cells; bad = None }
