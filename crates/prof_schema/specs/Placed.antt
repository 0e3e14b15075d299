-- The columns of a table that stands row by row: each column has a place in the rows.
use Rattle.std.specs.Prelude.{ℕ, pos, List, [], Bool, true, false, if◌then◌else◌, Option, None, Some, Ok, map, codes, unwrap_or, slice_get}
use Rattle.prof_grammar.specs.Value.{Value, items}
use Rattle.prof_raw.specs.Cells.{Cells}
use Rattle.prof_layout.specs.declared.reading.Reading.TheVariants as reading
use Rattle.prof_layout.specs.Columns.{Cell, read_cell, any_cell, gathered, absent}
use Rattle.prof_layout.specs.Lists.{items_of}
use Rattle.prof_layout.specs.Tables.{member_of}
use Rattle.prof_schema.specs.Places.{place_of}
use Rattle.prof_schema.specs.declared.reading.PlacedReading.{PlacedReading}
use Rattle.prof_schema.specs.declared.reading.PlacedReading.TheVariants as placed

-- an array, as each row is
abbrev pub is_array : Value → Bool
is_array (Value.array vs) = true
is_array _ = false

-- the cell of a row at a place: what is missing is null
abbrev pub cell_of : ℕ → Value → Value
cell_of place (Value.array vs) = unwrap_or (slice_get (items vs) place) Value.null
cell_of place _ = Value.null

-- the column of a place, which is absent where the schema has no place for it
abbrev pub placed_cells : (Value → Cell) → Option ℕ → List Value → Cells
placed_cells read None rows = absent
placed_cells read (Some place) rows = gathered (map (λ row. read (cell_of place row)) rows)

-- the rows of a table
abbrev pub rows_in : Option Value → List Value
rows_in table = items_of (member_of table (codes "data"))

-- a column of a table by its name
abbrev pub named_cells : (Value → Cell) → Option Value → List ℕ → Cells
named_cells read table name = placed_cells read (place_of name (member_of table (codes "schema"))) (rows_in table)

-- the cells of the rows at the place of the details of markers
abbrev pub details_at : Option ℕ → List Value → List Value
details_at None rows = []
details_at (Some place) rows = map (cell_of place) rows

-- `true` is true, and all else is false
abbrev pub is_true : Value → Bool
is_true (Value.boolean b) = b
is_true _ = false

abbrev pub true_cell : Value → Cell
true_cell v = Ok (Some (if is_true v then pos 1 else pos 0))

-- the cells of a column by how they are read
abbrev pub read_placed : PlacedReading → Value → Cell
read_placed placed.Index v = read_cell reading.Index v
read_placed placed.MaybeIndex v = read_cell reading.MaybeIndex v
read_placed placed.Phase v = read_cell reading.Phase v
read_placed placed.Time v = read_cell reading.Time v
read_placed placed.MaybeTime v = read_cell reading.MaybeTime v
read_placed placed.True v = true_cell v
read_placed placed.Any v = any_cell v
