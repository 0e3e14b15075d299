-- What is kept of the rows of a table, whichever of their cells its schema asks for in the end.
use Rattle.std.specs.Prelude.{◌≡◌, ℕ, ◌+◌, ℤ, unsigned_abs, List, [], ◌∷◌, Bool, false, if◌then◌else◌, Option, None, Some, nat_le, length, take}
use Rattle.std.specs.List.{flat_map}
use Rattle.prof_grammar.specs.Value.{Value, items}
use Rattle.prof_raw.specs.declared.limits.TheConstants.{GREATEST}
use Rattle.prof_layout.specs.Columns.{clamped}
use Rattle.prof_layout.specs.Markers.{data_texts}
use Rattle.prof_layout.specs.Numbers.{scaled_of, whole_of}
use Rattle.prof_schema.specs.declared.cells.RowCell.{RowCell}
use Rattle.prof_schema.specs.declared.cells.RowCell.TheVariants as cell

-- a number, which may be read as a whole one and as a time
abbrev pub number_kept : Option ℤ → ℤ → RowCell
number_kept (Some n) scaled = cell.Whole (clamped n)
number_kept None scaled = if nat_le (unsigned_abs scaled) GREATEST then cell.Scaled scaled else cell.Far

-- what is kept of a cell; of an object the range of its texts, of which the first stands at a place
abbrev pub cell_kept : ℕ → Value → RowCell
cell_kept start Value.null = cell.Null
cell_kept start (Value.boolean b) = if b then cell.True else cell.Other
cell_kept start (Value.number text) = number_kept (whole_of text) (scaled_of text 6)
cell_kept start (Value.string text) = cell.Other
cell_kept start (Value.array vs) = cell.Other
cell_kept start (Value.object ms) = cell.Texts start (start + length (data_texts (Value.object ms)))

-- what is kept of cells, whose first text stands at a place
abbrev pub cells_kept : ℕ → List Value → List RowCell
cells_kept start [] = []
cells_kept start (v ∷ vs) = cell_kept start v ∷ cells_kept (start + length (data_texts v)) vs

-- the cells of a row that a place may name
abbrev pub row_cells : Value → List Value
row_cells (Value.array vs) = take 256 (items vs)
row_cells _ = []

-- the cells of all rows, row by row
abbrev pub all_cells : List Value → List Value
all_cells rows = flat_map row_cells rows

-- where the cells of each row end among them, of rows whose first cell stands at a place
abbrev pub ends_from : ℕ → List Value → List ℕ
ends_from start [] = []
ends_from start (row ∷ rows) = (start + length (row_cells row)) ∷ ends_from (start + length (row_cells row)) rows

-- neither null nor a number: `true`, or false, a string, an array or an object
abbrev pub IsPlain : Bool → Value → Type 0
IsPlain truth (Value.boolean b) = b ≡ truth
IsPlain truth (Value.string text) = truth ≡ false
IsPlain truth (Value.array vs) = truth ≡ false
IsPlain truth (Value.object ms) = truth ≡ false
IsPlain truth Value.null = ⊥
IsPlain truth (Value.number text) = ⊥
