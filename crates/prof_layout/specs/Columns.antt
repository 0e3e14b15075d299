-- The columns of a table, as its JSON value has them.
use Rattle.std.specs.Prelude.{◌≡◌, ◌≢◌, ℕ, suc, ◌^◌, ◌-◌, ◌<◌, ℤ, pos, negsuc, unsigned_abs, List, [], ◌∷◌, Bool, if◌then◌else◌, Option, None, Some, IfSome, Result, Ok, Err, nat_le, length, map, take, min}
use Rattle.prof_grammar.specs.Value.{Value, items}
use Rattle.prof_raw.specs.declared.rule.Rule.{Rule}
use Rattle.prof_raw.specs.declared.rule.Rule.TheVariants as rule
use Rattle.prof_raw.specs.declared.rule.BadCell.{BadCell}
use Rattle.prof_raw.specs.declared.raw.State.TheVariants.{Absent, NotArray, Array}
use Rattle.prof_raw.specs.Cells.{Cells}
use Rattle.prof_raw.specs.declared.limits.TheConstants.{GREATEST}
use Rattle.prof_layout.specs.Numbers.{scaled_of, whole_of}
use Rattle.prof_layout.specs.declared.reading.Reading.{Reading}
use Rattle.prof_layout.specs.declared.reading.Reading.TheVariants as reading

-- a cell's number or null, or the rule that it breaks whatever the other cells are
abbrev pub Cell : Type 0
Cell = Result (Option ℤ) Rule

-- The number that stands for a whole number in a column: the nearest of 64 bits. As an index, a prefix and a phase it
-- breaks what the number itself breaks, since no list is longer than such a number.
abbrev pub clamped : ℤ → ℤ
clamped (pos n) = pos (min n (2 ^ 63 - 1))
clamped (negsuc n) = negsuc (min n (2 ^ 63 - 1))

-- a number where a whole one is wanted, and the rule that any other breaks
abbrev pub whole_cell : Rule → Option ℤ → Cell
whole_cell broken None = Err broken
whole_cell broken (Some n) = Ok (Some (clamped n))

-- a time or a weight is in the range, or breaks the rule of the range
abbrev pub scaled_cell : ℤ → Cell
scaled_cell n = if nat_le (unsigned_abs n) GREATEST then Ok (Some n) else Err rule.NumberRange

-- Times have six decimals of a millisecond, and counts none. A value of another kind than the column allows is of the
-- wrong kind.
abbrev pub read_cell : Reading → Value → Cell
read_cell reading.Index (Value.number text) = whole_cell rule.IndexOut (whole_of text)
read_cell reading.MaybeIndex (Value.number text) = whole_cell rule.IndexOut (whole_of text)
read_cell reading.MaybeIndex Value.null = Ok None
read_cell reading.Truth (Value.boolean truth) = Ok (Some (if truth then pos 1 else pos 0))
read_cell reading.Truth Value.null = Ok None
read_cell reading.Phase (Value.number text) = whole_cell rule.Phase (whole_of text)
read_cell reading.Count (Value.number text) = scaled_cell (scaled_of text 0)
read_cell reading.Time (Value.number text) = scaled_cell (scaled_of text 6)
read_cell reading.MaybeTime (Value.number text) = scaled_cell (scaled_of text 6)
read_cell reading.MaybeTime Value.null = Ok None
read_cell _ _ = Err rule.WrongKind

-- any value is allowed, and none is kept
abbrev pub any_cell : Value → Cell
any_cell v = Ok None

abbrev pub cell_value : Cell → Option ℤ
cell_value (Ok value) = value
cell_value (Err broken) = None

-- the first cell that breaks a rule, of cells whose first stands at a row
abbrev pub first_bad : ℕ → List Cell → Option BadCell
first_bad row [] = None
first_bad row (Ok value ∷ cells) = first_bad (suc row) cells
first_bad row (Err broken ∷ cells) = Some (record { row = row; rule = broken })

-- the column of an array's cells
abbrev pub gathered : List Cell → Cells
gathered cells = record { state = Array; cells = map cell_value cells; bad = first_bad 0 cells }

abbrev pub absent : Cells
absent = record { state = Absent; cells = []; bad = None }

abbrev pub not_array : Cells
not_array = record { state = NotArray; cells = []; bad = None }

-- The column of a member, which may be needed. An optional one that is null counts as absent.
abbrev pub column_of : (Value → Cell) → Bool → Option Value → Cells
column_of read needed None = absent
column_of read needed (Some (Value.array vs)) = gathered (map read (items vs))
column_of read needed (Some Value.null) = if needed then not_array else absent
column_of read needed (Some _) = not_array

abbrev pub raw_column : Reading → Bool → Option Value → Cells
raw_column r needed member = column_of (read_cell r) needed member

-- The rest of a column that is over its limit plays no part: one cell more than the most shows that it is.
abbrev pub kept_bad : ℕ → Option BadCell → Option BadCell
kept_bad most None = None
kept_bad most (Some bad) = if nat_le bad.row most then Some bad else None

abbrev pub capped : ℕ → Cells → Cells
capped most c = record { state = c.state; cells = take (suc most) c.cells; bad = kept_bad most c.bad }

-- what each column of a value keeps: the bad cell stands in it, and only an array has cells
pub record IsGathered (c : Cells) : Type 0 where
  pub bad : IfSome c.bad (λ bad. bad.row < length c.cells)
  pub only : c.state ≢ Array → length c.cells ≡ 0
