-- How a frame gives a stack row its step.
use Rattle.std.specs.Prelude.{◌≡◌, ℕ, List, Option, Some, slice_get, unwrap_or}
use Rattle.std.specs.Option.{option_or, option_map, option_and_then}
use Rattle.prof_tables.specs.declared.rows.FrameRow.{FrameRow}
use Rattle.prof_tables.specs.declared.rows.StackRow.{StackRow}
use Rattle.prof_tables.specs.Threads.{SharedTables}

-- the category of the row before, where there is one
abbrev pub category_before : List StackRow → Option ℕ → Option ℕ
category_before rows prefix =
    option_map (λ (row : StackRow). row.category) (option_and_then (slice_get rows) prefix)

-- a stack row of a frame: its category is the frame's where that is there, else its prefix's, else the default
abbrev pub stack_after : ℕ → List StackRow → Option ℕ → FrameRow → StackRow
stack_after default rows prefix frame = record {
  prefix = prefix;
  func = frame.func;
  category = unwrap_or (option_or frame.category (category_before rows prefix)) default;
}

-- frame j gives row i its function and its category
abbrev pub IsFrameOf : SharedTables → ℕ → ℕ → Type 0
IsFrameOf t i j = (row : StackRow) × ((frame : FrameRow) × (
    (slice_get t.stacks i ≡ Some row)
    × (slice_get t.frames j ≡ Some frame)
    × (row ≡ stack_after t.default t.stacks row.prefix frame)))
