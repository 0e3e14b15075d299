-- What passed checks show of the frames' locations.
use Rattle.std.specs.Prelude.{◌≡◌, ℕ, ◌<◌, ◌≤◌, None, length}
use Rattle.prof_raw.specs.declared.column.CellKind.TheVariants as kind
use Rattle.prof_raw.specs.declared.limits.TheConstants.{MOST_ROWS}
use Rattle.prof_raw.specs.Cells.{cell}
use Rattle.prof_raw.specs.Rules.{cell_rule}
use Rattle.prof_gecko.specs.Columns.{FrameCells}

-- each frame has the place of its location, over so many strings
pub record FitLocations (strings : ℕ) (frames : FrameCells) : Type 0 where
  pub few : length frames.location.cells ≤ MOST_ROWS
  pub place : (j : ℕ) → j < length frames.location.cells →
      cell_rule (kind.Index strings) 0 (cell frames.location j) ≡ None
