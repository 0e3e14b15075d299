-- Columns and lists of texts while their items are gathered.
use Rattle.std.specs.Prelude.{◌≡◌, ℕ, suc, List, [], Bool, if◌then◌else◌, None, map, take, string_bytes}
use Rattle.prof_grammar.specs.Value.{Value}
use Rattle.prof_layout.specs.Columns.{Cell, read_cell, gathered, capped}
use Rattle.prof_layout.specs.Lists.{text_of, is_text, first_unfit}
use Rattle.prof_layout.specs.declared.reading.Reading.{Reading}
use Rattle.prof_raw.specs.declared.raw.State.{State}
use Rattle.prof_raw.specs.declared.raw.State.TheVariants.{Absent, NotArray, Array}
use Rattle.prof_raw.specs.declared.limits.TheConstants.{MOST_STRINGS}
use Rattle.prof_raw.specs.Cells.{Cells}
use Rattle.prof_gather.specs.declared.objects.Kind.{Kind}
use Rattle.prof_gather.specs.declared.objects.Kind.TheVariants as kind
use Rattle.prof_column.specs.declared.columns.Gathered.{Gathered}
use Rattle.prof_column.specs.declared.list.TextList.{TextList}

-- what is kept of the column of these values, whose cells are read so
abbrev pub kept_by : (Value → Cell) → ℕ → List Value → Cells
kept_by read most vs = capped most (gathered (map read vs))

abbrev pub kept_cells : ℕ → Reading → List Value → Cells
kept_cells most r vs = kept_by (read_cell r) most vs

-- the state of what should be an array
abbrev pub state_for : Bool → Kind → State
state_for needed kind.Array = Array
state_for needed kind.Null = if needed then NotArray else Absent
state_for needed kind.Other = NotArray

-- the column so far, of a column that was empty at first
pub record IsGatheredOf (first : Gathered) (vs : List Value) (g : Gathered) : Type 0 where
  pub reading : g.reading ≡ first.reading
  pub most : g.most ≡ first.most
  pub column : first.column ≡ kept_cells first.most first.reading [] → g.column ≡ kept_cells first.most first.reading vs

-- nothing stands in a list of texts at first
abbrev pub NoTexts : TextList → Type 0
NoTexts l = (l.texts.items ≡ []) × (l.bad ≡ None)

pub record IsTextListOf (first : TextList) (vs : List Value) (l : TextList) : Type 0 where
  pub texts : NoTexts first → map string_bytes l.texts.items ≡ take (suc MOST_STRINGS) (map text_of vs)
  pub bad : NoTexts first → l.bad ≡ first_unfit is_text (take (suc MOST_STRINGS) vs)
