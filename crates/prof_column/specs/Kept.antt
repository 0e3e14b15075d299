-- What is kept of a column and of a list of texts: at most one row more than its limit.
use Rattle.std.specs.Prelude.{◌≡◌, ℕ, suc, List, Bool, true, if◌then◌else◌, Option, None, Some, take, map, string_bytes}
use Rattle.prof_grammar.specs.Value.{Value}
use Rattle.prof_raw.specs.declared.raw.State.{State}
use Rattle.prof_raw.specs.declared.raw.State.TheVariants.{Absent, NotArray, Array}
use Rattle.prof_raw.specs.declared.limits.TheConstants.{MOST_STRINGS}
use Rattle.prof_raw.specs.Cells.{Cells}
use Rattle.prof_layout.specs.declared.reading.Reading.{Reading}
use Rattle.prof_layout.specs.Columns.{raw_column, capped}
use Rattle.prof_layout.specs.Lists.{items_of, texts_of, is_text, first_unfit}
use Rattle.prof_column.specs.declared.list.TextList.{TextList}

-- the text of a member that is a string
abbrev pub string_of : Option Value → Option (List ℕ)
string_of (Some (Value.string text)) = Some text
string_of _ = None

-- The state of a member that should be an array. One that isn't needed may be null.
abbrev pub state_by : Bool → Option Value → State
state_by needed None = Absent
state_by needed (Some (Value.array vs)) = Array
state_by needed (Some Value.null) = if needed then NotArray else Absent
state_by needed (Some _) = NotArray

-- what is kept of a member's column
abbrev pub kept_column : ℕ → Reading → Bool → Option Value → Cells
kept_column most r needed member = capped most (raw_column r needed member)

-- the items that are kept of a member's list
abbrev pub kept_items : ℕ → Option Value → List Value
kept_items most member = take (suc most) (items_of member)

pub record IsTextList (member : Option Value) (l : TextList) : Type 0 where
  pub state : l.state ≡ state_by true member
  pub texts : map string_bytes l.texts.items ≡ take (suc MOST_STRINGS) (texts_of member)
  pub bad : l.bad ≡ first_unfit is_text (kept_items MOST_STRINGS member)
