-- The checks of the tables, in the written order.
use Rattle.std.specs.Prelude.{◌≡◌, ℕ, pos, negsuc, List, [], ◌∷◌, true, false, if◌then◌else◌, Option, None, Some, Result, Ok, Err, nat_eq, length}
use Rattle.std.specs.Option.{option_or, option_map}
use Rattle.prof_raw.specs.declared.column.CellKind.{CellKind}
use Rattle.prof_raw.specs.declared.column.CellKind.TheVariants as kind
use Rattle.prof_raw.specs.declared.column.Size.TheVariants.{AtMost, Same}
use Rattle.prof_raw.specs.declared.moment.Moment.TheVariants.{Start, End}
use Rattle.prof_raw.specs.declared.raw.TableLength.{TableLength}
use Rattle.prof_raw.specs.declared.raw.TableLength.TheVariants.{Unsaid, Whole, Other}
use Rattle.prof_raw.specs.declared.raw.Unit.{Unit as WeightUnit}
use Rattle.prof_raw.specs.declared.rule.Rule.TheVariants as rule
use Rattle.prof_raw.specs.declared.rule.Table.{Table}
use Rattle.prof_raw.specs.declared.rule.Table.TheVariants as table
use Rattle.prof_raw.specs.declared.rule.Column.{Column}
use Rattle.prof_raw.specs.declared.rule.Column.TheVariants as column
use Rattle.prof_raw.specs.declared.rule.ListFault.{ListFault}
use Rattle.prof_raw.specs.declared.rule.Broken.{Broken}
use Rattle.prof_raw.specs.declared.limits.TheConstants.{MOST_FUNCS, MOST_ROWS, MOST_SAMPLES, MOST_STRINGS}
use Rattle.prof_raw.specs.Cells.{Cells, SharedCells, OwnCells, ThreadCells}
use Rattle.prof_raw.specs.Rules.{column_fault, counted_fault, whole_fault}
use Rattle.prof_raw.specs.Moments.{time_fault, time_name, moment_fault}

-- a check passes where it names no rule, and fails with the rule that it names
abbrev pub Passes : {A : Type 0} → Result A Broken → Option Broken → Type 0
Passes (Ok _) check = check ≡ None
Passes (Err b) check = check ≡ Some b

-- the first check that fails
abbrev pub first_of : List (Option Broken) → Option Broken
first_of [] = None
first_of (check ∷ checks) = option_or check (first_of checks)

-- a fault, with its place
abbrev pub named : Option ℕ → Table → Column → Option ListFault → Option Broken
named thread t c fault =
    option_map (λ f. record { rule = f.rule; thread = thread; table = t; column = c; row = f.row }) fault

-- the first column of a table, of at most so many rows; it is needed
abbrev pub first_column : Option ℕ → Table → Column → ℕ → CellKind → Cells → Option Broken
first_column thread t c most kind cells = named thread t c (column_fault true (AtMost most) kind cells)

-- another column, of as many rows as the first
abbrev pub needed_column : Option ℕ → Table → Column → ℕ → CellKind → Cells → Option Broken
needed_column thread t c rows kind cells = named thread t c (column_fault true (Same rows) kind cells)

-- the same, of a column that may be absent
abbrev pub optional_column : Option ℕ → Table → Column → ℕ → CellKind → Cells → Option Broken
optional_column thread t c rows kind cells = named thread t c (column_fault false (Same rows) kind cells)

-- a `length` that is a number other than the number of rows
abbrev pub length_fault : ℕ → TableLength → Option ListFault
length_fault rows Unsaid = None
length_fault rows (Whole (pos n)) = if nat_eq n rows then None else Some (whole_fault rule.LengthDiffers)
length_fault rows (Whole (negsuc n)) = Some (whole_fault rule.LengthDiffers)
length_fault rows Other = Some (whole_fault rule.LengthDiffers)

-- the member `length` of a table of so many rows
abbrev pub table_length : Option ℕ → Table → ℕ → TableLength → Option Broken
table_length thread t rows said = named thread t column.Length (length_fault rows said)

-- what the list of strings breaks
unfoldable pub strings_broken : Option ℕ → SharedCells → Option Broken
strings_broken thread raw =
    named thread table.StringArray column.List
    (counted_fault MOST_STRINGS (length raw.strings) raw.string_fault)

-- the number of resources
abbrev pub resource_count : SharedCells → ℕ
resource_count raw = if raw.has_resources then length raw.resource_name.cells else 0

-- the checks of `resourceTable`, in their order
abbrev pub resources_checks : Option ℕ → SharedCells → List (Option Broken)
resources_checks thread raw =
    let rows = length raw.resource_name.cells in
    (first_column thread table.ResourceTable column.Name MOST_FUNCS (kind.Index (length raw.strings)) raw.resource_name
    ∷ table_length thread table.ResourceTable rows raw.resource_length
    ∷ [])

-- what `resourceTable` breaks, where it is there
unfoldable pub resources_broken : Option ℕ → SharedCells → Option Broken
resources_broken thread raw = if raw.has_resources then first_of (resources_checks thread raw) else None

-- the checks of `funcTable`, in their order
abbrev pub funcs_checks : Option ℕ → SharedCells → List (Option Broken)
funcs_checks thread raw =
    let strings = length raw.strings in
    let rows = length raw.func_name.cells in
    (first_column thread table.FuncTable column.Name MOST_FUNCS (kind.Index strings) raw.func_name
    ∷ optional_column thread table.FuncTable column.IsJs rows kind.Truth raw.func_is_js
    ∷ optional_column thread table.FuncTable column.RelevantForJs rows kind.Truth raw.func_relevant_for_js
    ∷ optional_column thread table.FuncTable column.Resource rows (kind.MinusOrIndex (resource_count raw)) raw.func_resource
    ∷ optional_column thread table.FuncTable column.FileName rows (kind.MaybeIndex strings) raw.func_file_name
    ∷ table_length thread table.FuncTable rows raw.func_length
    ∷ [])

-- what `funcTable` breaks
unfoldable pub funcs_broken : Option ℕ → SharedCells → Option Broken
funcs_broken thread raw = first_of (funcs_checks thread raw)

-- the checks of `frameTable`, in their order
abbrev pub frames_checks : Option ℕ → ℕ → SharedCells → List (Option Broken)
frames_checks thread categories raw =
    let funcs = length raw.func_name.cells in
    let rows = length raw.frame_func.cells in
    (first_column thread table.FrameTable column.Func MOST_ROWS (kind.Index funcs) raw.frame_func
    ∷ optional_column thread table.FrameTable column.Category rows (kind.MaybeIndex categories) raw.frame_category
    ∷ table_length thread table.FrameTable rows raw.frame_length
    ∷ [])

-- what `frameTable` breaks
unfoldable pub frames_broken : Option ℕ → ℕ → SharedCells → Option Broken
frames_broken thread categories raw = first_of (frames_checks thread categories raw)

-- the checks of `stackTable`, in their order
abbrev pub stacks_checks : Option ℕ → SharedCells → List (Option Broken)
stacks_checks thread raw =
    let frames = length raw.frame_func.cells in
    let rows = length raw.stack_frame.cells in
    (first_column thread table.StackTable column.Frame MOST_ROWS (kind.Index frames) raw.stack_frame
    ∷ needed_column thread table.StackTable column.Prefix rows kind.Prefix raw.stack_prefix
    ∷ table_length thread table.StackTable rows raw.stack_length
    ∷ [])

-- what `stackTable` breaks
unfoldable pub stacks_broken : Option ℕ → SharedCells → Option Broken
stacks_broken thread raw = first_of (stacks_checks thread raw)

-- what the tables break that threads may share
abbrev pub shared_checks : Option ℕ → ℕ → SharedCells → List (Option Broken)
shared_checks thread categories raw =
    (strings_broken thread raw
    ∷ resources_broken thread raw
    ∷ funcs_broken thread raw
    ∷ frames_broken thread categories raw
    ∷ stacks_broken thread raw
    ∷ [])

-- the first check that these tables fail
unfoldable pub shared_broken : Option ℕ → ℕ → SharedCells → Option Broken
shared_broken thread categories raw = first_of (shared_checks thread categories raw)

-- a weight type that isn't known
abbrev pub unit_fault : Option WeightUnit → Option ListFault
unit_fault None = Some (whole_fault rule.WeightType)
unit_fault (Some unit) = None

-- the checks of `samples`, in their order
abbrev pub samples_checks : Option ℕ → ℕ → OwnCells → List (Option Broken)
samples_checks thread stacks raw =
    let rows = length raw.sample_stack.cells in
    (first_column thread table.Samples column.Stack MOST_SAMPLES (kind.MaybeIndex stacks) raw.sample_stack
    ∷ named thread table.Samples (time_name raw.sample_time.state raw.deltas) (time_fault raw.deltas rows raw.sample_time)
    ∷ named thread table.Samples column.WeightType (unit_fault raw.unit)
    ∷ optional_column thread table.Samples column.Weight rows kind.Number raw.sample_weight
    ∷ table_length thread table.Samples rows raw.sample_length
    ∷ [])

-- what the samples break, over that many stack rows
unfoldable pub samples_broken : Option ℕ → ℕ → OwnCells → Option Broken
samples_broken thread stacks raw = first_of (samples_checks thread stacks raw)

-- the checks of `markers`, in their order
abbrev pub markers_checks : Option ℕ → ℕ → OwnCells → List (Option Broken)
markers_checks thread strings raw =
    let rows = length raw.marker_phase.cells in
    (first_column thread table.Markers column.Phase MOST_ROWS kind.Phase raw.marker_phase
    ∷ needed_column thread table.Markers column.Name rows (kind.Index strings) raw.marker_name
    ∷ named thread table.Markers column.StartTime (moment_fault Start rows raw.marker_phase raw.marker_start)
    ∷ named thread table.Markers column.EndTime (moment_fault End rows raw.marker_phase raw.marker_end)
    ∷ optional_column thread table.Markers column.Data rows kind.Any raw.marker_data
    ∷ table_length thread table.Markers rows raw.marker_length
    ∷ [])

-- what the markers break, over that many strings
unfoldable pub markers_broken : Option ℕ → ℕ → OwnCells → Option Broken
markers_broken thread strings raw =
    if raw.has_markers then first_of (markers_checks thread strings raw) else None

-- what a thread's own tables break, over that many strings and stack rows
unfoldable pub own_broken : Option ℕ → ℕ → ℕ → OwnCells → Option Broken
own_broken thread strings stacks raw =
    first_of (samples_broken thread stacks raw ∷ markers_broken thread strings raw ∷ [])

-- what a thread breaks that has all its tables
abbrev pub thread_broken : ℕ → ℕ → ThreadCells → Option Broken
thread_broken number categories raw = option_or
    (shared_broken (Some number) categories raw.shared)
    (own_broken (Some number) (length raw.shared.strings) (length raw.shared.stack_frame.cells) raw.own)
