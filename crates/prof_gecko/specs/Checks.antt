-- The checks of a Gecko thread, in the written order.
use Rattle.std.specs.Prelude.{ℕ, ℤ, List, [], ◌∷◌, if◌then◌else◌, Option, None, Some, length}
use Rattle.std.specs.Option.{option_map}
use Rattle.prof_raw.specs.declared.column.CellKind.TheVariants as kind
use Rattle.prof_raw.specs.declared.column.Size.TheVariants.{AtMost}
use Rattle.prof_raw.specs.declared.limits.TheConstants.{MOST_FUNCS, MOST_ROWS, MOST_STRINGS}
use Rattle.prof_raw.specs.declared.rule.Table.{Table}
use Rattle.prof_raw.specs.declared.rule.Table.TheVariants as table
use Rattle.prof_raw.specs.declared.rule.Column.{Column}
use Rattle.prof_raw.specs.declared.rule.Column.TheVariants as column
use Rattle.prof_raw.specs.declared.rule.Broken.{Broken}
use Rattle.prof_raw.specs.Rules.{whole_fault, size_rule, counted_fault}
use Rattle.prof_raw.specs.Checks.{first_of, named, first_column, needed_column, optional_column, samples_broken, markers_broken}
use Rattle.prof_gecko.specs.declared.gathered.TableFault.{TableFault}
use Rattle.prof_gecko.specs.Gathered.{Lib, GeckoCells}
use Rattle.prof_gecko_names.specs.Lists.{Lists}
use Rattle.prof_gecko.specs.Columns.{FrameCells, StackCells, ThreadParts, parts_of}
use Rattle.prof_gecko.specs.Converted.{lists_in}

-- what a table, its schema and its data break
abbrev pub table_broken : Option ℕ → Table → Option TableFault → Option Broken
table_broken thread t None = None
table_broken thread t (Some f) = named thread t f.column (Some f.fault)

-- the checks of `frameTable` over so many strings and categories
abbrev pub frames_checks : Option ℕ → ℕ → ℕ → FrameCells → List (Option Broken)
frames_checks thread strings categories f =
    let rows = length f.location.cells in
    (table_broken thread table.FrameTable f.fault
    ∷ first_column thread table.FrameTable column.Location MOST_ROWS (kind.Index strings) f.location
    ∷ optional_column thread table.FrameTable column.RelevantForJs rows kind.Truth f.relevant_for_js
    ∷ optional_column thread table.FrameTable column.Category rows (kind.MaybeIndex categories) f.category
    ∷ [])

unfoldable pub frames_broken : Option ℕ → ℕ → ℕ → FrameCells → Option Broken
frames_broken thread strings categories f = first_of (frames_checks thread strings categories f)

-- the checks of `stackTable` over so many frames
abbrev pub stacks_checks : Option ℕ → ℕ → StackCells → List (Option Broken)
stacks_checks thread frames s =
    let rows = length s.frame.cells in
    (table_broken thread table.StackTable s.fault
    ∷ first_column thread table.StackTable column.Frame MOST_ROWS (kind.Index frames) s.frame
    ∷ needed_column thread table.StackTable column.Prefix rows kind.Prefix s.prefix
    ∷ [])

unfoldable pub stacks_broken : Option ℕ → ℕ → StackCells → Option Broken
stacks_broken thread frames s = first_of (stacks_checks thread frames s)

-- the checks of a thread's own columns; the names of markers are places in the strings as they stood
abbrev pub columns_checks : Option ℕ → ℕ → ThreadParts → List (Option Broken)
columns_checks thread categories p =
    (named thread table.StringTable column.List
    (counted_fault MOST_STRINGS (length p.strings) p.string_fault)
    ∷ frames_broken thread (length p.strings) categories p.frames
    ∷ stacks_broken thread (length p.frames.location.cells) p.stacks
    ∷ table_broken thread table.Samples p.samples_fault
    ∷ samples_broken thread (length p.stacks.frame.cells) p.own
    ∷ (if p.own.has_markers then table_broken thread table.Markers p.markers_fault else None)
    ∷ markers_broken thread (length p.strings) p.own
    ∷ [])

unfoldable pub columns_broken : Option ℕ → ℕ → ThreadParts → Option Broken
columns_broken thread categories p = first_of (columns_checks thread categories p)

-- a derived list that is over its limit
abbrev pub over : Option ℕ → Table → Column → ℕ → ℕ → Option Broken
over thread t c most count = named thread t c (option_map whole_fault (size_rule (AtMost most) count))

-- the derived strings, resources and functions
abbrev pub limits_checks : Option ℕ → Lists → List (Option Broken)
limits_checks thread d =
    (over thread table.StringTable column.List MOST_STRINGS (length d.strings)
    ∷ over thread table.ResourceTable column.Name MOST_FUNCS (length d.resources)
    ∷ over thread table.FuncTable column.Name MOST_FUNCS (length d.funcs)
    ∷ [])

unfoldable pub limits_broken : Option ℕ → Lists → Option Broken
limits_broken thread d = first_of (limits_checks thread d)

-- what the columns of a thread break, and then its derived lists
unfoldable pub parts_broken : ℕ → ℕ → List Lib → ThreadParts → Option Broken
parts_broken number categories libs p =
    let thread = Some number in
    first_of
    (columns_broken thread categories p
    ∷ limits_broken thread (lists_in libs p.strings p.frames)
    ∷ [])

-- what a thread breaks of a process with these libraries, whose times are moved by a shift
abbrev pub gecko_thread_broken : ℕ → ℕ → List Lib → ℤ → GeckoCells → Option Broken
gecko_thread_broken number categories libs shift g = parts_broken number categories libs (parts_of shift g)
