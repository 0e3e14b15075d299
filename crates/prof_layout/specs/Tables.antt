-- The tables of a thread, as its JSON value has them.
use Rattle.std.specs.Prelude.{ℕ, ◌^◌, ℤ, unsigned_abs, List, Bool, true, false, not, ◌&&◌, if◌then◌else◌, Option, None, Some, nat_lt, codes, is_some}
use Rattle.std.specs.Option.{option_and_then}
use Rattle.prof_grammar.specs.Value.{Value, field, last_named, same_text}
use Rattle.prof_raw.specs.declared.rule.ListFault.{ListFault}
use Rattle.prof_raw.specs.declared.raw.TableLength.{TableLength}
use Rattle.prof_raw.specs.declared.raw.TableLength.TheVariants.{Unsaid, Whole, Other}
use Rattle.prof_raw.specs.declared.raw.Unit.{Unit as WeightUnit}
use Rattle.prof_raw.specs.declared.raw.Unit.TheVariants as unit
use Rattle.prof_raw.specs.declared.limits.TheConstants.{MOST_STRINGS}
use Rattle.prof_raw.specs.Cells.{Cells, SharedCells, OwnCells, ThreadCells}
use Rattle.prof_layout.specs.declared.reading.Reading.{Reading}
use Rattle.prof_layout.specs.declared.reading.Reading.TheVariants as reading
use Rattle.prof_layout.specs.Numbers.{whole_of}
use Rattle.prof_layout.specs.Columns.{raw_column, column_of, any_cell, absent, not_array}
use Rattle.prof_layout.specs.Lists.{unless_null, items_of, texts_of, member_text, is_text, needed_list_fault}
use Rattle.prof_layout.specs.Markers.{all_texts, ranges_from}

-- a member of a table; one that is absent or no object has none
abbrev pub member_of : Option Value → List ℕ → Option Value
member_of table name = option_and_then (field name) table

-- The first column of a needed table: where the table is no object, the column isn't an array.
abbrev pub first_cells : Reading → Option Value → List ℕ → Cells
first_cells r None name = absent
first_cells r (Some (Value.object ms)) name = raw_column r true (last_named name ms)
first_cells r (Some _) name = not_array

abbrev pub needed_cells : Reading → Option Value → List ℕ → Cells
needed_cells r table name = raw_column r true (member_of table name)

abbrev pub optional_cells : Reading → Option Value → List ℕ → Cells
optional_cells r table name = raw_column r false (member_of table name)

-- a number that isn't whole, or of a size of 2^64 or more, is no table's number of rows
abbrev pub whole_length : Option ℤ → TableLength
whole_length None = Other
whole_length (Some n) = if nat_lt (unsigned_abs n) (2 ^ 64) then Whole n else Other

-- a length of another kind than number is ignored
abbrev pub said_by : Option Value → TableLength
said_by (Some (Value.number text)) = whole_length (whole_of text)
said_by _ = Unsaid

abbrev pub said_length : Option Value → TableLength
said_length table = said_by (member_of table (codes "length"))

-- what a list of strings breaks
abbrev pub strings_fault : Option Value → Option ListFault
strings_fault member = needed_list_fault is_text MOST_STRINGS member

-- the tables that threads may share, of the object that has them, with these strings
abbrev pub shared_over : List (List ℕ) → Option ListFault → Value → SharedCells
shared_over strings fault v =
    let resources = unless_null (field (codes "resourceTable") v) in
    let funcs = field (codes "funcTable") v in
    let frames = field (codes "frameTable") v in
    let stacks = field (codes "stackTable") v in
    record {
      strings = strings;
      string_fault = fault;
      has_resources = is_some resources;
      resource_name = first_cells reading.Index resources (codes "name");
      resource_length = said_length resources;
      func_name = first_cells reading.Index funcs (codes "name");
      func_is_js = optional_cells reading.Truth funcs (codes "isJS");
      func_relevant_for_js = optional_cells reading.Truth funcs (codes "relevantForJS");
      func_resource = optional_cells reading.Index funcs (codes "resource");
      func_file_name = optional_cells reading.MaybeIndex funcs (codes "fileName");
      func_length = said_length funcs;
      frame_func = first_cells reading.Index frames (codes "func");
      frame_category = optional_cells reading.MaybeIndex frames (codes "category");
      frame_length = said_length frames;
      stack_frame = first_cells reading.Index stacks (codes "frame");
      stack_prefix = needed_cells reading.MaybeIndex stacks (codes "prefix");
      stack_length = said_length stacks;
    }

unfoldable pub raw_shared : Value → SharedCells
raw_shared v = let strings = field (codes "stringArray") v in shared_over (texts_of strings) (strings_fault strings) v

-- A thread's own strings count where they are there, else those that all threads share.
abbrev pub over_strings : Option (List (List ℕ)) → Option Value → Value → SharedCells
over_strings (Some strings) None v = shared_over strings None v
over_strings common own v = shared_over (texts_of own) (strings_fault own) v

-- the tables of a thread that has them all but for the strings, which may be those that all threads share
unfoldable pub raw_tables : Option (List (List ℕ)) → Value → SharedCells
raw_tables common v = over_strings common (field (codes "stringArray") v) v

-- the unit of a weight type; another text is none
abbrev pub unit_named : List ℕ → Option WeightUnit
unit_named text =
    if same_text text (codes "samples") then Some unit.Samples
    else if same_text text (codes "tracing-ms") then Some unit.Ns
    else if same_text text (codes "bytes") then Some unit.Bytes
    else None

-- an absent weight type is that of samples
abbrev pub weight_unit : Option Value → Option WeightUnit
weight_unit None = Some unit.Samples
weight_unit (Some Value.null) = Some unit.Samples
weight_unit (Some (Value.string text)) = unit_named text
weight_unit (Some _) = None

-- weights in nanoseconds are times, and the others counts
abbrev pub weight_reading : Option WeightUnit → Reading
weight_reading (Some unit.Ns) = reading.Time
weight_reading _ = reading.Count

-- the deltas count where they are there and the times aren't
abbrev pub has_deltas : Option Value → Bool
has_deltas table = not (is_some (unless_null (member_of table (codes "time")))) && is_some (unless_null (member_of table (codes "timeDeltas")))

abbrev pub time_cells : Option Value → Cells
time_cells table = optional_cells reading.Time table (if has_deltas table then codes "timeDeltas" else codes "time")

-- a table of markers without phases is none
abbrev pub has_markers : Option Value → Bool
has_markers table = is_some (member_of table (codes "phase"))

-- a thread's own tables; its name is empty where it is no string
unfoldable pub raw_own : Value → OwnCells
raw_own v =
    let samples = field (codes "samples") v in
    let unit = weight_unit (member_of samples (codes "weightType")) in
    let markers = field (codes "markers") v in
    let details = member_of markers (codes "data") in
    record {
      name = member_text (field (codes "name") v);
      sample_stack = first_cells reading.MaybeIndex samples (codes "stack");
      sample_time = time_cells samples;
      deltas = has_deltas samples;
      unit = unit;
      sample_weight = optional_cells (weight_reading unit) samples (codes "weight");
      sample_length = said_length samples;
      has_markers = has_markers markers;
      marker_phase = needed_cells reading.Phase markers (codes "phase");
      marker_name = needed_cells reading.Index markers (codes "name");
      marker_start = needed_cells reading.MaybeTime markers (codes "startTime");
      marker_end = needed_cells reading.MaybeTime markers (codes "endTime");
      marker_data = column_of any_cell false details;
      marker_length = said_length markers;
      marker_texts = all_texts (items_of details);
      marker_ranges = ranges_from 0 (items_of details);
    }

-- a thread that has all its tables
abbrev pub raw_thread : Option (List (List ℕ)) → Value → ThreadCells
raw_thread common v = record { shared = raw_tables common v; own = raw_own v }
