-- The tables of a Gecko thread, as its JSON value has them: `schema` gives the columns' places, and `data` has the rows.
use Rattle.std.specs.Prelude.{ℕ, List, [], ◌∷◌, Bool, true, false, if◌then◌else◌, Option, None, Some, codes, is_some}
use Rattle.std.specs.Option.{option_map, option_or}
use Rattle.prof_grammar.specs.Value.{Value, field, last_named}
use Rattle.prof_raw.specs.declared.rule.Rule.TheVariants as rule
use Rattle.prof_raw.specs.declared.rule.Column.{Column}
use Rattle.prof_raw.specs.declared.rule.Column.TheVariants as column
use Rattle.prof_raw.specs.declared.rule.ListFault.{ListFault}
use Rattle.prof_raw.specs.declared.limits.TheConstants.{MOST_STRINGS}
use Rattle.prof_raw.specs.Rules.{whole_fault}
use Rattle.prof_layout.specs.Lists.{is_object, items_of, first_unfit, wrong_kind, texts_of, is_text, member_text, needed_list_fault}
use Rattle.prof_layout.specs.Markers.{all_texts, ranges_from}
use Rattle.prof_layout.specs.Tables.{member_of}
use Rattle.prof_schema.specs.Places.{place_of, are_places}
use Rattle.prof_schema.specs.Placed.{is_array, rows_in, named_cells, details_at, read_placed}
use Rattle.prof_schema.specs.declared.reading.PlacedReading.TheVariants as placed
use Rattle.prof_gecko.specs.declared.gathered.TableFault.{TableFault}
use Rattle.prof_gecko.specs.Gathered.{TableCells, GeckoCells}

-- a fault at a column
abbrev pub at_column : Column → ListFault → TableFault
at_column c f = record { column = c; fault = f }

-- what a member breaks that has to be of a kind
abbrev pub kind_fault : (Value → Bool) → Option Value → Option ListFault
kind_fault fits None = Some (whole_fault rule.Missing)
kind_fault fits (Some v) = if fits v then None else Some (whole_fault rule.WrongKind)

-- the first needed column that the schema lacks
abbrev pub lacking : Option Value → List (Column × List ℕ) → Option TableFault
lacking schema [] = None
lacking schema (c ∷ cs) =
    if is_some (member_of schema c.1) then lacking schema cs
    else Some (at_column c.0 (whole_fault rule.Missing))

-- the first fault of several checks
abbrev pub first_fault : List (Option TableFault) → Option TableFault
first_fault [] = None
first_fault (check ∷ checks) = option_or check (first_fault checks)

-- what breaks of a table that is an object: its schema, its data, the places, the needed columns, and the rows
abbrev pub object_fault : List (Column × List ℕ) → Value → Option TableFault
object_fault needed v =
    let schema = field (codes "schema") v in
    let rows = field (codes "data") v in
    first_fault (option_map (at_column column.Schema) (kind_fault is_object schema)
    ∷ option_map (at_column column.Data) (kind_fault is_array rows)
    ∷ (if are_places schema then None else Some (at_column column.Schema (whole_fault rule.WrongKind)))
    ∷ lacking schema needed
    ∷ option_map (λ row. at_column column.Data (wrong_kind row)) (first_unfit is_array (items_of rows))
    ∷ [])

-- what breaks of a table, whose first column is named where it is absent or no object
abbrev pub table_fault : Column → List (Column × List ℕ) → Option Value → Option TableFault
table_fault first needed None = Some (at_column first (whole_fault rule.Missing))
table_fault first needed (Some (Value.object ms)) = object_fault needed (Value.object ms)
table_fault first needed (Some _) = Some (at_column first (whole_fault rule.WrongKind))

-- the columns of `frameTable`
unfoldable pub frame_table : Option Value → TableCells
frame_table table = record {
  fault = table_fault column.Location ((column.Location, codes "location") ∷ []) table;
  columns =
      named_cells (read_placed placed.Index) table (codes "location")
      ∷ named_cells (read_placed placed.True) table (codes "relevantForJS")
      ∷ named_cells (read_placed placed.MaybeIndex) table (codes "category")
      ∷ [];
}

-- those of `stackTable`
unfoldable pub stack_table : Option Value → TableCells
stack_table table = record {
  fault = table_fault column.Frame
      ((column.Frame, codes "frame")
      ∷ (column.Prefix, codes "prefix")
      ∷ []) table;
  columns =
      named_cells (read_placed placed.Index) table (codes "frame")
      ∷ named_cells (read_placed placed.MaybeIndex) table (codes "prefix")
      ∷ [];
}

-- those of `samples`
unfoldable pub sample_table : Option Value → TableCells
sample_table table = record {
  fault = table_fault column.Stack
      ((column.Stack, codes "stack")
      ∷ (column.Time, codes "time")
      ∷ []) table;
  columns =
      named_cells (read_placed placed.MaybeIndex) table (codes "stack")
      ∷ named_cells (read_placed placed.Time) table (codes "time")
      ∷ [];
}

-- those of `markers`
unfoldable pub marker_table : Option Value → TableCells
marker_table table = record {
  fault = table_fault column.Phase
      ((column.Phase, codes "phase")
      ∷ (column.Name, codes "name")
      ∷ (column.StartTime, codes "startTime")
      ∷ (column.EndTime, codes "endTime")
      ∷ []) table;
  columns =
      named_cells (read_placed placed.Phase) table (codes "phase")
      ∷ named_cells (read_placed placed.Index) table (codes "name")
      ∷ named_cells (read_placed placed.MaybeTime) table (codes "startTime")
      ∷ named_cells (read_placed placed.MaybeTime) table (codes "endTime")
      ∷ named_cells (read_placed placed.Any) table (codes "data")
      ∷ [];
}

-- whether a schema has a phase; one that is no object breaks a rule by itself
abbrev pub phase_there : Option Value → Bool
phase_there (Some (Value.object ms)) = is_some (last_named (codes "phase") ms)
phase_there _ = true

-- markers count where they are an object, and where their schema is no object or has a phase
abbrev pub has_markers : Option Value → Bool
has_markers (Some (Value.object ms)) = phase_there (last_named (codes "schema") ms)
has_markers _ = false

-- the details of the markers
abbrev pub details : Option Value → List Value
details table = details_at (place_of (codes "data") (member_of table (codes "schema"))) (rows_in table)

-- a thread; its name is empty where it is no string
unfoldable pub gecko_cells : Value → GeckoCells
gecko_cells v =
    let strings = field (codes "stringTable") v in
    let markers = field (codes "markers") v in
    record {
      name = member_text (field (codes "name") v);
      strings = texts_of strings;
      string_fault = needed_list_fault is_text MOST_STRINGS strings;
      frame = frame_table (field (codes "frameTable") v);
      stack = stack_table (field (codes "stackTable") v);
      samples = sample_table (field (codes "samples") v);
      markers = marker_table markers;
      has_markers = has_markers markers;
      marker_texts = all_texts (details markers);
      marker_ranges = ranges_from 0 (details markers);
    }
