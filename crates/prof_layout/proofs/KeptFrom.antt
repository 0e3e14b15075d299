-- What is kept of a thread's tables, column by column, by the members that the tables are.
use Rattle.std.proofs.Common.{◌≡◌, ℕ, suc, List, take, Option, false, refl}
use Rattle.std.specs.Prelude.{codes, is_some}
use Rattle.prof_grammar.specs.Value.{Value, field}
use Rattle.prof_raw.specs.declared.rule.ListFault.{ListFault}
use Rattle.prof_raw.specs.Cells.{SharedCells, OwnCells}
use Rattle.prof_layout.specs.declared.reading.Reading.TheVariants as reading
use Rattle.prof_layout.specs.Columns.{capped, column_of, any_cell, absent, not_array}
use Rattle.prof_layout.specs.Lists.{unless_null, items_of, texts_of, member_text}
use Rattle.prof_layout.specs.Markers.{all_texts, ranges_from}
use Rattle.prof_layout.specs.Tables.{member_of, first_cells, needed_cells, optional_cells, said_length, strings_fault, shared_over, raw_shared, over_strings, raw_tables, weight_unit, weight_reading, has_deltas, time_cells, has_markers, raw_own}
use Rattle.prof_layout.specs.Kept.{kept_strings, kept_resources, kept_funcs, kept_frames, kept_stacks, kept_shared, kept_samples, kept_markers, kept_texts, kept_own}
use Rattle.prof_raw.specs.declared.limits.TheConstants.{MOST_FUNCS, MOST_ROWS, MOST_SAMPLES, MOST_STRINGS}

-- of these strings with their fault, `resourceTable`, `funcTable`, `frameTable` and `stackTable`
abbrev pub tables_from : List (List ℕ) → Option ListFault → Option Value → Option Value → Option Value → Option Value → SharedCells
tables_from strings fault resources funcs frames stacks = record {
  strings = strings;
  string_fault = fault;
  has_resources = is_some (unless_null resources);
  resource_name = capped MOST_FUNCS (first_cells reading.Index (unless_null resources) (codes "name"));
  resource_length = said_length (unless_null resources);
  func_name = capped MOST_FUNCS (first_cells reading.Index funcs (codes "name"));
  func_is_js = capped MOST_FUNCS (optional_cells reading.Truth funcs (codes "isJS"));
  func_relevant_for_js = capped MOST_FUNCS (optional_cells reading.Truth funcs (codes "relevantForJS"));
  func_resource = capped MOST_FUNCS (optional_cells reading.Index funcs (codes "resource"));
  func_file_name = capped MOST_FUNCS (optional_cells reading.MaybeIndex funcs (codes "fileName"));
  func_length = said_length funcs;
  frame_func = capped MOST_ROWS (first_cells reading.Index frames (codes "func"));
  frame_category = capped MOST_ROWS (optional_cells reading.MaybeIndex frames (codes "category"));
  frame_length = said_length frames;
  stack_frame = capped MOST_ROWS (first_cells reading.Index stacks (codes "frame"));
  stack_prefix = capped MOST_ROWS (needed_cells reading.MaybeIndex stacks (codes "prefix"));
  stack_length = said_length stacks;
}

pub kept_shared-is : (strings : List (List ℕ)) (fault : Option ListFault) (v : Value) →
    kept_shared (shared_over strings fault v) ≡ tables_from (take (suc MOST_STRINGS) strings) fault (field (codes "resourceTable") v) (field (codes "funcTable") v) (field (codes "frameTable") v) (field (codes "stackTable") v)
unfolding kept_strings kept_resources kept_funcs kept_frames kept_stacks
kept_shared-is strings fault v = refl

pub raw_shared-is : (v : Value) → raw_shared v ≡ shared_over (texts_of (field (codes "stringArray") v)) (strings_fault (field (codes "stringArray") v)) v
unfolding raw_shared
raw_shared-is v = refl

pub raw_tables-is : (common : Option (List (List ℕ))) (v : Value) → raw_tables common v ≡ over_strings common (field (codes "stringArray") v) v
unfolding raw_tables
raw_tables-is common v = refl

-- of `name`, `samples` and `markers`
abbrev pub own_from : Option Value → Option Value → Option Value → OwnCells
own_from name samples markers = record {
  name = member_text name;
  sample_stack = capped MOST_SAMPLES (first_cells reading.MaybeIndex samples (codes "stack"));
  sample_time = capped MOST_SAMPLES (time_cells samples);
  deltas = has_deltas samples;
  unit = weight_unit (member_of samples (codes "weightType"));
  sample_weight = capped MOST_SAMPLES (optional_cells (weight_reading (weight_unit (member_of samples (codes "weightType")))) samples (codes "weight"));
  sample_length = said_length samples;
  has_markers = has_markers markers;
  marker_phase = capped MOST_ROWS (needed_cells reading.Phase markers (codes "phase"));
  marker_name = capped MOST_ROWS (needed_cells reading.Index markers (codes "name"));
  marker_start = capped MOST_ROWS (needed_cells reading.MaybeTime markers (codes "startTime"));
  marker_end = capped MOST_ROWS (needed_cells reading.MaybeTime markers (codes "endTime"));
  marker_data = capped MOST_ROWS (column_of any_cell false (member_of markers (codes "data")));
  marker_length = said_length markers;
  marker_texts = all_texts (take (suc MOST_ROWS) (items_of (member_of markers (codes "data"))));
  marker_ranges = ranges_from 0 (take (suc MOST_ROWS) (items_of (member_of markers (codes "data"))));
}

pub kept_own-is : (v : Value) → kept_own v ≡ own_from (field (codes "name") v) (field (codes "samples") v) (field (codes "markers") v)
unfolding kept_samples kept_markers kept_texts raw_own
kept_own-is v = refl

-- a column without cells is kept as it is
pub capped-absent : (most : ℕ) → capped most absent ≡ absent
capped-absent most = refl

pub capped-not_array : (most : ℕ) → capped most not_array ≡ not_array
capped-not_array most = refl
