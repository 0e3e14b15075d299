-- What is kept of a thread's tables: of each list and column at most one row more than its limit.
use Rattle.std.specs.Prelude.{◌≡◌, ℕ, suc, false, ◌≤◌, List, Option, None, take, length, codes}
use Rattle.prof_grammar.specs.Value.{Value, field}
use Rattle.prof_raw.specs.Cells.{SharedCells, OwnCells, ThreadCells}
use Rattle.prof_layout.specs.Columns.{capped, IsGathered}
use Rattle.prof_layout.specs.Lists.{items_of}
use Rattle.prof_layout.specs.Markers.{all_texts, ranges_from}
use Rattle.prof_layout.specs.Tables.{member_of, raw_tables, raw_own}
use Rattle.prof_raw.specs.declared.limits.TheConstants.{MOST_FUNCS, MOST_ROWS, MOST_SAMPLES, MOST_STRINGS}

unfoldable pub kept_strings : SharedCells → SharedCells
kept_strings raw = record raw { strings = take (suc MOST_STRINGS) raw.strings }

unfoldable pub kept_resources : SharedCells → SharedCells
kept_resources raw = record raw { resource_name = capped MOST_FUNCS raw.resource_name }

unfoldable pub kept_funcs : SharedCells → SharedCells
kept_funcs raw = record raw {
  func_name = capped MOST_FUNCS raw.func_name;
  func_is_js = capped MOST_FUNCS raw.func_is_js;
  func_relevant_for_js = capped MOST_FUNCS raw.func_relevant_for_js;
  func_resource = capped MOST_FUNCS raw.func_resource;
  func_file_name = capped MOST_FUNCS raw.func_file_name;
}

unfoldable pub kept_frames : SharedCells → SharedCells
kept_frames raw = record raw { frame_func = capped MOST_ROWS raw.frame_func; frame_category = capped MOST_ROWS raw.frame_category }

unfoldable pub kept_stacks : SharedCells → SharedCells
kept_stacks raw = record raw { stack_frame = capped MOST_ROWS raw.stack_frame; stack_prefix = capped MOST_ROWS raw.stack_prefix }

abbrev pub kept_shared : SharedCells → SharedCells
kept_shared raw = kept_stacks (kept_frames (kept_funcs (kept_resources (kept_strings raw))))

unfoldable pub kept_samples : OwnCells → OwnCells
kept_samples raw = record raw {
  sample_stack = capped MOST_SAMPLES raw.sample_stack;
  sample_time = capped MOST_SAMPLES raw.sample_time;
  sample_weight = capped MOST_SAMPLES raw.sample_weight;
}

unfoldable pub kept_markers : OwnCells → OwnCells
kept_markers raw = record raw {
  marker_phase = capped MOST_ROWS raw.marker_phase;
  marker_name = capped MOST_ROWS raw.marker_name;
  marker_start = capped MOST_ROWS raw.marker_start;
  marker_end = capped MOST_ROWS raw.marker_end;
  marker_data = capped MOST_ROWS raw.marker_data;
}

-- the values of the column `data` of a thread's markers, of which so many are kept
abbrev pub marker_values : Value → List Value
marker_values v = items_of (member_of (field (codes "markers") v) (codes "data"))

-- with the texts of the rows that are kept
unfoldable pub kept_texts : List Value → OwnCells → OwnCells
kept_texts rows raw = record raw { marker_texts = all_texts (take (suc MOST_ROWS) rows); marker_ranges = ranges_from 0 (take (suc MOST_ROWS) rows) }

abbrev pub kept_own : Value → OwnCells
kept_own v = kept_texts (marker_values v) (kept_markers (kept_samples (raw_own v)))

abbrev pub kept_thread : Option (List (List ℕ)) → Value → ThreadCells
kept_thread common v = record { shared = kept_shared (raw_tables common v); own = kept_own v }

-- what the columns of a value's tables keep
pub record AreGathered (raw : SharedCells) : Type 0 where
  pub strings : raw.string_fault ≡ None → length raw.strings ≤ MOST_STRINGS
  pub no_resources : raw.has_resources ≡ false → length raw.resource_name.cells ≡ 0
  pub resource_name : IsGathered raw.resource_name
  pub func_name : IsGathered raw.func_name
  pub func_is_js : IsGathered raw.func_is_js
  pub func_relevant_for_js : IsGathered raw.func_relevant_for_js
  pub func_resource : IsGathered raw.func_resource
  pub func_file_name : IsGathered raw.func_file_name
  pub frame_func : IsGathered raw.frame_func
  pub frame_category : IsGathered raw.frame_category
  pub stack_frame : IsGathered raw.stack_frame
  pub stack_prefix : IsGathered raw.stack_prefix

pub record AreOwnGathered (raw : OwnCells) : Type 0 where
  pub sample_stack : IsGathered raw.sample_stack
  pub sample_time : IsGathered raw.sample_time
  pub sample_weight : IsGathered raw.sample_weight
  pub marker_phase : IsGathered raw.marker_phase
  pub marker_name : IsGathered raw.marker_name
  pub marker_start : IsGathered raw.marker_start
  pub marker_end : IsGathered raw.marker_end
  pub marker_data : IsGathered raw.marker_data
