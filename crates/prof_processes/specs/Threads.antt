-- What is kept of a Gecko thread.
use Rattle.std.specs.Prelude.{◌≡◌, suc, take, codes, string_bytes}
use Rattle.std.specs.Option.{option_map}
use Rattle.prof_grammar.specs.Value.{Value, Members, field, last_named}
use Rattle.prof_layout.specs.Markers.{all_texts, ranges_from}
use Rattle.prof_raw.specs.declared.limits.TheConstants.{MOST_ROWS, MOST_SAMPLES, MOST_STRINGS}
use Rattle.prof_column.specs.Kept.{string_of, IsTextList}
use Rattle.prof_gecko.specs.Gathered.{GeckoCells}
use Rattle.prof_gecko_layout.specs.GeckoTables.{gecko_cells, frame_table, stack_table, sample_table}
use Rattle.prof_processes.specs.Tables.{kept_table, details_in, AreMarkers}
use Rattle.prof_processes.specs.declared.thread.ThreadMembers.{ThreadMembers}

-- what is kept of a thread: of each list and column at most one row more than its limit, and the texts of those rows
unfoldable pub kept_cells : Value → GeckoCells
kept_cells v =
    let whole = gecko_cells v in
    let details = details_in (field (codes "markers") v) in
    record whole {
      strings = take (suc MOST_STRINGS) whole.strings;
      frame = kept_table MOST_ROWS whole.frame;
      stack = kept_table MOST_ROWS whole.stack;
      samples = kept_table MOST_SAMPLES whole.samples;
      markers = kept_table MOST_ROWS whole.markers;
      marker_texts = all_texts details;
      marker_ranges = ranges_from 0 details;
    }

-- what is gathered of a thread's members
pub record AreThread (ms : Members) (t : ThreadMembers) : Type 0 where
  pub name : option_map string_bytes t.name ≡ string_of (last_named (codes "name") ms)
  pub strings : IsTextList (last_named (codes "stringTable") ms) t.strings
  pub frame : t.frame ≡ kept_table MOST_ROWS (frame_table (last_named (codes "frameTable") ms))
  pub stack : t.stack ≡ kept_table MOST_ROWS (stack_table (last_named (codes "stackTable") ms))
  pub samples : t.samples ≡ kept_table MOST_SAMPLES (sample_table (last_named (codes "samples") ms))
  pub markers : AreMarkers (last_named (codes "markers") ms) t.markers
