-- One more member of a thread.
use Rattle.std.proofs.Common.{◌≡◌, ℕ, List, Option}
use Rattle.std.specs.Prelude.{codes, string_bytes, String}
use Rattle.std.specs.Option.{option_map}
use Rattle.std.specs.declared.alloc.Global.{Global}
use Rattle.prof_grammar.specs.Value.{Value, Members, snoc}
use Rattle.prof_raw.specs.declared.limits.TheConstants.{MOST_ROWS, MOST_SAMPLES}
use Rattle.prof_column.specs.Kept.{string_of, IsTextList}
use Rattle.prof_gecko.specs.Gathered.{TableCells}
use Rattle.prof_gecko_layout.specs.GeckoTables.{frame_table, stack_table, sample_table}
use Rattle.prof_schema.proofs.Slots.{Goes, slot_after}
use Rattle.prof_processes.specs.Tables.{kept_table, AreMarkers}
use Rattle.prof_processes.specs.Threads.{AreThread}
use Rattle.prof_processes.specs.declared.thread.ThreadMembers.{ThreadMembers}

abbrev pub HoldsText : Option Value → Option (String Global) → Type 0
HoldsText o t = option_map string_bytes t ≡ string_of o

abbrev pub HoldsFrames : Option Value → TableCells → Type 0
HoldsFrames o t = t ≡ kept_table MOST_ROWS (frame_table o)

abbrev pub HoldsStacks : Option Value → TableCells → Type 0
HoldsStacks o t = t ≡ kept_table MOST_ROWS (stack_table o)

abbrev pub HoldsSamples : Option Value → TableCells → Type 0
HoldsSamples o t = t ≡ kept_table MOST_SAMPLES (sample_table o)

pub thread_more : (n : List ℕ) (v : Value) (old new : ThreadMembers) →
    Goes HoldsText (codes "name") n v old.name new.name →
    Goes IsTextList (codes "stringTable") n v old.strings new.strings →
    Goes HoldsFrames (codes "frameTable") n v old.frame new.frame →
    Goes HoldsStacks (codes "stackTable") n v old.stack new.stack →
    Goes HoldsSamples (codes "samples") n v old.samples new.samples →
    Goes AreMarkers (codes "markers") n v old.markers new.markers →
    (ms : Members) → AreThread ms old → AreThread (snoc ms n v) new
thread_more n v old new name strings frame stack samples markers ms h = record {
  name = slot_after HoldsText (codes "name") n v old.name new.name name ms h.name;
  strings = slot_after IsTextList (codes "stringTable") n v old.strings new.strings strings ms h.strings;
  frame = slot_after HoldsFrames (codes "frameTable") n v old.frame new.frame frame ms h.frame;
  stack = slot_after HoldsStacks (codes "stackTable") n v old.stack new.stack stack ms h.stack;
  samples = slot_after HoldsSamples (codes "samples") n v old.samples new.samples samples ms h.samples;
  markers = slot_after AreMarkers (codes "markers") n v old.markers new.markers markers ms h.markers;
}
