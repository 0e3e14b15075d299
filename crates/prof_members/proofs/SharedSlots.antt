-- One more member of the tables that threads may share.
use Rattle.std.proofs.Common.{◌≡◌, ℕ, List, Option, true, false, sym, subst}
use Rattle.prof_raw.specs.declared.limits.TheConstants.{MOST_FUNCS, MOST_ROWS}
use Rattle.std.specs.Prelude.{codes, Bool}
use Rattle.prof_grammar.specs.Value.{Value, Members, snoc}
use Rattle.prof_raw.specs.Cells.{Cells}
use Rattle.prof_layout.specs.declared.reading.Reading.{Reading}
use Rattle.prof_layout.specs.declared.reading.Reading.TheVariants as reading
use Rattle.prof_gather.specs.Taking.{IsFoundIn}
use Rattle.prof_column.specs.Kept.{kept_column, IsTextList}
use Rattle.prof_members.specs.Gathered.{AreResourceColumns, AreFuncColumns, AreFrameColumns, AreStackColumns, AreShared}
use Rattle.prof_members.specs.declared.shared.ResourceTable.{ResourceTable}
use Rattle.prof_members.specs.declared.shared.FuncTable.{FuncTable}
use Rattle.prof_members.specs.declared.shared.FrameTable.{FrameTable}
use Rattle.prof_members.specs.declared.shared.StackTable.{StackTable}
use Rattle.prof_members.specs.declared.shared.SharedTables.{SharedTables}
use Rattle.prof_schema.proofs.Slots.{Goes, slot_after}
use Rattle.prof_members.proofs.TableSlots.{HoldsLength}

abbrev pub HoldsCells : ℕ → Reading → Bool → Option Value → Cells → Type 0
HoldsCells most r needed o c = c ≡ kept_column most r needed o

pub resources_more : (n : List ℕ) (v : Value) (old new : ResourceTable) →
    Goes (HoldsCells MOST_FUNCS reading.Index true) (codes "name") n v old.name new.name →
    Goes HoldsLength (codes "length") n v old.length new.length →
    (ms : Members) → AreResourceColumns ms old → AreResourceColumns (snoc ms n v) new
resources_more n v old new g_name g_length ms h = record {
  name = slot_after (HoldsCells MOST_FUNCS reading.Index true) (codes "name") n v old.name new.name g_name ms h.name;
  length = slot_after HoldsLength (codes "length") n v old.length new.length g_length ms h.length;
}

pub funcs_more : (n : List ℕ) (v : Value) (old new : FuncTable) →
    Goes (HoldsCells MOST_FUNCS reading.Index true) (codes "name") n v old.name new.name →
    Goes (HoldsCells MOST_FUNCS reading.Truth false) (codes "isJS") n v old.is_js new.is_js →
    Goes (HoldsCells MOST_FUNCS reading.Truth false) (codes "relevantForJS") n v old.relevant_for_js new.relevant_for_js →
    Goes (HoldsCells MOST_FUNCS reading.Index false) (codes "resource") n v old.resource new.resource →
    Goes (HoldsCells MOST_FUNCS reading.MaybeIndex false) (codes "fileName") n v old.file_name new.file_name →
    Goes HoldsLength (codes "length") n v old.length new.length →
    (ms : Members) → AreFuncColumns ms old → AreFuncColumns (snoc ms n v) new
funcs_more n v old new g_name g_is_js g_relevant g_resource g_file g_length ms h = record {
  name = slot_after (HoldsCells MOST_FUNCS reading.Index true) (codes "name") n v old.name new.name g_name ms h.name;
  is_js = slot_after (HoldsCells MOST_FUNCS reading.Truth false) (codes "isJS") n v old.is_js new.is_js g_is_js ms h.is_js;
  relevant = slot_after (HoldsCells MOST_FUNCS reading.Truth false) (codes "relevantForJS") n v old.relevant_for_js new.relevant_for_js g_relevant ms h.relevant;
  resource = slot_after (HoldsCells MOST_FUNCS reading.Index false) (codes "resource") n v old.resource new.resource g_resource ms h.resource;
  file = slot_after (HoldsCells MOST_FUNCS reading.MaybeIndex false) (codes "fileName") n v old.file_name new.file_name g_file ms h.file;
  length = slot_after HoldsLength (codes "length") n v old.length new.length g_length ms h.length;
}

pub frames_more : (n : List ℕ) (v : Value) (old new : FrameTable) →
    Goes (HoldsCells MOST_ROWS reading.Index true) (codes "func") n v old.func new.func →
    Goes (HoldsCells MOST_ROWS reading.MaybeIndex false) (codes "category") n v old.category new.category →
    Goes HoldsLength (codes "length") n v old.length new.length →
    (ms : Members) → AreFrameColumns ms old → AreFrameColumns (snoc ms n v) new
frames_more n v old new g_func g_category g_length ms h = record {
  func = slot_after (HoldsCells MOST_ROWS reading.Index true) (codes "func") n v old.func new.func g_func ms h.func;
  category = slot_after (HoldsCells MOST_ROWS reading.MaybeIndex false) (codes "category") n v old.category new.category g_category ms h.category;
  length = slot_after HoldsLength (codes "length") n v old.length new.length g_length ms h.length;
}

pub stacks_more : (n : List ℕ) (v : Value) (old new : StackTable) →
    Goes (HoldsCells MOST_ROWS reading.Index true) (codes "frame") n v old.frame new.frame →
    Goes (HoldsCells MOST_ROWS reading.MaybeIndex true) (codes "prefix") n v old.prefix new.prefix →
    Goes HoldsLength (codes "length") n v old.length new.length →
    (ms : Members) → AreStackColumns ms old → AreStackColumns (snoc ms n v) new
stacks_more n v old new g_frame g_prefix g_length ms h = record {
  frame = slot_after (HoldsCells MOST_ROWS reading.Index true) (codes "frame") n v old.frame new.frame g_frame ms h.frame;
  prefix = slot_after (HoldsCells MOST_ROWS reading.MaybeIndex true) (codes "prefix") n v old.prefix new.prefix g_prefix ms h.prefix;
  length = slot_after HoldsLength (codes "length") n v old.length new.length g_length ms h.length;
}

pub shared_more : (n : List ℕ) (v : Value) (old new : SharedTables) →
    Goes IsTextList (codes "stringArray") n v old.strings new.strings →
    Goes (IsFoundIn AreResourceColumns) (codes "resourceTable") n v old.resources new.resources →
    Goes (IsFoundIn AreFuncColumns) (codes "funcTable") n v old.funcs new.funcs →
    Goes (IsFoundIn AreFrameColumns) (codes "frameTable") n v old.frames new.frames →
    Goes (IsFoundIn AreStackColumns) (codes "stackTable") n v old.stacks new.stacks →
    (ms : Members) → AreShared ms old → AreShared (snoc ms n v) new
shared_more n v old new g_strings g_resources g_funcs g_frames g_stacks ms h = record {
  strings = slot_after IsTextList (codes "stringArray") n v old.strings new.strings g_strings ms h.strings;
  resources = slot_after (IsFoundIn AreResourceColumns) (codes "resourceTable") n v old.resources new.resources g_resources ms h.resources;
  funcs = slot_after (IsFoundIn AreFuncColumns) (codes "funcTable") n v old.funcs new.funcs g_funcs ms h.funcs;
  frames = slot_after (IsFoundIn AreFrameColumns) (codes "frameTable") n v old.frames new.frames g_frames ms h.frames;
  stacks = slot_after (IsFoundIn AreStackColumns) (codes "stackTable") n v old.stacks new.stacks g_stacks ms h.stacks;
}

-- a member whose name is said to be this one
pub shared_named : (said name : List ℕ) (v : Value) (old new : SharedTables) → said ≡ name → ((ms : Members) → AreShared ms old → AreShared (snoc ms name v) new) →
    (ms : Members) → AreShared ms old → AreShared (snoc ms said v) new
shared_named said name v old new e h ms k = subst (λ (n : List ℕ). AreShared (snoc ms n v) new) (sym e) (h ms k)
