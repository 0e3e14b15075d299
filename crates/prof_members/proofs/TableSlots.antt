-- One more member of a category, of markers, of a thread, of `meta` and of the whole text.
use Rattle.std.proofs.Common.{◌≡◌, ℕ, List, Option, true, false, refl, inr}
use Rattle.prof_raw.specs.declared.limits.TheConstants.{MOST_ROWS}
use Rattle.std.specs.Prelude.{codes, is_some, string_bytes, String, Bool}
use Rattle.std.specs.Option.{option_map}
use Rattle.std.specs.declared.alloc.Global.{Global}
use Rattle.prof_grammar.specs.Value.{Value, Members, snoc, same_text}
use Rattle.prof_raw.specs.Cells.{Cells}
use Rattle.prof_raw.specs.declared.raw.TableLength.{TableLength}
use Rattle.prof_layout.specs.declared.reading.Reading.{Reading}
use Rattle.prof_layout.specs.declared.reading.Reading.TheVariants as reading
use Rattle.prof_layout.specs.Lists.{member_text}
use Rattle.prof_layout.specs.Tables.{said_by}
use Rattle.prof_gather.specs.Taking.{IsFoundIn}
use Rattle.prof_column.specs.Kept.{string_of, kept_column, IsTextList}
use Rattle.prof_members.specs.Gathered.{IsCategoryList, IsMarkerData, IsThreadList, AreCategoryMembers, AreResourceColumns, AreFuncColumns, AreFrameColumns, AreStackColumns, AreSampleColumns, AreMarkerColumns, AreShared, AreThread, AreMeta, AreParts}
use Rattle.prof_members.specs.Names.{member_name}
use Rattle.prof_members.specs.declared.categories.Category.{Category}
use Rattle.prof_members.specs.declared.markers.MarkerTable.{MarkerTable}
use Rattle.prof_members.specs.declared.shared.SharedTables.{SharedTables}
use Rattle.prof_members.specs.declared.shared.SharedMember.{SharedMember}
use Rattle.prof_members.specs.declared.shared.SharedMember.TheVariants as shared
use Rattle.prof_members.specs.declared.threads.ThreadParts.{ThreadParts}
use Rattle.prof_members.specs.declared.parts.Meta.{Meta}
use Rattle.prof_members.specs.declared.parts.ProfileParts.{ProfileParts}
use Rattle.prof_schema.proofs.Slots.{Goes, slot_after}

abbrev pub HoldsText : Option Value → Option (String Global) → Type 0
HoldsText o t = option_map string_bytes t ≡ string_of o

abbrev pub HoldsGrey : Option Value → Bool → Type 0
HoldsGrey o b = b ≡ same_text (member_text o) (codes "grey")

abbrev pub HoldsColumn : Reading → Option Value → Cells → Type 0
HoldsColumn r o c = c ≡ kept_column MOST_ROWS r true o

abbrev pub HoldsLength : Option Value → TableLength → Type 0
HoldsLength o l = l ≡ said_by o

abbrev pub HoldsPresence : Option Value → Bool → Type 0
HoldsPresence o b = b ≡ is_some o

pub category_more : (n : List ℕ) (v : Value) (old new : Category) →
    Goes HoldsText (codes "name") n v old.name new.name →
    Goes HoldsGrey (codes "color") n v old.grey new.grey →
    (ms : Members) → AreCategoryMembers ms old → AreCategoryMembers (snoc ms n v) new
category_more n v old new name grey ms h = record {
  name = slot_after HoldsText (codes "name") n v old.name new.name name ms h.name;
  grey = slot_after HoldsGrey (codes "color") n v old.grey new.grey grey ms h.grey;
}

pub markers_more : (n : List ℕ) (v : Value) (old new : MarkerTable) →
    Goes (HoldsColumn reading.Phase) (codes "phase") n v old.phase new.phase →
    Goes (HoldsColumn reading.Index) (codes "name") n v old.name new.name →
    Goes (HoldsColumn reading.MaybeTime) (codes "startTime") n v old.start_time new.start_time →
    Goes (HoldsColumn reading.MaybeTime) (codes "endTime") n v old.end_time new.end_time →
    Goes IsMarkerData (codes "data") n v old.data new.data →
    Goes HoldsLength (codes "length") n v old.length new.length →
    (ms : Members) → AreMarkerColumns ms old → AreMarkerColumns (snoc ms n v) new
markers_more n v old new phase name start end data_ length ms h = record {
  phase = slot_after (HoldsColumn reading.Phase) (codes "phase") n v old.phase new.phase phase ms h.phase;
  name = slot_after (HoldsColumn reading.Index) (codes "name") n v old.name new.name name ms h.name;
  start = slot_after (HoldsColumn reading.MaybeTime) (codes "startTime") n v old.start_time new.start_time start ms h.start;
  end = slot_after (HoldsColumn reading.MaybeTime) (codes "endTime") n v old.end_time new.end_time end ms h.end;
  data_ = slot_after IsMarkerData (codes "data") n v old.data new.data data_ ms h.data_;
  length = slot_after HoldsLength (codes "length") n v old.length new.length length ms h.length;
}

-- a member that is none of the shared tables leaves them
pub shared_stay : (n : List ℕ) (v : Value) (t : SharedTables) → ((m : SharedMember) → same_text n (member_name m) ≡ false) → (ms : Members) → AreShared ms t → AreShared (snoc ms n v) t
shared_stay n v t other ms h = record {
  strings = slot_after IsTextList (codes "stringArray") n v t.strings t.strings (inr (other shared.Strings, refl)) ms h.strings;
  resources = slot_after (IsFoundIn AreResourceColumns) (codes "resourceTable") n v t.resources t.resources (inr (other shared.Resources, refl)) ms h.resources;
  funcs = slot_after (IsFoundIn AreFuncColumns) (codes "funcTable") n v t.funcs t.funcs (inr (other shared.Funcs, refl)) ms h.funcs;
  frames = slot_after (IsFoundIn AreFrameColumns) (codes "frameTable") n v t.frames t.frames (inr (other shared.Frames, refl)) ms h.frames;
  stacks = slot_after (IsFoundIn AreStackColumns) (codes "stackTable") n v t.stacks t.stacks (inr (other shared.Stacks, refl)) ms h.stacks;
}

-- the names of a thread's own members are none of those
pub name-own : (m : SharedMember) → same_text (codes "name") (member_name m) ≡ false
name-own shared.Strings = refl
name-own shared.Resources = refl
name-own shared.Funcs = refl
name-own shared.Frames = refl
name-own shared.Stacks = refl

pub samples-own : (m : SharedMember) → same_text (codes "samples") (member_name m) ≡ false
samples-own shared.Strings = refl
samples-own shared.Resources = refl
samples-own shared.Funcs = refl
samples-own shared.Frames = refl
samples-own shared.Stacks = refl

pub markers-own : (m : SharedMember) → same_text (codes "markers") (member_name m) ≡ false
markers-own shared.Strings = refl
markers-own shared.Resources = refl
markers-own shared.Funcs = refl
markers-own shared.Frames = refl
markers-own shared.Stacks = refl

pub shared-own : (m : SharedMember) → (same_text (member_name m) (codes "name") ≡ false) × (same_text (member_name m) (codes "samples") ≡ false) × (same_text (member_name m) (codes "markers") ≡ false)
shared-own shared.Strings = (refl, refl, refl)
shared-own shared.Resources = (refl, refl, refl)
shared-own shared.Funcs = (refl, refl, refl)
shared-own shared.Frames = (refl, refl, refl)
shared-own shared.Stacks = (refl, refl, refl)

pub thread_more : (n : List ℕ) (v : Value) (old new : ThreadParts) →
    Goes HoldsText (codes "name") n v old.name new.name →
    ((ms : Members) → AreShared ms old.shared → AreShared (snoc ms n v) new.shared) →
    Goes (IsFoundIn AreSampleColumns) (codes "samples") n v old.samples new.samples →
    Goes (IsFoundIn AreMarkerColumns) (codes "markers") n v old.markers new.markers →
    (ms : Members) → AreThread ms old → AreThread (snoc ms n v) new
thread_more n v old new name tables samples markers ms h = record {
  name = slot_after HoldsText (codes "name") n v old.name new.name name ms h.name;
  shared = tables ms h.shared;
  samples = slot_after (IsFoundIn AreSampleColumns) (codes "samples") n v old.samples new.samples samples ms h.samples;
  markers = slot_after (IsFoundIn AreMarkerColumns) (codes "markers") n v old.markers new.markers markers ms h.markers;
}

pub meta_more : (n : List ℕ) (v : Value) (old new : Meta) →
    Goes HoldsPresence (codes "preprocessedProfileVersion") n v old.processed new.processed →
    Goes IsCategoryList (codes "categories") n v old.categories new.categories →
    (ms : Members) → AreMeta ms old → AreMeta (snoc ms n v) new
meta_more n v old new processed categories ms h = record {
  processed = slot_after HoldsPresence (codes "preprocessedProfileVersion") n v old.processed new.processed processed ms h.processed;
  categories = slot_after IsCategoryList (codes "categories") n v old.categories new.categories categories ms h.categories;
}

pub parts_more : (n : List ℕ) (v : Value) (old new : ProfileParts) →
    Goes (IsFoundIn AreMeta) (codes "meta") n v old.meta new.meta →
    Goes (IsFoundIn AreShared) (codes "shared") n v old.shared new.shared →
    Goes IsThreadList (codes "threads") n v old.threads new.threads →
    (ms : Members) → AreParts ms old → AreParts (snoc ms n v) new
parts_more n v old new meta tables threads ms h = record {
  meta = slot_after (IsFoundIn AreMeta) (codes "meta") n v old.meta new.meta meta ms h.meta;
  shared = slot_after (IsFoundIn AreShared) (codes "shared") n v old.shared new.shared tables ms h.shared;
  threads = slot_after IsThreadList (codes "threads") n v old.threads new.threads threads ms h.threads;
}
