-- One more member of a thread in both ways.
use Rattle.std.proofs.Common.{◌≡◌, ℕ, List, Option, Some, false, refl, inl, inr}
use Rattle.std.specs.Prelude.{codes, string_bytes, String}
use Rattle.std.specs.Option.{option_map}
use Rattle.std.specs.declared.alloc.Global.{Global}
use Rattle.prof_column.specs.Kept.{string_of}
use Rattle.prof_gather.specs.Taking.{IsFoundIn}
use Rattle.prof_gather.specs.declared.objects.Found.{Found}
use Rattle.prof_gecko.specs.Gathered.{TableCells}
use Rattle.prof_gecko_layout.specs.GeckoTables.{frame_table, stack_table, sample_table}
use Rattle.prof_grammar.specs.Value.{Value, Members, snoc, same_text}
use Rattle.prof_raw.specs.declared.limits.TheConstants.{MOST_ROWS, MOST_SAMPLES}
use Rattle.prof_members.specs.Gathered as members
use Rattle.prof_members.specs.Gathered.{AreFrameColumns, AreStackColumns, AreSampleColumns, AreMarkerColumns, AreShared}
use Rattle.prof_members.specs.Names.{member_name}
use Rattle.prof_members.specs.declared.markers.MarkerTable.{MarkerTable}
use Rattle.prof_members.specs.declared.samples.SampleTable.{SampleTable}
use Rattle.prof_members.specs.declared.shared.FrameTable.{FrameTable}
use Rattle.prof_members.specs.declared.shared.StackTable.{StackTable}
use Rattle.prof_members.specs.declared.shared.SharedMember.{SharedMember}
use Rattle.prof_members.specs.declared.shared.SharedMember.TheVariants as shared
use Rattle.prof_members.proofs.TableSlots as slots
use Rattle.prof_members.proofs.TableSlots.{shared_stay, name-own, samples-own, markers-own}
use Rattle.prof_members.proofs.SharedSlots.{shared_more}
use Rattle.prof_processes.specs.Tables.{kept_table, AreMarkers}
use Rattle.prof_processes.specs.Threads.{AreThread}
use Rattle.prof_processes.specs.declared.tables.MarkerParts.{MarkerParts}
use Rattle.prof_processes.proofs.ThreadSlots as rows
use Rattle.prof_either.specs.Named.{either_name}
use Rattle.prof_either.specs.Threads.{AreEither}
use Rattle.prof_either.specs.declared.thread.EitherMember.{EitherMember}
use Rattle.prof_either.specs.declared.thread.EitherMember.TheVariants as member
use Rattle.prof_either.specs.declared.thread.EitherThread.{EitherThread}

-- the name
pub name_more : (v : Value) (old new : EitherThread) (name copy : Option (String Global)) → option_map string_bytes name ≡ string_of (Some v) → option_map string_bytes copy ≡ string_of (Some v) →
    new.named ≡ record old.named { name = name } → new.rows ≡ record old.rows { name = copy } →
    (ms : Members) → AreEither ms old → AreEither (snoc ms (codes "name") v) new
name_more v old new name copy is same e f ms h = record {
  named = rw e (slots.thread_more (codes "name") v old.named (record old.named { name = name }) (inl (refl, is)) (shared_stay (codes "name") v old.named.shared name-own) (inr (refl, refl)) (inr (refl, refl)) ms h.named);
  rows = rw f (rows.thread_more (codes "name") v old.rows (record old.rows { name = copy }) (inl (refl, same)) (inr (refl, refl)) (inr (refl, refl)) (inr (refl, refl)) (inr (refl, refl)) (inr (refl, refl)) ms h.rows);
}

-- the frames
pub frames_more : (v : Value) (old : EitherThread) (found : Found FrameTable) (table : TableCells) → IsFoundIn AreFrameColumns (Some v) found → table ≡ kept_table MOST_ROWS (frame_table (Some v)) →
    (ms : Members) → AreEither ms old →
    AreEither (snoc ms (codes "frameTable") v) (record old { named = record old.named { shared = record old.named.shared { frames = found } }; rows = record old.rows { frame = table } })
frames_more v old found table is kept ms h = record {
  named = slots.thread_more (codes "frameTable") v old.named (record old.named { shared = record old.named.shared { frames = found } }) (inr (refl, refl))
      (shared_more (codes "frameTable") v old.named.shared (record old.named.shared { frames = found }) (inr (refl, refl)) (inr (refl, refl)) (inr (refl, refl)) (inl (refl, is)) (inr (refl, refl)))
      (inr (refl, refl)) (inr (refl, refl)) ms h.named;
  rows = rows.thread_more (codes "frameTable") v old.rows (record old.rows { frame = table }) (inr (refl, refl)) (inr (refl, refl)) (inl (refl, kept)) (inr (refl, refl)) (inr (refl, refl)) (inr (refl, refl)) ms h.rows;
}

-- the stack rows
pub stacks_more : (v : Value) (old : EitherThread) (found : Found StackTable) (table : TableCells) → IsFoundIn AreStackColumns (Some v) found → table ≡ kept_table MOST_ROWS (stack_table (Some v)) →
    (ms : Members) → AreEither ms old →
    AreEither (snoc ms (codes "stackTable") v) (record old { named = record old.named { shared = record old.named.shared { stacks = found } }; rows = record old.rows { stack = table } })
stacks_more v old found table is kept ms h = record {
  named = slots.thread_more (codes "stackTable") v old.named (record old.named { shared = record old.named.shared { stacks = found } }) (inr (refl, refl))
      (shared_more (codes "stackTable") v old.named.shared (record old.named.shared { stacks = found }) (inr (refl, refl)) (inr (refl, refl)) (inr (refl, refl)) (inr (refl, refl)) (inl (refl, is)))
      (inr (refl, refl)) (inr (refl, refl)) ms h.named;
  rows = rows.thread_more (codes "stackTable") v old.rows (record old.rows { stack = table }) (inr (refl, refl)) (inr (refl, refl)) (inr (refl, refl)) (inl (refl, kept)) (inr (refl, refl)) (inr (refl, refl)) ms h.rows;
}

-- the samples
pub samples_more : (v : Value) (old : EitherThread) (found : Found SampleTable) (table : TableCells) → IsFoundIn AreSampleColumns (Some v) found → table ≡ kept_table MOST_SAMPLES (sample_table (Some v)) →
    (ms : Members) → AreEither ms old →
    AreEither (snoc ms (codes "samples") v) (record old { named = record old.named { samples = found }; rows = record old.rows { samples = table } })
samples_more v old found table is kept ms h = record {
  named = slots.thread_more (codes "samples") v old.named (record old.named { samples = found }) (inr (refl, refl)) (shared_stay (codes "samples") v old.named.shared samples-own) (inl (refl, is)) (inr (refl, refl)) ms h.named;
  rows = rows.thread_more (codes "samples") v old.rows (record old.rows { samples = table }) (inr (refl, refl)) (inr (refl, refl)) (inr (refl, refl)) (inr (refl, refl)) (inl (refl, kept)) (inr (refl, refl)) ms h.rows;
}

-- the markers
pub markers_more : (v : Value) (old : EitherThread) (found : Found MarkerTable) (parts : MarkerParts) → IsFoundIn AreMarkerColumns (Some v) found → AreMarkers (Some v) parts →
    (ms : Members) → AreEither ms old →
    AreEither (snoc ms (codes "markers") v) (record old { named = record old.named { markers = found }; rows = record old.rows { markers = parts } })
markers_more v old found parts is kept ms h = record {
  named = slots.thread_more (codes "markers") v old.named (record old.named { markers = found }) (inr (refl, refl)) (shared_stay (codes "markers") v old.named.shared markers-own) (inr (refl, refl)) (inl (refl, is)) ms h.named;
  rows = rows.thread_more (codes "markers") v old.rows (record old.rows { markers = parts }) (inr (refl, refl)) (inr (refl, refl)) (inr (refl, refl)) (inr (refl, refl)) (inr (refl, refl)) (inl (refl, kept)) ms h.rows;
}

-- ---- members of one form alone

strings-shared : (m : SharedMember) → same_text (codes "stringTable") (member_name m) ≡ false
strings-shared shared.Strings = refl
strings-shared shared.Resources = refl
strings-shared shared.Funcs = refl
strings-shared shared.Frames = refl
strings-shared shared.Stacks = refl

-- the strings of a Gecko profile's thread
pub strings_taken : (v : Value) (old new : EitherThread) → new.named ≡ old.named → ((ms : Members) → AreThread ms old.rows → AreThread (snoc ms (codes "stringTable") v) new.rows) →
    (ms : Members) → AreEither ms old → AreEither (snoc ms (codes "stringTable") v) new
strings_taken v old new same taken ms h = record {
  named = rw same (slots.thread_more (codes "stringTable") v old.named old.named (inr (refl, refl)) (shared_stay (codes "stringTable") v old.named.shared strings-shared) (inr (refl, refl)) (inr (refl, refl)) ms h.named);
  rows = taken ms h.rows;
}

-- a member that no Gecko profile's thread has
pub other_taken : (n : List ℕ) (v : Value) (old new : EitherThread) → new.rows ≡ old.rows → ((m : EitherMember) → same_text n (either_name m) ≡ false) →
    ((ms : Members) → members.AreThread ms old.named → members.AreThread (snoc ms n v) new.named) →
    (ms : Members) → AreEither ms old → AreEither (snoc ms n v) new
other_taken n v old new same other taken ms h = record {
  named = taken ms h.named;
  rows = rw same (rows.thread_more n v old.rows old.rows (inr (other member.Name, refl)) (inr (other member.Strings, refl)) (inr (other member.Frames, refl)) (inr (other member.Stacks, refl)) (inr (other member.Samples, refl)) (inr (other member.Markers, refl)) ms h.rows);
}
