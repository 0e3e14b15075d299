-- One more member of `meta` and of the whole text.
use Rattle.std.proofs.Common.{ℕ, List, sym, subst, inl, inr}
use Rattle.std.specs.Prelude.{codes}
use Rattle.prof_gather.specs.Taking.{IsFoundIn}
use Rattle.prof_grammar.specs.Value.{Value, Members, snoc}
use Rattle.prof_members.specs.Gathered.{AreShared, IsCategoryList}
use Rattle.prof_members.proofs.TableSlots.{HoldsPresence}
use Rattle.prof_processes.specs.Libs.{IsLibList, IsStart}
use Rattle.prof_gecko.specs.Gathered.{Entry}
use Rattle.prof_gecko_layout.specs.GeckoProfile.{below}
use Rattle.prof_processes.specs.Processes.{KeepEntries, child_entries}
use Rattle.prof_processes.specs.declared.process.Children.{Children}
use Rattle.prof_processes.proofs.Below.{below-same, below-other}
use Rattle.prof_processes.proofs.ProcessSlots.{GoesBelow}
use Rattle.prof_schema.proofs.Slots.{Goes, slot_after}
use Rattle.prof_either.specs.Parts.{AreMeta, AreParts}
use Rattle.prof_either.specs.Threads.{AreThreadLists}
use Rattle.prof_either.specs.declared.meta.EitherMeta.{EitherMeta}
use Rattle.prof_either.specs.declared.gathered.EitherParts.{EitherParts}

pub meta_more : (n : List ℕ) (v : Value) (old new : EitherMeta) →
    Goes HoldsPresence (codes "preprocessedProfileVersion") n v old.processed new.processed →
    Goes HoldsPresence (codes "version") n v old.version new.version →
    Goes IsCategoryList (codes "categories") n v old.categories new.categories →
    Goes IsStart (codes "startTime") n v old.start new.start →
    (ms : Members) → AreMeta ms old → AreMeta (snoc ms n v) new
meta_more n v old new processed version categories start ms h = record {
  processed = slot_after HoldsPresence (codes "preprocessedProfileVersion") n v old.processed new.processed processed ms h.processed;
  version = slot_after HoldsPresence (codes "version") n v old.version new.version version ms h.version;
  categories = slot_after IsCategoryList (codes "categories") n v old.categories new.categories categories ms h.categories;
  start = slot_after IsStart (codes "startTime") n v old.start new.start start ms h.start;
}

-- the processes below the root are those of the value, or those that were
below_after : (n : List ℕ) (v : Value) (before after : Children) → GoesBelow n v before after → (ms : Members) → KeepEntries (below ms) (child_entries before) → KeepEntries (below (snoc ms n v)) (child_entries after)
below_after n v before after g ms h = elim g [
  | inl t ↦ subst (λ (es : List Entry). KeepEntries es (child_entries after)) (sym (below-same ms n v t.0)) t.1
  | inr s ↦ subst (λ (es : List Entry). KeepEntries es (child_entries after)) (sym (below-other ms n v s.0)) (subst (λ (c : Children). KeepEntries (below ms) (child_entries c)) (sym s.1) h)
]

pub parts_more : (n : List ℕ) (v : Value) (old new : EitherParts) →
    Goes (IsFoundIn AreMeta) (codes "meta") n v old.meta new.meta →
    Goes (IsFoundIn AreShared) (codes "shared") n v old.shared new.shared →
    Goes IsLibList (codes "libs") n v old.libs new.libs →
    Goes AreThreadLists (codes "threads") n v old.threads new.threads →
    GoesBelow n v old.children new.children →
    (ms : Members) → AreParts ms old → AreParts (snoc ms n v) new
parts_more n v old new meta shared libs threads children ms h = record {
  meta = slot_after (IsFoundIn AreMeta) (codes "meta") n v old.meta new.meta meta ms h.meta;
  shared = slot_after (IsFoundIn AreShared) (codes "shared") n v old.shared new.shared shared ms h.shared;
  libs = slot_after IsLibList (codes "libs") n v old.libs new.libs libs ms h.libs;
  threads = slot_after AreThreadLists (codes "threads") n v old.threads new.threads threads ms h.threads;
  children = below_after n v old.children new.children children ms h.children;
}
