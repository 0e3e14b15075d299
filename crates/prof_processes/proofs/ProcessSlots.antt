-- One more member of a process.
use Rattle.std.proofs.Common.{◌≡◌, ℕ, List, true, false, sym, subst, inl, inr, ◌⊎◌}
use Rattle.std.specs.Prelude.{codes}
use Rattle.prof_grammar.specs.Value.{Value, Members, snoc, same_text}
use Rattle.prof_gather.specs.Taking.{IsFoundIn}
use Rattle.prof_gecko.specs.Gathered.{Entry}
use Rattle.prof_gecko_layout.specs.GeckoProfile.{below, listed}
use Rattle.prof_schema.proofs.Slots.{Goes, slot_after}
use Rattle.prof_processes.specs.Libs.{IsLibList, IsMeta}
use Rattle.prof_processes.specs.Processes.{KeepEntries, IsThreadList, AreProcessMembers, child_entries}
use Rattle.prof_processes.specs.declared.process.Children.{Children}
use Rattle.prof_processes.specs.declared.process.ProcessMembers.{ProcessMembers}
use Rattle.prof_processes.proofs.Below.{below-same, below-other}

-- the processes below are those of the value, or those that were
abbrev pub GoesBelow : List ℕ → Value → Children → Children → Type 0
GoesBelow n v before after = ((same_text n (codes "processes") ≡ true) × KeepEntries (listed v) (child_entries after)) ⊎ ((same_text n (codes "processes") ≡ false) × (after ≡ before))

below_after : (n : List ℕ) (v : Value) (before after : Children) → GoesBelow n v before after → (ms : Members) → KeepEntries (below ms) (child_entries before) → KeepEntries (below (snoc ms n v)) (child_entries after)
below_after n v before after g ms h = elim g [
  | inl t ↦ subst (λ (es : List Entry). KeepEntries es (child_entries after)) (sym (below-same ms n v t.0)) t.1
  | inr s ↦ subst (λ (es : List Entry). KeepEntries es (child_entries after)) (sym (below-other ms n v s.0)) (subst (λ (c : Children). KeepEntries (below ms) (child_entries c)) (sym s.1) h)
]

pub process_more : (n : List ℕ) (v : Value) (old new : ProcessMembers) →
    Goes (IsFoundIn IsMeta) (codes "meta") n v old.meta new.meta →
    Goes IsLibList (codes "libs") n v old.libs new.libs →
    Goes IsThreadList (codes "threads") n v old.threads new.threads →
    GoesBelow n v old.children new.children →
    (ms : Members) → AreProcessMembers ms old → AreProcessMembers (snoc ms n v) new
process_more n v old new meta libs threads children ms h = record {
  meta = slot_after (IsFoundIn IsMeta) (codes "meta") n v old.meta new.meta meta ms h.meta;
  libs = slot_after IsLibList (codes "libs") n v old.libs new.libs libs ms h.libs;
  threads = slot_after IsThreadList (codes "threads") n v old.threads new.threads threads ms h.threads;
  children = below_after n v old.children new.children children ms h.children;
}
