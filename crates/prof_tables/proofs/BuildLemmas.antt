-- A build in two parts.
use Rattle.std.proofs.Common.{◌≡◌, ℕ, length, Option, None, Some, Result, ◌∙◌, ap}
use Rattle.std.specs.Option.{option_or}
use Rattle.prof_raw.specs.declared.rule.Broken.{Broken}
use Rattle.prof_tables.specs.declared.refusal.BuildRefusal.{BuildRefusal}
use Rattle.prof_tables.specs.Builds.{Builds}
use Rattle.prof_raw.specs.Cells.{SharedCells, OwnCells}
use Rattle.prof_raw.specs.Checks.{shared_broken, own_broken, thread_broken}
use Rattle.prof_tables.specs.Rows.{shared_of, thread_of}
use Rattle.prof_tables.specs.Threads.{SharedTables, ThreadTables}
use Rattle.prof_tables.proofs.RowLemmas.{length-stacks_of}

after_first : {X Y : Type 0} (view : X → Y) (r : Result X BuildRefusal) (a b c : Option Broken) (w z : Y) → a ≡ None → b ≡ c → w ≡ z → Builds view r b w → Builds view r (option_or a c) z
after_first view r a b c w z ea eb ew h = rw (ea, ← eb, ← ew) h

-- the shared tables were built, and the thread on them as this says
pub builds_thread : {X : Type 0} (view : X → ThreadTables) (r : Result X BuildRefusal) (number categories default : ℕ) (shared : SharedCells) (own : OwnCells) (tables : SharedTables) →
    (shared_broken (Some number) categories shared ≡ None) × (tables ≡ shared_of categories default shared) →
    Builds view r (own_broken (Some number) (length tables.strings) (length tables.stacks) own) (thread_of tables own) →
    Builds view r (thread_broken number categories (record { shared = shared; own = own })) (thread_of (shared_of categories default shared) own)
builds_thread view r number categories default shared own tables s h =
    let texts : length tables.strings ≡ length shared.strings = ap (λ (t : SharedTables). length t.strings) s.1 in
    let many : length tables.stacks ≡ length shared.stack_frame.cells = ap (λ (t : SharedTables). length t.stacks) s.1 ∙ length-stacks_of default shared in
    after_first view r (shared_broken (Some number) categories shared) (own_broken (Some number) (length tables.strings) (length tables.stacks) own) (own_broken (Some number) (length shared.strings) (length shared.stack_frame.cells) own)
    (thread_of tables own) (thread_of (shared_of categories default shared) own)
    s.0
    (ap (λ (n : ℕ). own_broken (Some number) n (length tables.stacks) own) texts ∙ ap (λ (n : ℕ). own_broken (Some number) (length shared.strings) n own) many)
    (ap (λ (t : SharedTables). thread_of t own) s.1)
    h
