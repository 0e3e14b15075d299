-- What a thread fails and stands for, by what is kept of it.
use Rattle.std.proofs.Common.{◌≡◌, ℕ, ◌≤◌, Option, Some, None, IfSome, List, true, false, length, refl, sym, ◌∙◌, ap}
use Rattle.prof_raw.specs.declared.limits.TheConstants.{MOST_STRINGS}
use Rattle.std.specs.Prelude.{codes}
use Rattle.std.specs.Option.{option_map}
use Rattle.prof_grammar.specs.Value.{Value, Members, last_named}
use Rattle.prof_raw.specs.Cells.{ThreadCells, SharedCells, OwnCells}
use Rattle.prof_tables.specs.Threads.{SharedTables}
use Rattle.prof_raw.specs.Checks.{own_broken, thread_broken}
use Rattle.prof_tables.specs.Rows.{shared_of, thread_of}
use Rattle.prof_layout.specs.Kept.{kept_shared, kept_own, kept_thread}
use Rattle.prof_layout.specs.Tables.{shared_over, over_strings, raw_tables, raw_own, raw_thread}
use Rattle.prof_layout.specs.Profile.{is_shared, shared_tables, common_member, common_of, category_names, base_broken, thread_fails, thread_tables}
use Rattle.prof_layout.proofs.Checking.{common-few}
use Rattle.prof_layout.proofs.KeptFrom.{raw_tables-is}
use Rattle.prof_layout.proofs.KeptValue.{own_breaks, own_stands, thread_breaks, thread_stands}
use Rattle.prof_read.specs.Raw.{counting_texts, counting_fault}
use Rattle.std.specs.declared.rc.Rc.{Rc}
use Rattle.std.specs.declared.alloc.Global.{Global}
use Rattle.prof_raw.specs.declared.strings.Strings.{Strings}
use Rattle.prof_tables.specs.declared.shared.Shared.{Shared}
use Rattle.prof_read.specs.declared.building.Base.{Base}
use Rattle.prof_read.specs.declared.building.Base.TheVariants as base
use Rattle.std.specs.Prelude.{Result, Ok, Err}
use Rattle.prof_tables.specs.declared.refusal.BuildRefusal.{BuildRefusal}
use Rattle.prof_tables.specs.declared.refusal.BuildRefusal.TheVariants as built
use Rattle.prof_read.specs.Refusals.{unbuilt}
use Rattle.std.specs.Result.{IfErr, IsErrAnd}
use Rattle.prof_read.specs.declared.refusal.ReadRefusal.{ReadRefusal}
use Rattle.prof_read.specs.declared.refusal.ReadRefusal.TheVariants as refusal
use Rattle.prof_read.specs.Bases.{AreCounts, IsBaseOf, IsBuilding}
use Rattle.prof_read.proofs.Standing.{base_by_strings}

over_counting : (common : Option (List (List ℕ))) (own : Option Value) (v : Value) → over_strings common own v ≡ shared_over (counting_texts common own) (counting_fault common own) v
over_counting None own v = refl
over_counting (Some strings) None v = refl
over_counting (Some strings) (Some w) v = refl

-- the raw tables over the strings that count
pub tables_counting : (common : Option (List (List ℕ))) (ms : Members) →
    kept_shared (shared_over (counting_texts common (last_named (codes "stringArray") ms)) (counting_fault common (last_named (codes "stringArray") ms)) (Value.object ms)) ≡ kept_shared (raw_tables common (Value.object ms))
tables_counting common ms =
    let own = last_named (codes "stringArray") ms in
    let same : shared_over (counting_texts common own) (counting_fault common own) (Value.object ms) ≡ raw_tables common (Value.object ms) = sym (over_counting common own (Value.object ms)) ∙ sym (raw_tables-is common (Value.object ms)) in
    rw same refl

-- the raw thread of its parts
pub thread_counting : (common : Option (List (List ℕ))) (thread : Value) (tables : SharedCells) (own : OwnCells) → tables ≡ kept_shared (raw_tables common thread) → own ≡ kept_own thread →
    ◌≡◌ {A = ThreadCells} (record { shared = tables; own = own }) (kept_thread common thread)
thread_counting common thread tables own e f = rw (e, f) refl

-- the common strings of a value of which nothing breaks so far
pub few_common : (v : Value) → is_shared v ≡ false → base_broken v ≡ None → IfSome (common_of (common_member v)) (λ strings. length strings ≤ MOST_STRINGS)
few_common v apart whole = common-few (common_member v) (sym (base_by_strings v apart) ∙ whole)

-- ---- a thread with tables of its own

pub own_fails : (v thread : Value) (number categories default : ℕ) (raw : ThreadCells) → AreCounts v categories default → is_shared v ≡ false → base_broken v ≡ None → raw ≡ kept_thread (common_of (common_member v)) thread →
    thread_broken number categories raw ≡ thread_fails v number thread
unfolding thread_fails
own_fails v thread number categories default raw counts apart whole is =
    rw (apart, is, counts.categories_are) (thread_breaks number (length (category_names v)) (common_of (common_member v)) thread (few_common v apart whole))

pub own_tables : (v thread : Value) (number categories default : ℕ) (raw : ThreadCells) → AreCounts v categories default → is_shared v ≡ false → base_broken v ≡ None → raw ≡ kept_thread (common_of (common_member v)) thread →
    thread_broken number categories raw ≡ None → thread_of (shared_of categories default (raw.shared)) (raw.own) ≡ thread_tables v thread
unfolding thread_tables
own_tables v thread number categories default raw counts apart whole is none =
    let common = common_of (common_member v) in
    let few = few_common v apart whole in
    let passes : thread_broken number categories (raw_thread common thread) ≡ None = sym (thread_breaks number categories common thread few) ∙ ap (thread_broken number categories) (sym is) ∙ none in
    rw (is, apart, ← counts.categories_are, ← counts.default_is) (thread_stands number categories default common thread few passes)

-- ---- a thread on shared tables

pub shared_fails : (v thread : Value) (number : ℕ) (shared : SharedTables) (raw : OwnCells) → is_shared v ≡ true → shared ≡ shared_tables v → raw ≡ kept_own thread →
    own_broken (Some number) (length shared.strings) (length shared.stacks) raw ≡ thread_fails v number thread
unfolding thread_fails
shared_fails v thread number shared raw on is own = rw (on, own, is) (own_breaks (Some number) (length (shared_tables v).strings) (length (shared_tables v).stacks) thread)

tables_on : (v thread : Value) → is_shared v ≡ true → thread_of (shared_tables v) (raw_own thread) ≡ thread_tables v thread
unfolding thread_tables
tables_on v thread on = rw on refl

pub shared_stands_on : (v thread : Value) (number : ℕ) (shared : SharedTables) (raw : OwnCells) → is_shared v ≡ true → shared ≡ shared_tables v → raw ≡ kept_own thread →
    own_broken (Some number) (length shared.strings) (length shared.stacks) raw ≡ None → thread_of shared raw ≡ thread_tables v thread
shared_stands_on v thread number shared raw on is own none =
    let passes : own_broken (Some number) (length shared.strings) (length shared.stacks) (raw_own thread) ≡ None =
    sym (own_breaks (Some number) (length shared.strings) (length shared.stacks) thread) ∙ ap (own_broken (Some number) (length shared.strings) (length shared.stacks)) (sym own) ∙ none in
    ap (thread_of shared) own
    ∙ own_stands (Some number) (length shared.strings) (length shared.stacks) shared thread passes
    ∙ ap (λ (s : SharedTables). thread_of s (raw_own thread)) is
    ∙ tables_on v thread on

-- ---- the base

pub own_base : (v : Value) (b : Base) (common : Option (Rc Strings Global)) → b ≡ base.Own common → IsBaseOf v b → (is_shared v ≡ false) × (option_map (λ s. s.value) common ≡ common_of (common_member v))
own_base v b common e h = rw e at h

pub shared_base : (v : Value) (b : Base) (shared : Rc Shared Global) → b ≡ base.Shared shared → IsBaseOf v b → (is_shared v ≡ true) × (shared.value ≡ shared_tables v)
shared_base v b shared e h = rw e at h

-- want of memory is an end of building
pub building_memory : {X : Type 0} (r : Result X ReadRefusal) → IsErrAnd r (λ e. e ≡ refusal.NoMemory) → IfErr r IsBuilding
building_memory (Ok x) h = tt
building_memory (Err e) h = rw h tt

-- so is each refusal of a build
pub building_unbuilt : {X : Type 0} (refused : BuildRefusal) (r : Result X ReadRefusal) → IsErrAnd r (λ e. e ≡ unbuilt refused) → IfErr r IsBuilding
building_unbuilt refused (Ok x) h = tt
building_unbuilt (built.Broken broken) (Err e) h = rw h tt
building_unbuilt built.NoMemory (Err e) h = rw h tt
