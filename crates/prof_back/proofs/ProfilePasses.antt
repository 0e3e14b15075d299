-- The value that is written of a profile breaks no rule.
use Rattle.std.proofs.Common.{◌≡◌, ◌∙◌, ℕ, suc, ◌≤◌, List, [], ◌∷◌, Option, None, Some, length, refl, sym, ap, subst, arith, true}
use Rattle.std.specs.Prelude.{map, slice_get}
use Rattle.std.specs.List.{AllByRecursion}
use Rattle.prof_grammar.specs.Value.{Value}
use Rattle.prof_raw.specs.declared.limits.TheConstants.{MOST_THREADS}
use Rattle.prof_raw.specs.declared.rule.Broken.{Broken}
use Rattle.prof_raw.specs.declared.rule.Table.TheVariants as table
use Rattle.prof_raw.specs.declared.rule.Column.TheVariants as column
use Rattle.prof_raw.specs.Cells.{OwnCells, SharedCells}
use Rattle.prof_raw.specs.Checks.{named, own_broken, shared_broken, thread_broken}
use Rattle.prof_tables.specs.Profiles.{ProfileTables, CountsIn}
use Rattle.prof_tables.specs.Threads.{ThreadTables}
use Rattle.prof_tables.specs.Ties.{IsShared, AreOwn}
use Rattle.prof_tables.proofs.RowLemmas.{all_at}
use Rattle.prof_layout.specs.Lists.{is_object, list_fault}
use Rattle.prof_layout.specs.Profile.{base_broken, broken, category_names, checks, first_thread, is_shared, processed_broken, thread_fails, threads_broken}
use Rattle.prof_layout.specs.Tables.{raw_own, raw_thread}
use Rattle.prof_write.specs.Written.{profile_value, thread_value}
use Rattle.prof_back.specs.Texts.{IsKept, IsThread}
use Rattle.prof_back.proofs.Categories.{categories_pass, category_names_back}
use Rattle.prof_back.proofs.Columns.{items_back, length_map, list_passes}
use Rattle.prof_back.proofs.Frames.{number_told}
use Rattle.prof_back.proofs.OwnPasses.{own_whole}
use Rattle.prof_back.proofs.OwnTold.{own_raw, own_told}
use Rattle.prof_back.proofs.Passing.{checks_pass, none_or}
use Rattle.prof_back.proofs.SharedPasses.{shared_whole}
use Rattle.prof_back.proofs.SharedTold.{shared_raw, shared_told}

-- ---- a thread

abbrev Passes : ℕ → ℕ → SharedCells → OwnCells → Type 0
Passes number categories shared own = thread_broken number categories (record { shared = shared; own = own }) ≡ None

told_passes : (number : ℕ) (t : ThreadTables) → IsShared t.shared → AreOwn t → Passes number t.shared.categories (shared_told t.shared) (own_told t)
told_passes number t kept own =
    let rows = length (map number_told t.shared.stack_frames) in
    none_or (shared_broken (Some number) t.shared.categories (shared_told t.shared)) (own_broken (Some number) (length t.shared.strings) rows (own_told t))
    (shared_whole (Some number) t.shared kept)
    (own_whole (Some number) t rows (length_map number_told t.shared.stack_frames ∙ kept.frames.many) own)

thread_passes : (number : ℕ) (t : ThreadTables) → IsShared t.shared → AreOwn t → t.shared.categories ≤ 65536 → thread_broken number t.shared.categories (raw_thread None (thread_value t)) ≡ None
thread_passes number t kept own few =
    let P : SharedCells → Type 0 = λ s. Passes number t.shared.categories s (raw_own (thread_value t)) in
    let Q : OwnCells → Type 0 = λ o. Passes number t.shared.categories (shared_told t.shared) o in
    subst P (sym (shared_raw t kept few)) (subst Q (sym (own_raw t kept.tied own)) (told_passes number t kept own))

-- ---- the threads

threads_pass : (fails : ℕ → Value → Option Broken) (from : ℕ) (threads : List ThreadTables) →
    ((number i : ℕ) (t : ThreadTables) → slice_get threads i ≡ Some t → fails number (thread_value t) ≡ None) → first_thread fails from (map thread_value threads) ≡ None
threads_pass fails from [] h = refl
threads_pass fails from (t ∷ threads) h =
    none_or (fails from (thread_value t)) (first_thread fails (suc from) (map thread_value threads)) (h from 0 t refl)
    (threads_pass fails (suc from) threads (λ number i s e. h number (suc i) s e))

thread_fits : (p : ProfileTables) → IsKept p → length p.categories ≤ 65536 → (number i : ℕ) (t : ThreadTables) → slice_get p.threads i ≡ Some t →
    thread_fails (profile_value p) number (thread_value t) ≡ None
unfolding thread_fails is_shared
thread_fits p kept few number i t e =
    let counts : CountsIn (length p.categories) p.default t = all_at (CountsIn (length p.categories) p.default) p.threads i t kept.profile.threads e in
    let same : t.shared.categories ≡ length p.categories = counts.0 in
    let is : IsThread t = all_at IsThread p.threads i t kept.threads e in
    let many : length (category_names (profile_value p)) ≡ t.shared.categories = ap length (category_names_back p kept.profile.default) ∙ sym same in
    let P : ℕ → Type 0 = λ n. thread_broken number n (raw_thread None (thread_value t)) ≡ None in
    subst P (sym many) (thread_passes number t is.shared is.own (omega arith))

all_fit : (p : ProfileTables) → IsKept p → length p.categories ≤ 65536 → first_thread (thread_fails (profile_value p)) 0 (map thread_value p.threads) ≡ None
all_fit p kept few = threads_pass (thread_fails (profile_value p)) 0 p.threads (thread_fits p kept few)

all_objects : (threads : List ThreadTables) → AllByRecursion (λ v. is_object v ≡ true) (map thread_value threads)
all_objects [] = tt
all_objects (t ∷ threads) = (refl, all_objects threads)

list_whole : (p : ProfileTables) → IsKept p → threads_broken (profile_value p) ≡ None
unfolding threads_broken
list_whole p kept =
    let rows = map thread_value p.threads in
    let many = length_map thread_value p.threads in
    let few : length p.threads ≤ 1024 = kept.profile.few in
    ap (named None table.Threads column.List) (ap (list_fault is_object MOST_THREADS) (items_back rows) ∙ list_passes is_object MOST_THREADS rows (omega arith) (all_objects p.threads))

-- ---- the profile

base_whole : (p : ProfileTables) → base_broken (profile_value p) ≡ None
unfolding base_broken is_shared
base_whole p = refl

pub profile_passes : (p : ProfileTables) → IsKept p → length p.categories ≤ 65536 → broken (profile_value p) ≡ None
unfolding broken processed_broken
profile_passes p kept few =
    checks_pass (checks (profile_value p))
    (categories_pass p few, (base_whole p, (list_whole p kept, (ap (first_thread (thread_fails (profile_value p)) 0) (items_back (map thread_value p.threads)) ∙ all_fit p kept few, tt))))
