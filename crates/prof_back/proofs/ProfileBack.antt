-- The text that is written of a profile stands for an equal profile.
use Rattle.std.proofs.Common.{◌≡◌, ◌∙◌, ℕ, suc, ◌≤◌, List, [], ◌∷◌, None, Some, length, refl, sym, ap, arith}
use Rattle.std.specs.Prelude.{map, slice_get}
use Rattle.prof_grammar.specs.Value.{Value}
use Rattle.prof_grammar.specs.declared.TheConstants.{LONGEST}
use Rattle.prof_raw.specs.declared.raw.Unit.{Unit as WeightUnit}
use Rattle.prof_tables.specs.declared.rows.SampleRow.{SampleRow}
use Rattle.prof_tables.specs.Profiles.{ProfileTables, CountsIn}
use Rattle.prof_tables.specs.Rows.{markers_of, samples_of, shared_of, unit_of}
use Rattle.prof_tables.specs.Threads.{SharedTables, ThreadTables}
use Rattle.prof_tables.proofs.RowLemmas.{all_at}
use Rattle.prof_layout.specs.Profile.{Stands, category_names, default_category, is_shared, profile_of, thread_tables}
use Rattle.prof_layout.specs.Tables.{raw_own, raw_tables}
use Rattle.prof_write.specs.Compact.{compact}
use Rattle.prof_write.specs.Written.{profile_value, thread_value}
use Rattle.prof_back.specs.Equal.{AreEqual, MarkerWithTexts, ProfileWithTexts, ThreadWithTexts, profile_with_texts, rows_with_texts, thread_with_texts}
use Rattle.prof_back.specs.Texts.{IsKept, IsThread}
use Rattle.prof_back.proofs.Categories.{category_names_back, default_back}
use Rattle.prof_back.proofs.Columns.{items_back}
use Rattle.prof_back.proofs.MarkersBack.{markers_back}
use Rattle.prof_back.proofs.ProfilePasses.{profile_passes}
use Rattle.prof_back.proofs.Samples.{name_back, samples_back, unit_of_back}
use Rattle.prof_back.proofs.TablesBack.{tables_back}
use Rattle.prof_back.proofs.Told.{value_told}
use Rattle.prof_back.proofs.Written.{profile_writable}

-- ---- a thread

same_thread : (t : ThreadWithTexts) (shared : SharedTables) (name : List ℕ) (unit : WeightUnit) (samples : List SampleRow) (markers : List MarkerWithTexts) →
    shared ≡ t.shared → name ≡ t.name → unit ≡ t.unit → samples ≡ t.samples → markers ≡ t.markers →
    (let r : ThreadWithTexts = record { shared = shared; name = name; unit = unit; samples = samples; markers = markers } in r) ≡ t
same_thread t shared name unit samples markers a b c d e = rw (a, b, c, d, e) refl

counted_back : (t : ThreadTables) (categories default : ℕ) → IsThread t → categories ≡ t.shared.categories → default ≡ t.shared.default → categories ≤ 65536 →
    shared_of categories default (raw_tables None (thread_value t)) ≡ t.shared
counted_back t categories default is many first few =
    ap (λ (n : ℕ). shared_of n default (raw_tables None (thread_value t))) many
    ∙ (ap (λ (n : ℕ). shared_of t.shared.categories n (raw_tables None (thread_value t))) first
    ∙ tables_back t is.shared (omega arith))

thread_back : (p : ProfileTables) → IsKept p → length p.categories ≤ 65536 → (i : ℕ) (t : ThreadTables) → slice_get p.threads i ≡ Some t →
    thread_with_texts (thread_tables (profile_value p) (thread_value t)) ≡ thread_with_texts t
unfolding thread_tables is_shared
thread_back p kept few i t e =
    let counts : CountsIn (length p.categories) p.default t = all_at (CountsIn (length p.categories) p.default) p.threads i t kept.profile.threads e in
    let is : IsThread t = all_at IsThread p.threads i t kept.threads e in
    let raw = raw_own (thread_value t) in
    let names : category_names (profile_value p) ≡ p.categories = category_names_back p kept.profile.default in
    let many : length (category_names (profile_value p)) ≡ t.shared.categories = ap length names ∙ sym counts.0 in
    let first : default_category (profile_value p) ≡ t.shared.default = default_back p kept.profile.default ∙ sym counts.1 in
    let same : t.shared.categories ≡ length p.categories = counts.0 in
    let bound : length (category_names (profile_value p)) ≤ 65536 = omega arith in
    same_thread (thread_with_texts t) (shared_of (length (category_names (profile_value p))) (default_category (profile_value p)) (raw_tables None (thread_value t)))
    raw.name (unit_of raw.unit) (samples_of raw) (rows_with_texts (markers_of raw))
    (counted_back t (length (category_names (profile_value p))) (default_category (profile_value p)) is many first bound)
    (name_back t) (unit_of_back t) (samples_back t is.shared.tied is.own) (markers_back t is)

-- ---- the threads

threads_back : (read : Value → ThreadTables) (threads : List ThreadTables) →
    ((i : ℕ) (t : ThreadTables) → slice_get threads i ≡ Some t → thread_with_texts (read (thread_value t)) ≡ thread_with_texts t) →
    map thread_with_texts (map read (map thread_value threads)) ≡ map thread_with_texts threads
threads_back read [] h = refl
threads_back read (t ∷ threads) h =
    ap (λ (r : ThreadWithTexts). r ∷ map thread_with_texts (map read (map thread_value threads))) (h 0 t refl)
    ∙ ap (λ (l : List ThreadWithTexts). thread_with_texts t ∷ l) (threads_back read threads (λ i s e. h (suc i) s e))

-- ---- the profile

same_profile : (p : ProfileWithTexts) (threads : List ThreadWithTexts) (categories : List (List ℕ)) (default : ℕ) → threads ≡ p.threads → categories ≡ p.categories → default ≡ p.default →
    (let r : ProfileWithTexts = record { threads = threads; categories = categories; default = default } in r) ≡ p
same_profile p threads categories default a b c = rw (a, b, c) refl

equal_back : (p : ProfileTables) → IsKept p → length p.categories ≤ 65536 → AreEqual (profile_of (profile_value p)) p
unfolding profile_of
equal_back p kept few =
    let read : Value → ThreadTables = thread_tables (profile_value p) in
    let rows = map thread_value p.threads in
    let threads = ap (λ (vs : List Value). map thread_with_texts (map read vs)) (items_back rows) ∙ threads_back read p.threads (thread_back p kept few) in
    same_profile (profile_with_texts p) _ (category_names (profile_value p)) (default_category (profile_value p))
    threads (category_names_back p kept.profile.default) (default_back p kept.profile.default)

pub profile_back : (p : ProfileTables) → IsKept p → length p.categories ≤ 65536 → length (compact (profile_value p)) ≤ LONGEST →
    (q : ProfileTables) × (Stands (compact (profile_value p)) q × AreEqual q p)
profile_back p kept few short =
    let v = profile_value p in
    (profile_of v, (record { value = v; reads = value_told v (profile_writable p kept few) short; whole = profile_passes p kept few; is = refl }, equal_back p kept few))
