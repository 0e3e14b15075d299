-- What is kept of a Gecko profile's processes breaks what all of them break, and stands for the same threads where nothing
-- breaks.
use Rattle.std.proofs.Common.{◌≡◌, ℕ, suc, ◌+◌, Option, None, Some, List, [], ◌∷◌, ◌++◌, length, map, refl, sym, ◌∙◌, ap, arith, subst}
use Rattle.std.specs.Prelude.{codes, ℤ, ◌-ℤ◌}
use Rattle.std.specs.Option.{option_or, option_map}
use Rattle.std.proofs.lemmas.List.{take_all, length-map}
use Rattle.prof_raw.specs.declared.column.Size.TheVariants.{AtMost}
use Rattle.prof_raw.specs.declared.limits.TheConstants.{MOST_THREADS}
use Rattle.prof_raw.specs.declared.rule.Broken.{Broken}
use Rattle.prof_raw.specs.declared.rule.Column.TheVariants as column
use Rattle.prof_raw.specs.declared.rule.ListFault.{ListFault}
use Rattle.prof_raw.specs.declared.rule.Rule.{Rule}
use Rattle.prof_raw.specs.declared.rule.Table.TheVariants as table
use Rattle.prof_raw.specs.Checks.{first_of, named}
use Rattle.prof_raw.specs.Rules.{whole_fault, size_rule}
use Rattle.prof_raw.proofs.FirstRowLemmas.{or_none, map_none}
use Rattle.prof_tables.specs.Profiles.{ProfileTables}
use Rattle.prof_tables.specs.Threads.{ThreadTables}
use Rattle.prof_grammar.specs.Value.{Value, field}
use Rattle.prof_layout.specs.Lists.{is_object, items_of, needed_list_fault}
use Rattle.prof_layout.proofs.Kept.{or_same, all_pass}
use Rattle.prof_layout.proofs.KeptValue.{needed_few}
use Rattle.prof_gecko.specs.Gathered.{Lib, GeckoCells, ProcessCells, Entry, process, fault}
use Rattle.prof_gecko.specs.Converted.{gecko_thread}
use Rattle.prof_gecko.specs.Checks.{gecko_thread_broken}
use Rattle.prof_gecko.specs.Processes.{first_thread, head_checks, head_broken, threads_broken, process_broken, process_threads, entries_broken, entries_threads, root_start, profile_broken, profile_of}
use Rattle.prof_gecko.proofs.Passes.{named_back}
use Rattle.prof_gecko_layout.specs.GeckoTables.{gecko_cells}
use Rattle.prof_gecko_layout.specs.GeckoProfile.{process_cells, start_member, start_rule, libs_fault, profile_cells}
use Rattle.prof_column.specs.Kept.{kept_items}
use Rattle.prof_processes.specs.Processes.{IsProcess, KeepEntries}
use Rattle.prof_processes.specs.Threads.{kept_cells}
use Rattle.prof_either.proofs.KeptCells.{thread_kept, thread_whole}

-- ---- threads one after another

threads_kept : (categories : ℕ) (libs : List Lib) (shift : ℤ) (number : ℕ) (vs : List Value) →
    first_thread (λ k g. gecko_thread_broken k categories libs shift g) number (map kept_cells vs) ≡ first_thread (λ k g. gecko_thread_broken k categories libs shift g) number (map gecko_cells vs)
threads_kept categories libs shift number [] = refl
threads_kept categories libs shift number (v ∷ vs) =
    or_same _ _ _ _ (thread_kept number categories libs shift v) (λ none. threads_kept categories libs shift (suc number) vs)

threads_whole : (categories default : ℕ) (libs : List Lib) (shift : ℤ) (number : ℕ) (vs : List Value) →
    first_thread (λ k g. gecko_thread_broken k categories libs shift g) number (map gecko_cells vs) ≡ None →
    map (gecko_thread categories default libs shift) (map kept_cells vs) ≡ map (gecko_thread categories default libs shift) (map gecko_cells vs)
threads_whole categories default libs shift number [] none = refl
threads_whole categories default libs shift number (v ∷ vs) none =
    let both = or_none (gecko_thread_broken number categories libs shift (gecko_cells v)) _ none in
    ap (λ (t : ThreadTables). t ∷ map (gecko_thread categories default libs shift) (map kept_cells vs)) (thread_whole number categories default libs shift v both.0)
    ∙ ap (λ (ts : List ThreadTables). gecko_thread categories default libs shift (gecko_cells v) ∷ ts) (threads_whole categories default libs shift (suc number) vs both.1)

-- ---- a process

abbrev threads_in : Value → Option Value
threads_in v = field (codes "threads") v

whole_fault_none : (o : Option Rule) → option_map whole_fault o ≡ None → o ≡ None
whole_fault_none o h = map_none whole_fault o h

-- where the list of threads breaks nothing, all of them are kept
kept_all : (v : Value) → needed_list_fault is_object MOST_THREADS (threads_in v) ≡ None → kept_items MOST_THREADS (threads_in v) ≡ items_of (threads_in v)
kept_all v none =
    let few = needed_few is_object MOST_THREADS (threads_in v) none in
    take_all (suc MOST_THREADS) (items_of (threads_in v)) (omega (arith, few))

threads_are : (v : Value) (q : ProcessCells) → IsProcess v q → needed_list_fault is_object MOST_THREADS (threads_in v) ≡ None → q.threads ≡ map kept_cells (items_of (threads_in v))
threads_are v q is none = is.threads ∙ ap (λ (vs : List Value). map kept_cells vs) (kept_all v none)

pub threads_count : (v : Value) (q : ProcessCells) → IsProcess v q → needed_list_fault is_object MOST_THREADS (threads_in v) ≡ None → length q.threads ≡ length (process_cells v).threads
unfolding process_cells
threads_count v q is none =
    ap (λ (ts : List GeckoCells). length ts) (threads_are v q is none)
    ∙ length-map (items_of (threads_in v)) kept_cells
    ∙ sym (length-map (items_of (threads_in v)) gecko_cells)

-- what the head of a process needs
record HeadPasses (v : Value) : Type 0 where
  start : start_rule (start_member v) ≡ None
  libs : libs_fault (field (codes "libs") v) ≡ None
  threads : needed_list_fault is_object MOST_THREADS (threads_in v) ≡ None

head_passes : (number : ℕ) (v : Value) → head_broken number (process_cells v) ≡ None → HeadPasses v
unfolding head_broken process_cells
head_passes number v none =
    let all = all_pass (head_checks number (process_cells v)) none in
    record {
      start = whole_fault_none (start_rule (start_member v)) (named_back None table.Meta column.StartTime (option_map whole_fault (start_rule (start_member v))) all.0);
      libs = named_back None table.Libs column.List (libs_fault (field (codes "libs") v)) all.1.0;
      threads = named_back None table.Threads column.List (needed_list_fault is_object MOST_THREADS (threads_in v)) all.1.1.0;
    }

start_is : (v : Value) → start_rule (start_member v) ≡ (process_cells v).start_fault
unfolding process_cells
start_is v = refl

libs_are : (v : Value) → libs_fault (field (codes "libs") v) ≡ (process_cells v).libs_fault
unfolding process_cells
libs_are v = refl

threads_fault_is : (v : Value) → needed_list_fault is_object MOST_THREADS (threads_in v) ≡ (process_cells v).threads_fault
unfolding process_cells
threads_fault_is v = refl

head_kept : (number : ℕ) (v : Value) (q : ProcessCells) → IsProcess v q → head_broken number q ≡ head_broken number (process_cells v)
unfolding head_broken
head_kept number v q is =
    or_same _ _ _ _ (ap (λ o. named None table.Meta column.StartTime (option_map whole_fault o)) (is.start_fault ∙ start_is v)) (λ none.
    or_same _ _ _ _ (ap (λ o. named None table.Libs column.List o) (is.libs_fault_ ∙ libs_are v)) (λ none.
    or_same _ _ _ _ (ap (λ o. named None table.Threads column.List o) (is.threads_fault ∙ threads_fault_is v)) (λ none.
    or_same _ _ _ _ (ap (λ n. named None table.Threads column.List (option_map whole_fault (size_rule (AtMost MOST_THREADS) (number + n)))) (threads_count v q is (threads_fault_is v ∙ named_back None table.Threads column.List (process_cells v).threads_fault none))) (λ none. refl))))

-- a process whose head breaks nothing, with all its threads
record HeadSame (v : Value) (q : ProcessCells) : Type 0 where
  start : q.start ≡ (process_cells v).start
  libs : q.libs ≡ (process_cells v).libs
  threads : q.threads ≡ map kept_cells (items_of (threads_in v))
  all : (process_cells v).threads ≡ map gecko_cells (items_of (threads_in v))

head_same : (number : ℕ) (v : Value) (q : ProcessCells) → IsProcess v q → head_broken number (process_cells v) ≡ None → HeadSame v q
unfolding process_cells
head_same number v q is none =
    let ok = head_passes number v none in
    record {
      start = is.start (is.start_fault ∙ ok.start);
      libs = is.libs (is.libs_fault_ ∙ ok.libs);
      threads = threads_are v q is ok.threads;
      all = refl;
    }

process_kept : (categories : ℕ) (root : ℤ) (number : ℕ) (v : Value) (q : ProcessCells) → IsProcess v q → process_broken categories root number q ≡ process_broken categories root number (process_cells v)
unfolding process_broken threads_broken
process_kept categories root number v q is =
    or_same _ _ _ _ (head_kept number v q is) (λ none.
    let same = head_same number v q is none in
    ap (λ o. first_of (o ∷ []))
    (ap (λ (ts : List GeckoCells). first_thread (λ k g. gecko_thread_broken k categories q.libs (q.start -ℤ root) g) number ts) same.threads
    ∙ ap (λ (libs : List Lib). first_thread (λ k g. gecko_thread_broken k categories libs (q.start -ℤ root) g) number (map kept_cells (items_of (threads_in v)))) same.libs
    ∙ ap (λ (start : ℤ). first_thread (λ k g. gecko_thread_broken k categories (process_cells v).libs (start -ℤ root) g) number (map kept_cells (items_of (threads_in v)))) same.start
    ∙ threads_kept categories (process_cells v).libs ((process_cells v).start -ℤ root) number (items_of (threads_in v))
    ∙ ap (λ (ts : List GeckoCells). first_thread (λ k g. gecko_thread_broken k categories (process_cells v).libs ((process_cells v).start -ℤ root) g) number ts) (sym same.all)))

process_whole : (categories default : ℕ) (root : ℤ) (number : ℕ) (v : Value) (q : ProcessCells) → IsProcess v q → process_broken categories root number (process_cells v) ≡ None →
    process_threads categories default root q ≡ process_threads categories default root (process_cells v)
unfolding process_broken threads_broken process_threads
process_whole categories default root number v q is none =
    let both = or_none (head_broken number (process_cells v)) _ none in
    let same = head_same number v q is both.0 in
    let shift = (process_cells v).start -ℤ root in
    let libs = (process_cells v).libs in
    let pass = (or_none (first_thread (λ k g. gecko_thread_broken k categories libs shift g) number (process_cells v).threads) None both.1).0 in
    let here : first_thread (λ k g. gecko_thread_broken k categories libs shift g) number (map gecko_cells (items_of (threads_in v))) ≡ None
    = ap (λ (ts : List GeckoCells). first_thread (λ k g. gecko_thread_broken k categories libs shift g) number ts) (sym same.all) ∙ pass in
    ap (λ (ts : List GeckoCells). map (gecko_thread categories default q.libs (q.start -ℤ root)) ts) same.threads
    ∙ ap (λ (ls : List Lib). map (gecko_thread categories default ls (q.start -ℤ root)) (map kept_cells (items_of (threads_in v)))) same.libs
    ∙ ap (λ (start : ℤ). map (gecko_thread categories default libs (start -ℤ root)) (map kept_cells (items_of (threads_in v)))) same.start
    ∙ threads_whole categories default libs shift number (items_of (threads_in v)) here
    ∙ ap (λ (ts : List GeckoCells). map (gecko_thread categories default libs shift) ts) (sym same.all)

count_same : (categories : ℕ) (root : ℤ) (number : ℕ) (v : Value) (q : ProcessCells) → IsProcess v q → process_broken categories root number (process_cells v) ≡ None → number + length q.threads ≡ number + length (process_cells v).threads
unfolding process_broken
count_same categories root number v q is none =
    let both = or_none (head_broken number (process_cells v)) _ none in
    ap (λ n. number + n) (threads_count v q is (head_passes number v both.0).threads)

-- ---- processes one after another

entries_kept : (categories : ℕ) (root : ℤ) (number : ℕ) (es ks : List Entry) → KeepEntries es ks → entries_broken categories root number ks ≡ entries_broken categories root number es
entries_kept categories root number [] [] h = refl
entries_kept categories root number [] (k ∷ ks) h = absurd h
entries_kept categories root number (e ∷ es) [] h = absurd h
entries_kept categories root number (process p ∷ es) (process q ∷ ks) h =
    let v = h.0.value in
    let is = h.0.kept_is in
    subst (λ (x : ProcessCells). option_or (process_broken categories root number q) (entries_broken categories root (number + length q.threads) ks) ≡ option_or (process_broken categories root number x) (entries_broken categories root (number + length x.threads) es)) (sym h.0.whole_is)
    (or_same _ _ _ _ (process_kept categories root number v q is) (λ none.
    ap (λ n. entries_broken categories root n ks) (count_same categories root number v q is none)
    ∙ entries_kept categories root (number + length (process_cells v).threads) es ks h.1))
entries_kept categories root number (process p ∷ es) (fault g ∷ ks) h = absurd h
entries_kept categories root number (fault f ∷ es) (process q ∷ ks) h = absurd h
entries_kept categories root number (fault f ∷ es) (fault g ∷ ks) h = ap (λ (x : ListFault). named None table.Processes column.List (Some x)) (sym h.0)

entries_whole : (categories default : ℕ) (root : ℤ) (number : ℕ) (es ks : List Entry) → KeepEntries es ks → entries_broken categories root number es ≡ None →
    entries_threads categories default root ks ≡ entries_threads categories default root es
entries_whole categories default root number [] [] h none = refl
entries_whole categories default root number [] (k ∷ ks) h none = absurd h
entries_whole categories default root number (e ∷ es) [] h none = absurd h
entries_whole categories default root number (process p ∷ es) (process q ∷ ks) h none =
    let v = h.0.value in
    let is = h.0.kept_is in
    let both = or_none (process_broken categories root number p) (entries_broken categories root (number + length p.threads) es) none in
    let here : process_broken categories root number (process_cells v) ≡ None = subst (λ (x : ProcessCells). process_broken categories root number x ≡ None) h.0.whole_is both.0 in
    ap (λ (ts : List ThreadTables). ts ++ entries_threads categories default root ks) (process_whole categories default root number v q is here)
    ∙ ap (λ (x : ProcessCells). process_threads categories default root x ++ entries_threads categories default root ks) (sym h.0.whole_is)
    ∙ ap (λ (ts : List ThreadTables). process_threads categories default root p ++ ts) (entries_whole categories default root (number + length p.threads) es ks h.1 both.1)
entries_whole categories default root number (process p ∷ es) (fault g ∷ ks) h none = absurd h
entries_whole categories default root number (fault f ∷ es) (process q ∷ ks) h none = absurd h
entries_whole categories default root number (fault f ∷ es) (fault g ∷ ks) h none = refl

-- ---- the profile

-- a process whose start breaks a rule breaks that, whatever the root's start is
start_breaks : (categories : ℕ) (root : ℤ) (number : ℕ) (p : ProcessCells) (r : Rule) → p.start_fault ≡ Some r → process_broken categories root number p ≡ named None table.Meta column.StartTime (Some (whole_fault r))
unfolding process_broken head_broken
start_breaks categories root number p r e = rw e refl

started : (categories : ℕ) (es ks : List Entry) (p q : ProcessCells) (v : Value) (o : Option Rule) → p ≡ process_cells v → IsProcess v q → KeepEntries (process p ∷ es) (process q ∷ ks) → start_rule (start_member v) ≡ o →
    entries_broken categories q.start 0 (process q ∷ ks) ≡ entries_broken categories p.start 0 (process p ∷ es)
unfolding process_cells
started categories es ks p q v None e is h none =
    let start : q.start ≡ p.start = is.start (is.start_fault ∙ none) ∙ ap (λ (x : ProcessCells). x.start) (sym e) in
    ap (λ (s : ℤ). entries_broken categories s 0 (process q ∷ ks)) start ∙ entries_kept categories p.start 0 (process p ∷ es) (process q ∷ ks) h
started categories es ks p q v (Some r) e is h some =
    let broken = named None table.Meta column.StartTime (Some (whole_fault r)) in
    let whole : p.start_fault ≡ Some r = ap (λ (x : ProcessCells). x.start_fault) e ∙ some in
    ap (λ o. option_or o (entries_broken categories q.start (0 + length q.threads) ks)) (start_breaks categories q.start 0 q r (is.start_fault ∙ some))
    ∙ sym (ap (λ o. option_or o (entries_broken categories p.start (0 + length p.threads) es)) (start_breaks categories p.start 0 p r whole))

rooted : (categories : ℕ) (es ks : List Entry) → KeepEntries es ks → entries_broken categories (root_start ks) 0 ks ≡ entries_broken categories (root_start es) 0 es
rooted categories [] [] h = refl
rooted categories [] (k ∷ ks) h = absurd h
rooted categories (e ∷ es) [] h = absurd h
rooted categories (process p ∷ es) (process q ∷ ks) h = started categories es ks p q h.0.value (start_rule (start_member h.0.value)) h.0.whole_is h.0.kept_is h refl
rooted categories (process p ∷ es) (fault g ∷ ks) h = absurd h
rooted categories (fault f ∷ es) (process q ∷ ks) h = absurd h
rooted categories (fault f ∷ es) (fault g ∷ ks) h = ap (λ (x : ListFault). named None table.Processes column.List (Some x)) (sym h.0)

pub check_kept : (v : Value) (kept : List Entry) → KeepEntries (profile_cells v).entries kept → profile_broken (record (profile_cells v) { entries = kept }) ≡ profile_broken (profile_cells v)
unfolding profile_broken
check_kept v kept h =
    ap (λ o. first_of (named None table.Meta column.Categories (profile_cells v).category_fault ∷ o ∷ [])) (rooted (length (profile_cells v).categories) (profile_cells v).entries kept h)

same_start : (p q : ProcessCells) (v : Value) → p ≡ process_cells v → IsProcess v q → (categories : ℕ) → process_broken categories p.start 0 p ≡ None → q.start ≡ p.start
unfolding process_broken
same_start p q v e is categories none =
    let whole : process_broken categories p.start 0 (process_cells v) ≡ None = subst (λ (x : ProcessCells). process_broken categories p.start 0 x ≡ None) e none in
    let head = (or_none (head_broken 0 (process_cells v)) _ whole).0 in
    (head_same 0 v q is head).start ∙ ap (λ (x : ProcessCells). x.start) (sym e)

-- the root's start is the same where nothing breaks
start_same : (categories : ℕ) (es ks : List Entry) → KeepEntries es ks → entries_broken categories (root_start es) 0 es ≡ None → root_start ks ≡ root_start es
start_same categories [] [] h none = refl
start_same categories [] (k ∷ ks) h none = absurd h
start_same categories (e ∷ es) [] h none = absurd h
start_same categories (process p ∷ es) (process q ∷ ks) h none =
    let both = or_none (process_broken categories p.start 0 p) (entries_broken categories p.start (0 + length p.threads) es) none in
    same_start p q h.0.value h.0.whole_is h.0.kept_is categories both.0
start_same categories (process p ∷ es) (fault g ∷ ks) h none = absurd h
start_same categories (fault f ∷ es) (process q ∷ ks) h none = absurd h
start_same categories (fault f ∷ es) (fault g ∷ ks) h none = refl

second : (a b : Option Broken) → option_or a (option_or b None) ≡ None → b ≡ None
second None None h = refl
second None (Some x) h = h
second (Some x) b h = cc

pub profile_kept : (v : Value) (kept : List Entry) → KeepEntries (profile_cells v).entries kept → profile_broken (profile_cells v) ≡ None → profile_of (record (profile_cells v) { entries = kept }) ≡ profile_of (profile_cells v)
unfolding profile_broken profile_of
profile_kept v kept h none =
    let g = profile_cells v in
    let categories = length g.categories in
    let pass = second (named None table.Meta column.Categories g.category_fault) (entries_broken categories (root_start g.entries) 0 g.entries) none in
    let start = start_same categories g.entries kept h pass in
    let threads : entries_threads categories g.default (root_start kept) kept ≡ entries_threads categories g.default (root_start g.entries) g.entries
    = ap (λ (s : ℤ). entries_threads categories g.default s kept) start ∙ entries_whole categories g.default (root_start g.entries) 0 g.entries kept h pass in
    ap (λ (ts : List ThreadTables). let p : ProfileTables = record { threads = ts; categories = g.categories; default = g.default } in p) threads
