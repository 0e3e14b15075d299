-- Processes that are checked in turn.
use Rattle.std.proofs.Common.{◌≡◌, ℕ, suc, ◌+◌, ◌<◌, ◌≤◌, List, [], ◌∷◌, ◌++◌, length, map, Option, None, Some, refl, sym, ◌∙◌, ap, subst, arith, length-append}
use Rattle.std.specs.Prelude.{ℤ, ◌-ℤ◌}
use Rattle.std.specs.List.{All}
use Rattle.std.specs.Option.{option_or}
use Rattle.std.proofs.lemmas.List.{length-map}
use Rattle.std.proofs.lemmas.List.Elements.{All-nil, All-map, All-append, All-head, All-tail}
use Rattle.prof_raw.specs.declared.limits.TheConstants.{MOST_THREADS}
use Rattle.prof_raw.specs.declared.rule.Table.TheVariants as table
use Rattle.prof_raw.specs.declared.rule.Column.TheVariants as column
use Rattle.prof_raw.specs.declared.rule.Broken.{Broken}
use Rattle.prof_raw.specs.declared.rule.ListFault.{ListFault}
use Rattle.prof_raw.specs.Checks.{named}
use Rattle.prof_gecko.proofs.Passes.{or_nothing, all_pass, size_of, within}
use Rattle.prof_tables.specs.Profiles.{ProfileTables, CountsIn, IsProfile}
use Rattle.prof_tables.specs.Threads.{ThreadTables}
use Rattle.prof_gecko.specs.declared.work.Work.{Work}
use Rattle.prof_gecko.specs.declared.work.Work.TheVariants as work
use Rattle.prof_gecko.specs.Gathered.{GeckoCells, ProcessCells, ProfileCells, Entry, process, fault, joined, fault_entries, entries_of}
use Rattle.prof_gecko.specs.Work.{work_entries, work_broken, entries_left}
use Rattle.prof_gecko.specs.Converted.{thread_in, gecko_thread}
use Rattle.prof_gecko.specs.Processes.{first_thread, head_checks, head_broken, threads_broken, process_broken, process_threads, entries_broken, entries_threads, root_start, profile_broken, profile_of, HasRanges, ThreadHasRanges}

-- ---- what is left to check

nil_behind : {X : Type 0} (xs : List X) → xs ++ [] ≡ xs
nil_behind [] = refl
nil_behind (x ∷ xs) = ap (λ ys. x ∷ ys) (nil_behind xs)

behind : {X : Type 0} (xs ys zs : List X) → (xs ++ ys) ++ zs ≡ xs ++ (ys ++ zs)
behind [] ys zs = refl
behind (x ∷ xs) ys zs = ap (λ l. x ∷ l) (behind xs ys zs)

pub no_items : {X : Type 0} (xs : List X) → length xs ≡ 0 → xs ≡ []
no_items [] e = refl
no_items (x ∷ xs) e = absurd (omega arith)

-- what is put on top comes first
pub left-push : (ws : List Work) (w : Work) → entries_left (ws ++ w ∷ []) ≡ work_entries w ++ entries_left ws
left-push [] w = sym (nil_behind (work_entries w))
left-push (v ∷ ws) w = ap (λ es. es ++ work_entries v) (left-push ws w) ∙ behind (work_entries w) (entries_left ws) (work_entries v)

joined-push : (children : List (List Entry)) (child : List Entry) → joined (children ++ child ∷ []) ≡ joined children ++ child
joined-push [] child = nil_behind child
joined-push (c ∷ children) child = ap (λ es. c ++ es) (joined-push children child) ∙ sym (behind c (joined children) child)

-- the last child was put on top
pub child_moves : (old new : List (List Entry)) (child : List Entry) (ws vs : List Work) → old ≡ new ++ child ∷ [] → vs ≡ ws ++ work.Process child ∷ [] → joined new ++ entries_left vs ≡ joined old ++ entries_left ws
child_moves old new child ws vs e f =
    ap (λ v. joined new ++ entries_left v) f
    ∙ ap (λ es. joined new ++ es) (left-push ws (work.Process child))
    ∙ sym (behind (joined new) child (entries_left ws))
    ∙ ap (λ es. es ++ entries_left ws) (sym (joined-push new child) ∙ ap joined (sym e))

-- what came next was taken off
pub left-pop : (ws vs : List Work) (next : Work) → ws ≡ vs ++ next ∷ [] → entries_left ws ≡ work_entries next ++ entries_left vs
left-pop ws vs next e = ap entries_left e ∙ left-push vs next

-- a fault was put on top
pub fault_moves : (ws vs : List Work) (f : ListFault) → vs ≡ ws ++ work.Fault f ∷ [] → entries_left vs ≡ fault_entries (Some f) ++ entries_left ws
fault_moves ws vs f e = ap entries_left e ∙ left-push ws (work.Fault f)

-- a process was taken apart
pub opened : (p : ProcessCells) (children : List (List Entry)) (f : Option ListFault) (whole left old new : List Entry) → entries_of p children f ≡ whole → left ≡ fault_entries f ++ old → new ≡ joined children ++ left → process p ∷ new ≡ whole ++ old
opened p children f whole left old new is e g =
    ap (λ es. process p ∷ es) (g ∙ ap (λ es. joined children ++ es) e ∙ sym (behind (joined children) (fault_entries f) old)) ∙ ap (λ es. es ++ old) is

-- the process that came next was taken apart
pub next_opened : (ws vs new : List Work) (next : Work) (entries : List Entry) (p : ProcessCells) → ws ≡ vs ++ next ∷ [] → entries ≡ work_entries next → process p ∷ entries_left new ≡ entries ++ entries_left vs
    → entries_left ws ≡ process p ∷ entries_left new
next_opened ws vs new next entries p e is opens = left-pop ws vs next e ∙ ap (λ es. es ++ entries_left vs) (sym is) ∙ sym opens

-- ---- threads

-- what was built of a process's threads behind others, where so many are left
pub record Added (fails : ℕ → GeckoCells → Option Broken) (tables : GeckoCells → ThreadTables) (before : List ThreadTables) (all left : List GeckoCells) (built : List ThreadTables) : Type 0 where
  pub broken : first_thread fails (length before) all ≡ first_thread fails (length built) left
  pub threads : built ++ map tables left ≡ before ++ map tables all

pub added_none : (fails : ℕ → GeckoCells → Option Broken) (tables : GeckoCells → ThreadTables) (before : List ThreadTables) (all : List GeckoCells) → Added fails tables before all all before
added_none fails tables before all = record { broken = refl; threads = refl }

-- one more thread breaks nothing
pub added_more : (fails : ℕ → GeckoCells → Option Broken) (tables : GeckoCells → ThreadTables) (before : List ThreadTables) (all left rest : List GeckoCells) (built new : List ThreadTables) (x : GeckoCells) (t : ThreadTables)
    → left ≡ x ∷ rest → new ≡ built ++ t ∷ [] → fails (length built) x ≡ None → t ≡ tables x → Added fails tables before all left built → Added fails tables before all rest new
added_more fails tables before all left rest built new x t e grown none is h =
    let many : length new ≡ suc (length built) = ap (λ ts. length ts) grown ∙ length-append built (t ∷ []) ∙ omega arith in
    record {
      broken = h.broken ∙ ap (first_thread fails (length built)) e ∙ ap (λ o. option_or o (first_thread fails (suc (length built)) rest)) none ∙ ap (λ n. first_thread fails n rest) (sym many);
      threads = ap (λ ts. ts ++ map tables rest) grown ∙ behind built (t ∷ []) (map tables rest) ∙ ap (λ u. built ++ u ∷ map tables rest) is ∙ ap (λ gs. built ++ map tables gs) (sym e) ∙ h.threads;
    }

-- one more thread breaks a rule
pub added_fails : (fails : ℕ → GeckoCells → Option Broken) (tables : GeckoCells → ThreadTables) (before : List ThreadTables) (all left rest : List GeckoCells) (built : List ThreadTables) (x : GeckoCells) (b : Broken)
    → left ≡ x ∷ rest → fails (length built) x ≡ Some b → Added fails tables before all left built → first_thread fails (length before) all ≡ Some b
added_fails fails tables before all left rest built x b e some h =
    h.broken ∙ ap (first_thread fails (length built)) e ∙ ap (λ o. option_or o (first_thread fails (suc (length built)) rest)) some

-- no thread is left
pub added_all : (fails : ℕ → GeckoCells → Option Broken) (tables : GeckoCells → ThreadTables) (before : List ThreadTables) (all left : List GeckoCells) (built : List ThreadTables)
    → left ≡ [] → Added fails tables before all left built → (first_thread fails (length before) all ≡ None) × (built ≡ before ++ map tables all)
added_all fails tables before all left built e h =
    (h.broken ∙ ap (first_thread fails (length built)) e, sym (nil_behind built) ∙ ap (λ gs. built ++ map tables gs) (sym e) ∙ h.threads)

-- ---- processes

-- a process that breaks nothing leaves at most as many threads as a profile may have
pub head_few : (number : ℕ) (p : ProcessCells) → head_broken number p ≡ None → number + length p.threads ≤ 1024
unfolding head_broken
head_few number p h =
    let all = all_pass (head_checks number p) h in
    within 1024 (number + length p.threads) (size_of None table.Threads column.List MOST_THREADS (number + length p.threads) all.1.1.1.0)

pub process_few : (categories number : ℕ) (root : ℤ) (p : ProcessCells) → process_broken categories root number p ≡ None → number + length p.threads ≤ 1024
unfolding process_broken
process_few categories number root p h = head_few number p (all_pass (head_broken number p ∷ threads_broken categories root number p ∷ []) h).0

pub process_count : (categories default : ℕ) (root : ℤ) (p : ProcessCells) → length (process_threads categories default root p) ≡ length p.threads
unfolding process_threads
process_count categories default root p = length-map p.threads (gecko_thread categories default p.libs (p.start -ℤ root))

-- each thread counts in the profile's categories
thread_counts : (categories default : ℕ) (root : ℤ) (p : ProcessCells) → All (CountsIn categories default) (process_threads categories default root p)
unfolding process_threads thread_in
thread_counts categories default root p =
    All-map (CountsIn categories default) (gecko_thread categories default p.libs (p.start -ℤ root)) p.threads (λ k d lt. (refl, refl))

-- what was built of all entries, where so many are left
pub record Walked (categories default : ℕ) (root : ℤ) (all left : List Entry) (built : List ThreadTables) : Type 0 where
  pub few : length built ≤ 1024
  pub broken : entries_broken categories root 0 all ≡ entries_broken categories root (length built) left
  pub threads : entries_threads categories default root all ≡ built ++ entries_threads categories default root left
  pub ranges : All HasRanges left

pub walked_none : (categories default : ℕ) (root : ℤ) (all left : List Entry) → left ≡ all → All HasRanges all → Walked categories default root all left []
walked_none categories default root all left e h = record {
  few = omega arith;
  broken = ap (entries_broken categories root 0) (sym e);
  threads = ap (entries_threads categories default root) (sym e);
  ranges = subst (All HasRanges) (sym e) h;
}

-- one more process breaks nothing
pub walked_more : (categories default : ℕ) (root : ℤ) (all left rest : List Entry) (built new : List ThreadTables) (p : ProcessCells) → left ≡ process p ∷ rest → process_broken categories root (length built) p ≡ None
    → new ≡ built ++ process_threads categories default root p → Walked categories default root all left built → Walked categories default root all rest new
walked_more categories default root all left rest built new p e none grown h =
    let count = process_count categories default root p in
    let most = process_few categories (length built) root p none in
    let many : length new ≡ length built + length p.threads = ap (λ ts. length ts) grown ∙ length-append built (process_threads categories default root p) ∙ omega arith in
    record {
      few = omega arith;
      broken = h.broken ∙ ap (entries_broken categories root (length built)) e ∙ ap (λ o. option_or o (entries_broken categories root (length built + length p.threads) rest)) none ∙ ap (λ n. entries_broken categories root n rest) (sym many);
      threads = h.threads ∙ ap (λ es. built ++ entries_threads categories default root es) e ∙ sym (behind built (process_threads categories default root p) (entries_threads categories default root rest)) ∙ ap (λ ts. ts ++ entries_threads categories default root rest) (sym grown);
      ranges = All-tail HasRanges (process p) rest (subst (All HasRanges) e h.ranges);
    }

-- one more process breaks a rule
pub walked_fails : (categories default : ℕ) (root : ℤ) (all left rest : List Entry) (built : List ThreadTables) (p : ProcessCells) (b : Broken) → left ≡ process p ∷ rest → process_broken categories root (length built) p ≡ Some b
    → Walked categories default root all left built → entries_broken categories root 0 all ≡ Some b
walked_fails categories default root all left rest built p b e some h =
    h.broken ∙ ap (entries_broken categories root (length built)) e ∙ ap (λ o. option_or o (entries_broken categories root (length built + length p.threads) rest)) some

-- the ranges of the process that comes next
pub walked_ranges : (categories default : ℕ) (root : ℤ) (all left rest : List Entry) (built : List ThreadTables) (p : ProcessCells) → left ≡ process p ∷ rest → Walked categories default root all left built → All ThreadHasRanges p.threads
walked_ranges categories default root all left rest built p e h = All-head HasRanges (process p) rest (subst (All HasRanges) e h.ranges)

-- a list of processes breaks a rule
pub walked_fault : (categories default : ℕ) (root : ℤ) (all left rest : List Entry) (built : List ThreadTables) (f : ListFault) → left ≡ fault f ∷ rest → Walked categories default root all left built
    → entries_broken categories root 0 all ≡ named None table.Processes column.List (Some f)
walked_fault categories default root all left rest built f e h = h.broken ∙ ap (entries_broken categories root (length built)) e

-- and so does what comes next, where it is such a list
pub walked_next : (categories default : ℕ) (root : ℤ) (all : List Entry) (ws vs : List Work) (next : Work) (built : List ThreadTables) (b : Broken) → ws ≡ vs ++ next ∷ [] → work_broken next ≡ Some b
    → Walked categories default root all (entries_left ws) built → entries_broken categories root 0 all ≡ Some b
walked_next categories default root all ws vs (work.Process p) built b e some h = cc
walked_next categories default root all ws vs (work.Fault f) built b e some h =
    walked_fault categories default root all (entries_left ws) (entries_left vs) built f (left-pop ws vs (work.Fault f) e) h ∙ some

-- nothing is left
pub walked_all : (categories default : ℕ) (root : ℤ) (all left : List Entry) (built : List ThreadTables) → left ≡ [] → Walked categories default root all left built
    → (entries_broken categories root 0 all ≡ None) × (built ≡ entries_threads categories default root all)
walked_all categories default root all left built e h =
    (h.broken ∙ ap (entries_broken categories root (length built)) e, sym (nil_behind built) ∙ ap (λ es. built ++ entries_threads categories default root es) (sym e) ∙ sym h.threads)

pub entries_count : (categories default : ℕ) (root : ℤ) (entries : List Entry) → All (CountsIn categories default) (entries_threads categories default root entries)
entries_count categories default root [] = All-nil (CountsIn categories default)
entries_count categories default root (process p ∷ entries) = All-append (CountsIn categories default) (process_threads categories default root p) (entries_threads categories default root entries) (thread_counts categories default root p) (entries_count categories default root entries)
entries_count categories default root (fault f ∷ entries) = All-nil (CountsIn categories default)

-- ---- the whole profile

-- where the categories are listed, a profile breaks what its processes do
profile_by : (g : ProfileCells) → named None table.Meta column.Categories g.category_fault ≡ None → profile_broken g ≡ entries_broken (length g.categories) (root_start g.entries) 0 g.entries
unfolding profile_broken
profile_by g h =
    let broken = entries_broken (length g.categories) (root_start g.entries) 0 g.entries in
    ap (λ o. option_or o (option_or broken None)) h ∙ or_nothing broken

-- and otherwise what they do
pub profile_fails : (g h : ProfileCells) (b : Broken) → h ≡ g → named None table.Meta column.Categories h.category_fault ≡ Some b → profile_broken g ≡ Some b
unfolding profile_broken
profile_fails g h b e some = subst (λ (x : ProfileCells). profile_broken x ≡ Some b) e
    (ap (λ o. option_or o (option_or (entries_broken (length h.categories) (root_start h.entries) 0 h.entries) None)) some)

-- what the walk answers is what the profile breaks
pub profile_checks : (g h : ProfileCells) (categories : ℕ) (root : ℤ) (o : Option Broken) → h ≡ g → categories ≡ length h.categories → root ≡ root_start h.entries → named None table.Meta column.Categories h.category_fault ≡ None
    → entries_broken categories root 0 h.entries ≡ o → profile_broken g ≡ o
profile_checks g h categories root o e n s listed is = subst (λ (x : ProfileCells). profile_broken x ≡ o) e
    (profile_by h listed ∙ ap (λ k. entries_broken k (root_start h.entries) 0 h.entries) (sym n) ∙ ap (λ r. entries_broken categories r 0 h.entries) (sym s) ∙ is)

-- the threads that the walk built are those of the profile
pub profile_makes : (g h : ProfileCells) (categories : ℕ) (root : ℤ) (built : List ThreadTables) → h ≡ g → categories ≡ length h.categories → root ≡ root_start h.entries → built ≡ entries_threads categories h.default root h.entries
    → record { threads = built; categories = h.categories; default = h.default } ≡ profile_of g
unfolding profile_of
profile_makes g h categories root built e n s is = subst (λ (x : ProfileCells). record { threads = built; categories = h.categories; default = h.default } ≡ profile_of x) e
    (ap (λ (ts : List ThreadTables). let p : ProfileTables = record { threads = ts; categories = h.categories; default = h.default } in p)
    (is ∙ ap (λ k. entries_threads k h.default root h.entries) n ∙ ap (λ r. entries_threads (length h.categories) h.default r h.entries) s))

-- and they count in its categories
pub profile_is : (categories default : ℕ) (root : ℤ) (names : List (List ℕ)) (entries : List Entry) (built : List ThreadTables) → length built ≤ 1024 → categories ≡ length names → default < length names
    → built ≡ entries_threads categories default root entries → IsProfile (record { threads = built; categories = names; default = default })
profile_is categories default root names entries built few n below is = record {
  few = few;
  default = below;
  threads = subst (λ k. All (CountsIn k default) built) n (subst (All (CountsIn categories default)) (sym is) (entries_count categories default root entries));
}
