-- Threads of a process that are added one by one.
use Rattle.std.proofs.Common.{◌≡◌, ℕ, suc, ◌+◌, ◌<◌, List, [], ◌∷◌, ◌++◌, length, map, drop, get_or, None, Some, Result, refl, sym, ◌∙◌, ap, subst, arith}
use Rattle.std.specs.Prelude.{ℤ, ◌-ℤ◌, All}
use Rattle.std.specs.Option.{option_or}
use Rattle.std.proofs.Math.Seq.{drop-cons}
use Rattle.std.proofs.lemmas.List.{drop_all, map-append}
use Rattle.prof_raw.specs.declared.rule.Broken.{Broken}
use Rattle.prof_tables.specs.declared.refusal.BuildRefusal.{BuildRefusal}
use Rattle.prof_tables.specs.Builds.{Builds}
use Rattle.prof_tables.specs.Threads.{ThreadTables}
use Rattle.prof_tables.specs.Ties.{IsPart}
use Rattle.prof_gecko.specs.Gathered.{Lib, GeckoCells, ProcessCells}
use Rattle.prof_gecko.specs.Columns.{ThreadParts, parts_of}
use Rattle.prof_gecko.specs.Converted.{gecko_thread}
use Rattle.prof_gecko.specs.Checks.{gecko_thread_broken}
use Rattle.prof_gecko.specs.Processes.{ThreadHasRanges, first_thread, head_broken, threads_broken, process_broken, process_threads}
use Rattle.prof_gecko.proofs.Passes.{or_nothing}
use Rattle.prof_gecko.proofs.Building.{builds_same}

-- one more row, of those that are left
pub front : {X : Type 0} (xs : List X) (n m : ℕ) (x : X) → n < length xs → x ≡ get_or xs n x → m ≡ n + 1 → drop n xs ≡ x ∷ drop m xs
front xs n m x lt is e =
    let next : suc n ≡ m = omega arith in
    drop-cons xs n x lt ∙ ap (λ y. y ∷ drop (suc n) xs) (sym is) ∙ ap (λ k. x ∷ drop k xs) next

pub none_left : {X : Type 0} (xs : List X) (n : ℕ) → n ≡ length xs → drop n xs ≡ []
none_left xs n e = drop_all n xs (omega arith)

-- one more row, seen by a function
pub grown : {X Y : Type 0} (f : X → Y) (xs ys : List X) (x : X) → ys ≡ xs ++ x ∷ [] → map f ys ≡ map f xs ++ f x ∷ []
grown f xs ys x e = ap (map f) e ∙ map-append f xs (x ∷ [])

-- the ranges of a thread are those of its columns
pub columns_ranges : (shift : ℤ) (g : GeckoCells) (p : ThreadParts) → p ≡ parts_of shift g → ThreadHasRanges g → All (IsPart (length p.own.marker_texts)) p.own.marker_ranges
unfolding parts_of
columns_ranges shift g p e h = subst (λ (q : ThreadParts). All (IsPart (length q.own.marker_texts)) q.own.marker_ranges) (sym e) h

-- a process whose checks before its threads pass breaks what its threads do
pub process_by : (categories : ℕ) (root : ℤ) (number : ℕ) (p : ProcessCells) → head_broken number p ≡ None →
    first_thread (λ k g. gecko_thread_broken k categories p.libs (p.start -ℤ root) g) number p.threads ≡ process_broken categories root number p
unfolding process_broken threads_broken
process_by categories root number p h = sym (ap (λ o. option_or o (option_or (threads_broken categories root number p) None)) h ∙ or_nothing (threads_broken categories root number p))

-- and otherwise what they do
pub process_fails : (categories : ℕ) (root : ℤ) (number : ℕ) (p : ProcessCells) (b : Broken) → head_broken number p ≡ Some b → process_broken categories root number p ≡ Some b
unfolding process_broken
process_fails categories root number p b h = ap (λ o. option_or o (option_or (threads_broken categories root number p) None)) h

pub process_makes : (categories default : ℕ) (root : ℤ) (p : ProcessCells) → map (gecko_thread categories default p.libs (p.start -ℤ root)) p.threads ≡ process_threads categories default root p
unfolding process_threads
process_makes categories default root p = refl

-- what the threads of a process leave is what the process leaves
pub process_added : {X : Type 0} (view : X → List ThreadTables) (r : Result X BuildRefusal) (categories default : ℕ) (root shift : ℤ) (number len : ℕ) (before : List ThreadTables) (libs : List Lib) (gathered : List GeckoCells) (p : ProcessCells)
    → libs ≡ p.libs → shift ≡ p.start -ℤ root → gathered ≡ p.threads → number ≡ len → head_broken number p ≡ None
    → Builds view r (first_thread (λ k g. gecko_thread_broken k categories libs shift g) len gathered) (before ++ map (gecko_thread categories default libs shift) gathered)
    → Builds view r (process_broken categories root len p) (before ++ process_threads categories default root p)
process_added view r categories default root shift number len before libs gathered p el es eg n head h =
    builds_same view r
    (first_thread (λ k g. gecko_thread_broken k categories libs shift g) len gathered) (process_broken categories root len p)
    (before ++ map (gecko_thread categories default libs shift) gathered) (before ++ process_threads categories default root p)
    (ap (λ (ls : List Lib). first_thread (λ k g. gecko_thread_broken k categories ls shift g) len gathered) el
    ∙ ap (λ (s : ℤ). first_thread (λ k g. gecko_thread_broken k categories p.libs s g) len gathered) es
    ∙ ap (λ (gs : List GeckoCells). first_thread (λ k g. gecko_thread_broken k categories p.libs (p.start -ℤ root) g) len gs) eg
    ∙ process_by categories root len p (ap (λ (k : ℕ). head_broken k p) (sym n) ∙ head))
    (ap (λ ts. before ++ ts)
    (ap (λ (ls : List Lib). map (gecko_thread categories default ls shift) gathered) el
    ∙ ap (λ (s : ℤ). map (gecko_thread categories default p.libs s) gathered) es
    ∙ ap (λ (gs : List GeckoCells). map (gecko_thread categories default p.libs (p.start -ℤ root)) gs) eg
    ∙ process_makes categories default root p))
    h
