-- The ranges of markers are parts of their texts, and so each gathered process has ranges.
use Rattle.std.proofs.Common.{ℕ, ◌+◌, ◌≤◌, List, [], ◌∷◌, length, arith, length-append, subst, sym}
use Rattle.std.specs.Prelude.{codes}
use Rattle.std.specs.List.{All}
use Rattle.std.proofs.lemmas.List.Elements.{All-nil, All-cons, All-map}
use Rattle.prof_gecko.specs.Gathered.{Entry, process, fault}
use Rattle.prof_gecko.specs.Processes.{ThreadHasRanges, HasRanges}
use Rattle.prof_grammar.specs.Value.{Value, field}
use Rattle.prof_layout.specs.Markers.{data_texts, all_texts, ranges_from}
use Rattle.prof_processes.specs.Processes.{KeepEntries}
use Rattle.prof_processes.specs.Tables.{details_in}
use Rattle.prof_processes.specs.Threads.{kept_cells}
use Rattle.prof_tables.specs.Ties.{IsPart}

parts : (count start : ℕ) (rows : List Value) → start + length (all_texts rows) ≤ count → All (IsPart count) (ranges_from start rows)
parts count start [] few = All-nil (IsPart count)
parts count start (v ∷ rows) few =
    let all = length-append (data_texts v) (all_texts rows) in
    All-cons (IsPart count) (start, start + length (data_texts v)) (ranges_from (start + length (data_texts v)) rows) (omega arith, omega arith) (parts count (start + length (data_texts v)) rows (omega arith))

-- what is kept of a thread
pub thread_ranges : (v : Value) → ThreadHasRanges (kept_cells v)
unfolding kept_cells
thread_ranges v = parts (length (all_texts (details_in (field (codes "markers") v)))) 0 (details_in (field (codes "markers") v)) (omega arith)

-- what is kept of entries
pub entries_ranges : (es kept : List Entry) → KeepEntries es kept → All HasRanges kept
entries_ranges [] [] h = All-nil HasRanges
entries_ranges [] (k ∷ kept) h = absurd h
entries_ranges (e ∷ es) [] h = absurd h
entries_ranges (process p ∷ es) (process q ∷ kept) h =
    let is = h.0.kept_is in
    All-cons HasRanges (process q) kept (subst (All ThreadHasRanges) (sym is.threads) (All-map ThreadHasRanges kept_cells _ (λ k d lt. thread_ranges _))) (entries_ranges es kept h.1)
entries_ranges (process p ∷ es) (fault g ∷ kept) h = absurd h
entries_ranges (fault f ∷ es) (process q ∷ kept) h = absurd h
entries_ranges (fault f ∷ es) (fault g ∷ kept) h = All-cons HasRanges (fault g) kept tt h.1
