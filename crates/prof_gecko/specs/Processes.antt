-- The processes of a Gecko profile: what they break, in the written order, and their threads.
use Rattle.std.specs.Prelude.{ℕ, ◌+◌, suc, ℤ, pos, ◌-ℤ◌, List, [], ◌∷◌, ◌++◌, Option, None, Some, length, map}
use Rattle.std.specs.List.{All}
use Rattle.std.specs.Option.{option_or, option_map}
use Rattle.prof_raw.specs.declared.column.Size.TheVariants.{AtMost}
use Rattle.prof_raw.specs.declared.limits.TheConstants.{MOST_THREADS}
use Rattle.prof_raw.specs.declared.rule.Table.TheVariants as table
use Rattle.prof_raw.specs.declared.rule.Column.TheVariants as column
use Rattle.prof_raw.specs.declared.rule.Broken.{Broken}
use Rattle.prof_raw.specs.Rules.{whole_fault, size_rule}
use Rattle.prof_raw.specs.Checks.{first_of, named}
use Rattle.prof_tables.specs.Profiles.{ProfileTables}
use Rattle.prof_tables.specs.Threads.{ThreadTables}
use Rattle.prof_tables.specs.Ties.{IsPart}
use Rattle.prof_gecko.specs.Gathered.{GeckoCells, ProcessCells, ProfileCells, Entry, process, fault}
use Rattle.prof_gecko.specs.Converted.{gecko_thread}
use Rattle.prof_gecko.specs.Checks.{gecko_thread_broken}

-- the first thread that breaks a rule, of threads whose first has a number
abbrev pub first_thread : (ℕ → GeckoCells → Option Broken) → ℕ → List GeckoCells → Option Broken
first_thread fails number [] = None
first_thread fails number (g ∷ gs) = option_or (fails number g) (first_thread fails (suc number) gs)

-- what a process breaks before its threads, which stand behind so many others; a profile has 1,024 at most
abbrev pub head_checks : ℕ → ProcessCells → List (Option Broken)
head_checks number p =
    (named None table.Meta column.StartTime (option_map whole_fault p.start_fault)
    ∷ named None table.Libs column.List p.libs_fault
    ∷ named None table.Threads column.List p.threads_fault
    ∷ named None table.Threads column.List
    (option_map whole_fault (size_rule (AtMost MOST_THREADS) (number + length p.threads)))
    ∷ [])

unfoldable pub head_broken : ℕ → ProcessCells → Option Broken
head_broken number p = first_of (head_checks number p)

-- what the threads of a process break; their times are moved by its start less the root's
unfoldable pub threads_broken : ℕ → ℤ → ℕ → ProcessCells → Option Broken
threads_broken categories root number p =
    first_thread (λ k g. gecko_thread_broken k categories p.libs (p.start -ℤ root) g) number p.threads

-- what a process breaks by itself
unfoldable pub process_broken : ℕ → ℤ → ℕ → ProcessCells → Option Broken
process_broken categories root number p =
    first_of (head_broken number p ∷ threads_broken categories root number p ∷ [])

-- the threads of a process
unfoldable pub process_threads : ℕ → ℕ → ℤ → ProcessCells → List ThreadTables
process_threads categories default root p =
    map (gecko_thread categories default p.libs (p.start -ℤ root)) p.threads

-- what processes break that stand behind so many threads
abbrev pub entries_broken : ℕ → ℤ → ℕ → List Entry → Option Broken
entries_broken categories root number [] = None
entries_broken categories root number (process p ∷ entries) = option_or
    (process_broken categories root number p)
    (entries_broken categories root (number + length p.threads) entries)
entries_broken categories root number (fault f ∷ entries) = named None table.Processes column.List (Some f)

-- the threads of all processes, in the order of their checks
abbrev pub entries_threads : ℕ → ℕ → ℤ → List Entry → List ThreadTables
entries_threads categories default root [] = []
entries_threads categories default root (process p ∷ entries) =
    process_threads categories default root p ++ entries_threads categories default root entries
entries_threads categories default root (fault f ∷ entries) = []

-- the start of the first process, which is the root
abbrev pub root_start : List Entry → ℤ
root_start [] = pos 0
root_start (process p ∷ entries) = p.start
root_start (fault f ∷ entries) = pos 0

-- what a profile breaks: the checks of the categories come first
unfoldable pub profile_broken : ProfileCells → Option Broken
profile_broken g = first_of
    (named None table.Meta column.Categories g.category_fault
    ∷ entries_broken (length g.categories) (root_start g.entries) 0 g.entries
    ∷ [])

-- the profile of columns that break nothing
unfoldable pub profile_of : ProfileCells → ProfileTables
profile_of g = record {
  threads = entries_threads (length g.categories) g.default (root_start g.entries) g.entries;
  categories = g.categories;
  default = g.default;
}

-- each marker's range is a part of its thread's texts
abbrev pub ThreadHasRanges : GeckoCells → Type 0
ThreadHasRanges g = All (IsPart (length g.marker_texts)) g.marker_ranges

abbrev pub HasRanges : Entry → Type 0
HasRanges (process p) = All ThreadHasRanges p.threads
HasRanges (fault f) = Unit {0}
