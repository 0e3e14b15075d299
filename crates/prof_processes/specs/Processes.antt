-- What is gathered of processes.
use Rattle.std.specs.Prelude.{◌≡◌, ℕ, suc, length, List, [], ◌∷◌, ◌++◌, Bool, true, false, Option, None, map, take, codes, ⊤}
use Rattle.std.specs.List.{All}
use Rattle.prof_grammar.specs.Value.{Value, Members, last_named, field}
use Rattle.prof_raw.specs.declared.limits.TheConstants.{MOST_THREADS}
use Rattle.prof_column.specs.Kept.{state_by, kept_items}
use Rattle.prof_gather.specs.Taking.{IsFoundIn}
use Rattle.prof_layout.specs.Lists.{is_object, items_of, first_unfit, needed_list_fault}
use Rattle.prof_gecko.specs.Gathered.{ProcessCells, Entry, process, fault, joined, fault_entries}
use Rattle.prof_gecko.specs.Processes.{HasRanges}
use Rattle.prof_gecko_layout.specs.GeckoProfile.{process_cells, item_entries, below, start_member, start_rule, start_value, libs_fault, lib_of}
use Rattle.prof_processes.specs.Libs.{IsLibList, IsMeta}
use Rattle.prof_processes.specs.Threads.{kept_cells}
use Rattle.prof_processes.specs.declared.list.ThreadList.{ThreadList}
use Rattle.prof_processes.specs.declared.process.Children.{Children}
use Rattle.prof_processes.specs.declared.process.ProcessMembers.{ProcessMembers}

abbrev pub is_null : Value → Bool
is_null Value.null = true
is_null _ = false

-- the threads of these items, of which at most one more than the most is kept
pub record AreThreads (vs : List Value) (l : ThreadList) : Type 0 where
  pub threads : l.threads.items ≡ map kept_cells (take (suc MOST_THREADS) vs)
  pub bad : l.bad ≡ first_unfit is_object (take (suc MOST_THREADS) vs)

-- of a list that had none at first
pub record AreThreadsOf (first : ThreadList) (vs : List Value) (l : ThreadList) : Type 0 where
  pub are : AreThreads [] first → AreThreads vs l

-- the threads of a member
pub record IsThreadList (member : Option Value) (l : ThreadList) : Type 0 where
  pub state : l.state ≡ state_by true member
  pub are : AreThreads (items_of member) l

-- What is gathered of a process by itself. Where it breaks a rule, what the rule is about plays no part.
pub record IsProcess (v : Value) (p : ProcessCells) : Type 0 where
  pub start_fault : p.start_fault ≡ start_rule (start_member v)
  pub start : p.start_fault ≡ None → p.start ≡ start_value (start_member v)
  pub libs_fault_ : p.libs_fault ≡ libs_fault (field (codes "libs") v)
  pub libs : p.libs_fault ≡ None → p.libs ≡ map lib_of (items_of (field (codes "libs") v))
  pub threads_fault : p.threads_fault ≡ needed_list_fault is_object MOST_THREADS (field (codes "threads") v)
  pub threads : p.threads ≡ map kept_cells (kept_items MOST_THREADS (field (codes "threads") v))

-- one process of a value, and what is gathered of it
pub record KeepsProcess (whole kept : ProcessCells) : Type 0 where
  pub value : Value
  pub whole_is : whole ≡ process_cells value
  pub kept_is : IsProcess value kept

-- The entries of a value, and what is gathered of them. Behind a fault nothing counts but that the ranges of markers are parts
-- of their texts.
abbrev pub KeepEntries : List Entry → List Entry → Type 0
KeepEntries [] [] = ⊤
KeepEntries [] (k ∷ kept) = ⊥
KeepEntries (e ∷ entries) [] = ⊥
KeepEntries (process p ∷ entries) (process q ∷ kept) = KeepsProcess p q × KeepEntries entries kept
KeepEntries (process p ∷ entries) (fault g ∷ kept) = ⊥
KeepEntries (fault f ∷ entries) (process q ∷ kept) = ⊥
KeepEntries (fault f ∷ entries) (fault g ∷ kept) = (f ≡ g) × All HasRanges kept

-- the entries of the processes below a process
abbrev pub child_entries : Children → List Entry
child_entries c = joined c.list.items ++ fault_entries c.fault

-- the entries of items whose first stands at a row
abbrev pub entries_from : ℕ → List Value → List Entry
entries_from row [] = []
entries_from row (v ∷ vs) = item_entries row v ++ entries_from (suc row) vs

-- what is gathered of these items; rows are counted up to the first fault
pub record AreChildren (vs : List Value) (c : Children) : Type 0 where
  pub entries : KeepEntries (entries_from 0 vs) (child_entries c)
  pub row : c.fault ≡ None → c.row ≡ length vs

-- of processes of which there were none at first
pub record AreChildrenOf (first : Children) (vs : List Value) (c : Children) : Type 0 where
  pub are : AreChildren [] first → AreChildren vs c

-- what is gathered of the members of a process
pub record AreProcessMembers (ms : Members) (p : ProcessMembers) : Type 0 where
  pub meta : IsFoundIn IsMeta (last_named (codes "meta") ms) p.meta
  pub libs : IsLibList (last_named (codes "libs") ms) p.libs
  pub threads : IsThreadList (last_named (codes "threads") ms) p.threads
  pub children : KeepEntries (below ms) (child_entries p.children)
