-- The database that a keeper has begun.
use Rattle.std.specs.Prelude.{◌≡◌, ◌≢◌, ◌⊎◌, ℕ, List, [], string_bytes}
use Rattle.sqlite.specs.Store.{Ghosts}
use Rattle.sqlite.specs.State.{State, HasCleanDisk, Opens}
use Rattle.sqlite.specs.Held.{Held, state}
use Rattle.sqlite.specs.Steps.{IsEmpty, over_memory}
use Rattle.sqlite.specs.Files.{file_state, over_files}
use Rattle.prof_sql_keeper.specs.declared.base.Base.{Base}
use Rattle.prof_sql_keeper.specs.declared.base.Base.TheVariants.{Unbegun, Memory, Stored}
use Rattle.prof_sql_keeper.specs.Table.{MakesTable}

-- What holds of the states that the database shows before and after, as long as its disk gives back what was written; and what
-- holds where none is begun.
abbrev pub OnBase : Base → Base → Type 0 → (State → State → Type 0) → Type 0
OnBase Unbegun Unbegun none P = none
OnBase (Memory old) (Memory new) none P = HasCleanDisk (state over_memory new) → P (state over_memory old) (state over_memory new)
OnBase (Stored name old) (Stored same new) none P =
    (string_bytes same ≡ string_bytes name) × (HasCleanDisk (file_state new) → P (file_state old) (file_state new))
OnBase _ _ none P = ⊥

-- a connection that was opened, and has made the table
abbrev pub HasTable : {S : Type 0} → Ghosts S → (State → Type 0) → Held S → Type 0
HasTable {S} g IsOpened conn = HasCleanDisk (state g conn) → (first : Held S) × IsOpened (state g first) × MakesTable (state g first) (state g conn)

-- under the empty name a new database in memory, and else that of the file of the name
abbrev pub IsBegun : List ℕ → Base → Type 0
IsBegun name Unbegun = ⊥
IsBegun name (Memory conn) = (name ≡ []) × HasTable over_memory IsEmpty conn
IsBegun name (Stored of conn) = (name ≢ []) × (string_bytes of ≡ name) × HasTable over_files Opens conn

-- the file of that name is open
abbrev pub IsFile : List ℕ → Base → Type 0
IsFile name (Stored of conn) = string_bytes of ≡ name
IsFile name _ = ⊥

-- A name is begun. The file that is open stays so.
abbrev pub Begins : List ℕ → Base → Base → Type 0
Begins name old new = (IsFile name old × (new ≡ old)) ⊎ IsBegun name new
