-- A profile as plain lists.
use Rattle.std.specs.Prelude.{◌≡◌, ℕ, ◌<◌, ◌≤◌, List, length}
use Rattle.std.specs.List.{All}
use Rattle.prof_raw.specs.declared.limits.TheConstants.{MOST_THREADS}
use Rattle.prof_tables.specs.Threads.{ThreadTables}

-- the threads, the names of the categories, and the number of the default category
pub record ProfileTables : Type 0 where
  pub threads : List ThreadTables
  pub categories : List (List ℕ)
  pub default : ℕ

-- a thread that counts in so many categories, with this default
abbrev pub CountsIn : ℕ → ℕ → ThreadTables → Type 0
CountsIn categories default t = (t.shared.categories ≡ categories) × (t.shared.default ≡ default)

-- what each profile keeps
pub record IsProfile (p : ProfileTables) : Type 0 where
  pub few : length p.threads ≤ MOST_THREADS
  pub default : p.default < length p.categories
  pub threads : All (CountsIn (length p.categories) p.default) p.threads
