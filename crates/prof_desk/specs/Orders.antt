-- What an order asks of the outside. Each of these has one equation for each order.
use Rattle.std.specs.Prelude.{ℕ, List, [], ◌∷◌, length, map, Bool, true, false}
use Rattle.prof_desk.specs.declared.status.Status.{Status}
use Rattle.prof_desk.specs.declared.status.Status.TheVariants.{Done, Usage, Broken, FileFault, OutFault, HallFault, KeeperFault}
use Rattle.prof_desk.specs.declared.words.Order.{Order}
use Rattle.prof_desk.specs.declared.words.Order.TheVariants.{Tree, Markers, Script, Serve, Check, Convert, Gen, Demo}

-- what a file is to be
pub data Kind : Type 0 where
  a_profile : Kind
  a_script : Kind

-- the files that it reads, in the order in which it begins them
abbrev pub files_of : Order → List (Kind × List ℕ)
files_of (Tree name) = (a_profile, name) ∷ []
files_of (Markers name thread search) = (a_profile, name) ∷ []
files_of (Script name script) = (a_profile, name) ∷ (a_script, script) ∷ []
files_of (Serve port connections sessions profiles) = map (λ f. (a_profile, f.1)) profiles
files_of (Check name) = (a_profile, name) ∷ []
files_of (Convert name) = (a_profile, name) ∷ []
files_of (Gen number) = []
files_of (Demo number) = []

-- how many of them it reads before it writes
abbrev pub needed_of : Order → ℕ
needed_of (Tree name) = 1
needed_of (Markers name thread search) = 1
needed_of (Script name script) = 2
needed_of (Serve port connections sessions profiles) = length profiles
needed_of (Check name) = 1
needed_of (Convert name) = 1
needed_of (Gen number) = 0
needed_of (Demo number) = 0

-- whether it asks the keeper, and under which name
abbrev pub asks_keeper : Order → Bool
asks_keeper (Script name script) = true
asks_keeper (Serve port connections sessions profiles) = true
asks_keeper order = false

abbrev pub keeper_name : Order → List ℕ
keeper_name (Serve port connections sessions profiles) = sessions
keeper_name order = []

-- whether it opens the hall, and for how many connections
abbrev pub asks_hall : Order → Bool
asks_hall (Serve port connections sessions profiles) = true
asks_hall order = false

abbrev pub connections_of : Order → ℕ
connections_of (Serve port connections sessions profiles) = connections
connections_of order = 0

-- whether there is such a file
abbrev pub has_files : List (Kind × List ℕ) → Bool
has_files [] = false
has_files (file ∷ files) = true

-- the statuses by which it can end
abbrev pub can_end : Order → Status → Bool
can_end order Usage = false
can_end order Broken = has_files (files_of order)
can_end order FileFault = has_files (files_of order)
can_end order HallFault = asks_hall order
can_end order KeeperFault = asks_keeper order
can_end order status = true

-- so many of its files at least are accepted where it ends so
abbrev pub least_of : Order → Status → ℕ
least_of order Done = length (files_of order)
least_of order OutFault = needed_of order
least_of order HallFault = length (files_of order)
least_of order KeeperFault = length (files_of order)
least_of order status = 0
