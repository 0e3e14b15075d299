-- The connections of a hall, served one after another by the same desk.
use Rattle.std.specs.Prelude.{◌≡◌, ◌⊎◌, ◌+◌, ℕ, ◌≤◌, Bool, List, [], ◌∷◌, ◌++◌, length, map, take, Some, None, ⊤}
use Rattle.std.specs.Option.{option_map, option_and_then}
use Rattle.std.specs.declared.option.Option.{Option}
use Rattle.prof_io.specs.Causes.{Rose}
use Rattle.prof_io.specs.Connections.{served}
use Rattle.prof_io.specs.Outside.{Seen}
use Rattle.prof_io.specs.Shelf.{Served}
use Rattle.prof_machine.specs.Known.{Known}
use Rattle.prof_machine.specs.Play.{Held, held_after_all}
use Rattle.prof_script.specs.Playing.{Stage}
use Rattle.prof_script.specs.Readings.{Laid}
use Rattle.prof_wire.specs.Messages.{Finish, AreMessages}
use Rattle.prof_serve.specs.Answers.{Handled, asked_in, played, responses}
use Rattle.prof_serve.specs.Serving.{AreFirst, ComesThen, Handles, closing}

-- all connections that were served, the present one with them, where they are told
abbrev pub all_served : Seen → Option (List Served)
all_served s = option_and_then (λ earlier. option_map (λ answered. served earlier s.place.present answered s.faults) s.written) s.place.earlier

-- so many of the connections to come were given, where they are told
abbrev pub AreGiven : Option (List (List ℕ)) → Option (List (List ℕ)) → ℕ → Type 0
AreGiven None now count = ⊤
AreGiven (Some coming) now count = (rest : List (List ℕ)) × (now ≡ Some rest) × (length coming ≡ count + length rest)

-- the messages of all connections
abbrev pub all_of : List (List Handled) → List Handled
all_of [] = []
all_of (handled ∷ more) = handled ++ all_of more

module _ (profiles : List (List ℕ × Known)) where
  -- all messages of a connection were handled, and it got all their responses; its counts don't differ
  abbrev pub IsAnswered : Held → Served → List Handled → Type 0
  IsAnswered held one handled =
      (finish : Finish) × AreMessages 0 one.came (map asked_in handled) finish × (one.answered ≡ responses profiles held handled ++ closing finish) × (one.second ≡ one.first)

  -- the first messages of a connection were handled, and it got a front of what answers them; its counts differ
  abbrev pub IsFaulted : Held → Served → List Handled → Type 0
  IsFaulted held one handled =
      (finish : Finish) × ((rest : List ℕ) × AreFirst 0 one.came (map asked_in handled) rest × ComesThen (length handled) rest finish)
      × ((n : ℕ) × (n ≤ length (responses profiles held handled ++ closing finish)) × (one.answered ≡ take n (responses profiles held handled ++ closing finish)))
      × Rose one.first one.second

  abbrev pub IsServed : Held → Served → List Handled → Type 0
  IsServed held one handled = IsAnswered held one handled ⊎ IsFaulted held one handled

  -- each connection was served so, with what is held behind those before it
  abbrev pub AllServed : Held → List Served → List (List Handled) → Type 0
  AllServed held [] [] = ⊤
  AllServed held (one ∷ ones) (handled ∷ more) = IsServed held one handled × AllServed (held_after_all profiles held (played handled)) ones more
  AllServed held [] (handled ∷ more) = ⊥
  AllServed held (one ∷ ones) [] = ⊥

  -- since these connections were served and these were to come, the first of these were served
  pub record Serves (held : Held) (old : List Served) (coming : List (List ℕ)) (now : Option (List Served)) (left : Option (List (List ℕ))) (handled : List (List Handled)) : Type 0 where
    pub before : List Served
    pub added : List Served
    pub rest : List (List ℕ)
    pub whole : now ≡ Some (before ++ added)
    pub same : length before ≡ length old
    pub came : coming ≡ map (λ one. one.came) added ++ rest
    pub left_is : left ≡ Some rest
    pub each : AllServed held added handled

  -- the same where they are told
  abbrev pub ServesTold : Held → Option (List Served) → Option (List (List ℕ)) → Option (List Served) → Option (List (List ℕ)) → List (List Handled) → Type 0
  ServesTold held None coming now left handled = ⊤
  ServesTold held (Some old) None now left handled = ⊤
  ServesTold held (Some old) (Some coming) now left handled = Serves held old coming now left handled

  -- So many connections were served, each with the messages that were handled on it; the desk has what is held behind all
  -- of them, and so has a keeper that tells its texts.
  abbrev pub ServesAll : Bool → Held → List (List ℕ × Laid) → Stage → Stage → ℕ → Type 0
  ServesAll told held laid old new count =
      (handled : List (List Handled)) × (length handled ≡ count) × Handles profiles told held laid (all_of handled) old new
      × ServesTold held (all_served old.out) old.out.place.coming (all_served new.out) new.out.place.coming handled
