-- Where messages go, by their targets and their verbs.
use Rattle.std.specs.Prelude.{◌≡◌, ◌⊎◌, ℕ, Bool, true, false, not, ◌&&◌, ◌||◌, ◌==◌, nat_lt, List, [], ◌∷◌, ◌++◌, length, codes, IsTrue, IsFalse}
use Rattle.std.specs.List.{list_any, list_all}
use Rattle.std.specs.Str.{IsUtf8, bytes_eq}
use Rattle.prof_wire.specs.declared.messages.Verb.{Verb}
use Rattle.prof_wire.specs.declared.messages.Verb.TheVariants.{Get, Post, Other}
use Rattle.prof_wire.specs.declared.routing.Route.{Route}
use Rattle.prof_wire.specs.declared.routing.Route.TheVariants.{Line, NoRoute, NoMethod}

-- the words of the commands that change nothing, and of all
abbrev pub reading_commands : List (List ℕ)
reading_commands = codes "tree" ∷ codes "inverted" ∷ codes "address" ∷ []

abbrev pub commands : List (List ℕ)
commands =
    codes "open" ∷ codes "load" ∷ codes "close" ∷ codes "push" ∷ codes "popto" ∷ codes "range" ∷ codes "poprangesto" ∷ codes "implementation"
    ∷ codes "search" ∷ codes "undo" ∷ codes "redo" ∷ codes "goto" ∷ codes "tree" ∷ codes "inverted" ∷ codes "markers" ∷ codes "address" ∷ codes "save" ∷ []

abbrev pub is_among : List (List ℕ) → List ℕ → Bool
is_among words word = list_any (bytes_eq word) words

-- one or more bytes other than a slash and a question mark
abbrev pub is_session : List ℕ → Bool
is_session name = nat_lt 0 (length name) && list_all (λ b. not (b == 47) && not (b == 63)) name

-- the target is `/sessions/SESSION/COMMAND`
pub record IsTarget (target session command : List ℕ) : Type 0 where
  pub is_text : IsUtf8 target
  pub whole : target ≡ codes "/sessions/" ++ session ++ 47 ∷ command
  pub has_session : IsTrue (is_session session)
  pub has_command : IsTrue (is_among commands command)

-- the verb serves the command
abbrev pub serves : Verb → List ℕ → Bool
serves Get command = is_among reading_commands command
serves Post command = true
serves Other command = false

-- where a message of that verb and that target goes
abbrev pub GoesTo : Verb → List ℕ → Route → Type 0
GoesTo verb target (Line session command) = IsTarget target session.now command.now × IsTrue (serves verb command.now)
GoesTo verb target NoRoute = (session command : List ℕ) → ¬ (IsTarget target session command)
GoesTo verb target (NoMethod get) =
    (session : List ℕ) × (command : List ℕ) × IsTarget target session command × IsFalse (serves verb command) × (get ≡ is_among reading_commands command)
