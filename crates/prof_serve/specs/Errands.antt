-- What messages ask for.
use Rattle.std.specs.Prelude.{◌≡◌, ℕ, Bool, List, [], ◌∷◌, ◌++◌, Option, IsTrue, IsFalse}
use Rattle.prof_wire.specs.Messages.{Asked}
use Rattle.prof_wire.specs.Routing.{IsTarget, serves, is_among, reading_commands}
use Rattle.prof_machine.specs.Play.{Fate}

-- What a message asks for: a request by its line, which fares so; whether there was memory for the text of its reply; and
-- how many transforms of its session are settled behind a request that found no memory, if it settled any. Or nothing that
-- is here, by its target or by its method (whether `GET` serves the command).
pub data Errand : Type 0 where
  asks : List ℕ → Fate → Bool → Option ℕ → Errand
  no_route : Errand
  no_method : Bool → Errand

-- a request's line: the session, the command, and the body, if there is one
abbrev pub request_line : List ℕ → List ℕ → List ℕ → List ℕ
request_line session command [] = session ++ 32 ∷ command
request_line session command (b ∷ body) = session ++ 32 ∷ command ++ 32 ∷ b ∷ body

-- a message asks for the request of a line
abbrev pub AsksLine : Asked → List ℕ → Type 0
AsksLine asked line =
    (session : List ℕ) × (command : List ℕ) × IsTarget asked.target session command × IsTrue (serves asked.method command)
    × (line ≡ request_line session command asked.body)

-- a message asks for that
abbrev pub AsksFor : Asked → Errand → Type 0
AsksFor asked (asks line fate said settled) = AsksLine asked line
AsksFor asked no_route = (session command : List ℕ) → ¬ (IsTarget asked.target session command)
AsksFor asked (no_method get) =
    (session : List ℕ) × (command : List ℕ) × IsTarget asked.target session command × IsFalse (serves asked.method command)
    × (get ≡ is_among reading_commands command)
